-- What a passed test of bounds says: of the first number or record, of how many there are, of a whole content.
use Prim.Native.Nat.{ℕ, ◌+◌, ◌≤◌}
use mathlib.Core.Path.{◌≡◌}
use mathlib.Core.Bool.{true, ◌&&◌}
use mathlib.Core.List.{List, [], ◌∷◌}
use native.Mathlib.Omega.{arith}
use borrow.Author.Tests.{leb-true}
use lib.Dec.{leb}
use lib.ListN.{length, length-map}
use Rattle.basics.proofs.Bools.{and_cases}
use Rattle.faults.specs.Limits.{last_atom, last_term}
use Rattle.faults.specs.inner.Places.{term_places}
use Rattle.timetable.specs.Table.{Record, Content, latest, ascends, times_fit, names_of, within}

pub record First (low high x : ℕ) (xs : List ℕ) : Type 0 where
  pub above : low ≤ x
  pub below : x ≤ high
  pub others : ascends (x + 1) high xs ≡ true

pub first : (low high x : ℕ) (xs : List ℕ) → ascends low high (x ∷ xs) ≡ true → First low high x xs
unfolding ascends
first low high x xs h =
    let a = leb low x in
    let b = leb x high in
    let d = ascends (x + 1) high xs in
    let ab = (and_cases (a && b) d h).0 in
    record {
      above = leb-true low x (and_cases a b ab).0;
      below = leb-true x high (and_cases a b ab).1;
      others = (and_cases (a && b) d h).1;
    }

-- strictly ascending numbers are no more than there are from low to high
pub few : (low high : ℕ) (xs : List ℕ) → low ≤ high + 1 → ascends low high xs ≡ true → length xs + low ≤ high + 1
few low high [] h g = omega arith
few low high (x ∷ xs) h g =
    let f = first low high x xs g in
    omega (arith, f.above, f.below, few (x + 1) high xs (omega (arith, f.below)) f.others)

pub record FirstTime (r : Record) (rs : List Record) : Type 0 where
  pub timely : r.time ≤ latest
  pub others : times_fit rs ≡ true

pub first-time : (r : Record) (rs : List Record) → times_fit (r ∷ rs) ≡ true → FirstTime r rs
unfolding times_fit
first-time r rs h =
    let a = leb r.time latest in
    record { timely = leb-true r.time latest (and_cases a (times_fit rs) h).0; others = (and_cases a (times_fit rs) h).1 }

pub record Within (c : Content) : Type 0 where
  pub names : ascends 0 last_term (names_of c.records) ≡ true
  pub times : times_fit c.records ≡ true
  pub atoms : ascends 1 last_atom c.atoms ≡ true

pub is_within : (c : Content) → within c ≡ true → Within c
unfolding within
is_within c h =
    let a = ascends 0 last_term (names_of c.records) in
    let b = times_fit c.records in
    let d = ascends 1 last_atom c.atoms in
    let ab = (and_cases (a && b) d h).0 in
    record { names = (and_cases a b ab).0; times = (and_cases a b ab).1; atoms = (and_cases (a && b) d h).1 }

pub from-within : (c : Content) → Within c → within c ≡ true
unfolding within
from-within c w = rw (w.names, w.times, w.atoms)

-- at most 1,024 names
pub names-few : (c : Content) → within c ≡ true → length c.records ≤ term_places
names-few c h =
    omega (arith, few 0 last_term (names_of c.records) (omega arith) (is_within c h).names, length-map c.records (λ (r : Record). r.name))
