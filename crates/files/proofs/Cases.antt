-- A case that is found stands within its container, from its place on. Assumes nothing.
use Prim.Native.Nat.{ℕ, ◌+◌, ◌≤◌, ◌<◌}
use mathlib.Core.Path.{◌≡◌, refl}
use mathlib.Core.List.{List}
use Rattle.std.specs.Prelude.{Option, Some, None}
use mathlib.Core.Bool.{Bool, true, false}
use native.Mathlib.Omega.{arith}
use borrow.Author.Tests.{eqb-true}
use lib.Dec.{eqb, lit<}
use lib.ListN.{length}
use Rattle.basics.specs.Bools.{pick}
use Rattle.faults.specs.Limits.{longest_text}
use Rattle.fields.specs.Reading.{Reading, found, fault}
use Rattle.fields.specs.Fields.{feed, byte_at, field, natural_then}
use Rattle.fields.proofs.Naturals.{there}
use Rattle.fields.proofs.Readers.{by_bounds, reads-ends, natural_then-reads}
use Rattle.files.specs.inner.Cases.{case_of, case_at, next_at, Stands}
use Rattle.files.specs.declared.container.Case.{Case}

-- a length is at most that of the longest text, and its line ends within the container
pub length_in : (s : List ℕ) (at : ℕ) {n start : ℕ} → found n start ≡ natural_then 5 longest_text feed s at → (n ≤ longest_text) × (at ≤ start) × (start ≤ length s)
length_in s at {n} {start} e =
    let h = reads-ends (lit< tt) (natural_then-reads 5 longest_text feed by_bounds (lit< tt) s at) n start e in
    (h.0, omega arith, h.2)

-- it stands there
pub case_in : (s : List ℕ) (at : ℕ) {c : Case} → Some c ≡ case_at s at → Stands s at c
unfolding case_at
case_in s at {c} = go (natural_then 5 longest_text feed s from) refl
  where
    from : ℕ
    from = at + length (field s at)

    ended : (n l : ℕ) → found n l ≡ natural_then 5 longest_text feed s from → (t : Bool) → eqb (byte_at s (l + n)) feed ≡ t
        → Some c ≡ pick t (Some (record { name = from; start = l; end = l + n })) None → Stands s at c
    ended n l h true q e =
        let i : c.name ≡ from = (cc) in
        let j : c.start ≡ l = (cc) in
        let k : c.end ≡ l + n = (cc) in
        omega (arith, length_in s from h, there feed s (l + n) (lit< tt) (eqb-true (byte_at s (l + n)) feed q))
    ended n l h false q e = let z : ◌≡◌ {A = ℕ} 0 1 = (cc) in absurd (omega arith)

    go : (a : Reading ℕ) → a ≡ natural_then 5 longest_text feed s from → Some c ≡ case_of s from a → Stands s at c
    go (found n l) h e = ended n l h (eqb (byte_at s (l + n)) feed) refl e
    go (fault k p) h e = let z : ◌≡◌ {A = ℕ} 0 1 = (cc) in absurd (omega arith)

-- ---- the next case

module _ (s : List ℕ) where
  -- it begins within the container or at its end
  pub next-within : (at : ℕ) → next_at s (case_at s at) ≤ length s
  next-within at = go (case_at s at) refl
    where
      go : (a : Option Case) → a ≡ case_at s at → next_at s a ≤ length s
      go (Some c) e = omega (arith, case_in s at e)
      go None e = omega arith

  -- from before the end, further on
  pub next_further : (at : ℕ) → at < length s → at < next_at s (case_at s at)
  next_further at h = go (case_at s at) refl
    where
      go : (a : Option Case) → a ≡ case_at s at → at < next_at s a
      go (Some c) e = omega (arith, case_in s at e)
      go None e = h

  -- from anywhere, no further back
  pub next_grows : (at : ℕ) → at ≤ length s → at ≤ next_at s (case_at s at)
  next_grows at h = go (case_at s at) refl
    where
      go : (a : Option Case) → a ≡ case_at s at → at ≤ next_at s a
      go (Some c) e = omega (arith, case_in s at e)
      go None e = h

  -- the one behind it too
  pub second_further : (at : ℕ) → at < length s → at < next_at s (case_at s (next_at s (case_at s at)))
  second_further at h = omega (arith, next_further at h, next_grows (next_at s (case_at s at)) (next-within at))

  -- at the end there is none
  pub next_end : next_at s (case_at s (length s)) ≡ length s
  next_end = go (case_at s (length s)) refl
    where
      go : (a : Option Case) → a ≡ case_at s (length s) → next_at s a ≡ length s
      go (Some c) e = absurd (omega (arith, case_in s (length s) e))
      go None e = refl
