-- What a readable plan is: none of 1 to 5, 61 to 64 and 7 is given, and each part was read. Assumes nothing.
use Prim.Native.Nat.{ℕ, ◌≤◌}
use mathlib.Core.Path.{◌≡◌, refl}
use mathlib.Core.Bool.{Bool, true, false}
use mathlib.Core.List.{List}
use native.Mathlib.Omega.{arith}
use borrow.Author.Tests.{ltb-false, le-ltb}
use lib.Dec.{ltb}
use lib.ListN.{length}
use Rattle.faults.specs.Limits.{cycle_room, longest_text, table_room}
use Rattle.basics.specs.Bools.{pick}
use Rattle.faults.specs.Answer.{Answer, got, refused, bind, mapped}
use Rattle.aspif.specs.Statements.{Line}
use Rattle.aspif.specs.Grammar.{statements}
use Rattle.aspif.specs.Candidate.{candidate}
use Rattle.terms.specs.Terms.{Stated}
use Rattle.terms.specs.Reasons.{differences}
use Rattle.terms.specs.inner.Tables.{States}
use Rattle.terms.proofs.Six.{differences-got}
use Rattle.judge.specs.Plan.{Asked, Rooms, Ready, ready, lent, legible, pair, readable}

never : {A : Type 0} {k p : ℕ} {a : A} → refused k p ≡ got a → ⊥
never e = let z : ◌≡◌ {A = ℕ} 0 1 = (cc) in omega arith

-- what was read, of rooms that are long enough
pub record Read (a : Asked) (b : Rooms) (q : Ready) : Type 0 where
  pub room : table_room ≤ length b.room
  pub cycle : cycle_room ≤ length b.cycle
  pub short : length a.text ≤ longest_text
  pub lines : statements a.text ≡ got q.lines
  pub stated : List Stated
  pub sound : States q.lines stated
  pub atoms : candidate a.cand ≡ got q.atoms

-- rooms that were lent are long enough
long : (b : Rooms) {u : Unit {0}} → lent b ≡ got u → (table_room ≤ length b.room) × (cycle_room ≤ length b.cycle)
unfolding lent
long b {u} = go (ltb (length b.room) table_room) (ltb (length b.cycle) cycle_room) refl refl
  where
    go : (v w : Bool) → ltb (length b.room) table_room ≡ v → ltb (length b.cycle) cycle_room ≡ w
        → pick v (refused 1 table_room) (pick w (refused 1 cycle_room) (got tt)) ≡ got u → (table_room ≤ length b.room) × (cycle_room ≤ length b.cycle)
    go true w e f h = absurd (never h)
    go false true e f h = absurd (never h)
    go false false e f h = (ltb-false (length b.room) table_room e, ltb-false (length b.cycle) cycle_room f)

-- the lines of a text that is legible, and what they state
record Legible (text : List ℕ) (ls : List Line) : Type 0 where
  short : length text ≤ longest_text
  lines : statements text ≡ got ls
  stated : List Stated
  sound : States ls stated

legible-is : (text : List ℕ) (ls : List Line) → legible text ≡ got ls → Legible text ls
unfolding legible
legible-is text ls = go (ltb longest_text (length text)) (statements text) refl refl
  where
    go₂ : (xs : List Line) → length text ≤ longest_text → statements text ≡ got xs → (a : Answer (List Stated)) → differences text xs ≡ a
        → mapped (λ (ds : List Stated). xs) a ≡ got ls → Legible text ls
    go₂ xs t s (got ds) d e = let z : xs ≡ ls = (cc) in record { short = t; lines = (cc); stated = ds; sound = differences-got text ls ds (rw z at d) }
    go₂ xs t s (refused k p) d e = absurd (never e)

    go : (w : Bool) (a : Answer (List Line)) → ltb longest_text (length text) ≡ w → statements text ≡ a
        → pick w (refused 2 longest_text) (bind a (λ xs. mapped (λ (ds : List Stated). xs) (differences text xs))) ≡ got ls → Legible text ls
    go true a t s e = absurd (never e)
    go false (got xs) t s e = go₂ xs (ltb-false longest_text (length text) t) s (differences text xs) refl e
    go false (refused k p) t s e = absurd (never e)

-- a plan that is readable was read
pub read : (a : Asked) (b : Rooms) (q : Ready) → readable a b ≡ got q → Read a b q
unfolding readable pair
read a b q = go (lent b) (legible a.text) (candidate a.cand) refl refl refl
  where
    go : (u : Answer Unit) (v : Answer (List Line)) (w : Answer (List ℕ)) → lent b ≡ u → legible a.text ≡ v → candidate a.cand ≡ w
        → ◌≡◌ {A = Answer Ready} (bind u (λ (i : Unit {0}). bind v (λ ls. mapped (ready ls) w))) (got q) → Read a b q
    go (refused k p) v w e f g h = absurd (never h)
    go (got i) (refused k p) w e f g h = absurd (never h)
    go (got i) (got ls) (refused k p) e f g h = absurd (never h)
    go (got i) (got ls) (got cs) e f g h =
        let z : ◌≡◌ {A = Ready} (ready ls cs) q = (cc) in
        let y : ls ≡ q.lines = (cc) in
        let x : cs ≡ q.atoms = (cc) in
        let l = long b e in
        let t = legible-is a.text q.lines (rw y at f) in
        record { room = l.0; cycle = l.1; short = t.short; lines = t.lines; stated = t.stated; sound = t.sound; atoms = rw x at g }

-- a plan that was read is readable
pub readable-got : (a : Asked) (b : Rooms) {ls : List Line} {ds : List Stated} {cs : List ℕ}
    → table_room ≤ length b.room → cycle_room ≤ length b.cycle → length a.text ≤ longest_text
    → statements a.text ≡ got ls → States ls ds → candidate a.cand ≡ got cs
    → readable a b ≡ got (ready ls cs)
unfolding readable lent legible pair
readable-got a b h g l s d c =
    rw (le-ltb (length b.room) table_room h, le-ltb (length b.cycle) cycle_room g, le-ltb longest_text (length a.text) l, s, d a.text, c)
