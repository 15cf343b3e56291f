-- Marked numbers of a bitmap: none left, one passed, one taken; how many they are, and that they ascend.
use Prim.Native.Nat.{ℕ, suc, ◌+◌, ◌-◌, ◌≤◌, ◌<◌}
use mathlib.Core.Path.{◌≡◌, refl, ap}
use mathlib.Core.Bool.{Bool, true, false, cond}
use mathlib.Core.List.{List, [], ◌∷◌}
use native.Mathlib.Omega.{arith}
use native.Mathlib.Numerals.{add-one}
use borrow.Author.Tests.{eq-eqb, ne_eqb, le-leb}
use lib.Dec.{eqb}
use lib.ListN.{length, get_or, drop, length-drop, drop_of_length-le}
use lib.Seq.{drop-cons}
use Rattle.std.specs.Prelude.{filter}
use Rattle.basics.specs.Bools.{pick}
use Rattle.basics.specs.inner.Bitmaps.{marks, marked_from}
use Rattle.timetable.specs.Table.{ascends}

module _ (map : List ℕ) (i : ℕ) where
  pub marked-none : length map ≤ i → marked_from i map ≡ []
  unfolding marks marked_from
  marked-none h = rw (drop_of_length-le map h)

  pub marked_pass : i < length map → (get_or map i 0 ≡ 1 → ⊥) → marked_from (i + 1) map ≡ marked_from i map
  unfolding marks marked_from
  marked_pass h n = rw (drop-cons map i 0 h, ne_eqb _ _ n, add-one)

  pub marked-take : i < length map → get_or map i 0 ≡ 1 → i ∷ marked_from (i + 1) map ≡ marked_from i map
  unfolding marks marked_from
  marked-take h n = rw (drop-cons map i 0 h, eq-eqb _ _ n, add-one)

few-marks : (i : ℕ) (bs : List ℕ) → length (marks i bs) ≤ length bs
unfolding marks
few-marks i [] = omega arith
few-marks i (b ∷ bs) = go (eqb b 1) (few-marks (i + 1) bs)
  where
    go : (t : Bool) → length (marks (i + 1) bs) ≤ length bs
        → length (pick t (i ∷ marks (i + 1) bs) (marks (i + 1) bs)) ≤ suc (length bs)
    go true h = omega arith
    go false h = omega arith

-- as many numbers are marked as places hold 1
pub count-marks : (i : ℕ) (bs : List ℕ) → length (filter (λ b. eqb b 1) bs) ≡ length (marks i bs)
unfolding marks
count-marks i [] = refl
count-marks i (b ∷ bs) = go (eqb b 1) (count-marks (i + 1) bs)
  where
    go : (t : Bool) → length (filter (λ c. eqb c 1) bs) ≡ length (marks (i + 1) bs)
        → length (cond t (b ∷ filter (λ c. eqb c 1) bs) (filter (λ c. eqb c 1) bs)) ≡ length (pick t (i ∷ marks (i + 1) bs) (marks (i + 1) bs))
    go true e = ap suc e
    go false e = e

-- no more numbers are marked than there are places
pub few-marked : (map : List ℕ) (i : ℕ) → length (marked_from i map) ≤ length map - i
unfolding marked_from
few-marked map i = omega (arith, few-marks i (drop i map), length-drop i map)

marks_ascend : (i low high : ℕ) (bs : List ℕ) → low ≤ i → i + length bs ≤ high + 1 → ascends low high (marks i bs) ≡ true
unfolding marks ascends
marks_ascend i low high [] l h = refl
marks_ascend i low high (b ∷ bs) l h =
    go (eqb b 1) (marks_ascend (i + 1) (i + 1) high bs (omega arith) (omega arith)) (marks_ascend (i + 1) low high bs (omega arith) (omega arith))
  where
    go : (t : Bool) → ascends (i + 1) high (marks (i + 1) bs) ≡ true → ascends low high (marks (i + 1) bs) ≡ true
        → ascends low high (pick t (i ∷ marks (i + 1) bs) (marks (i + 1) bs)) ≡ true
    go true u v = rw (le-leb low i l, le-leb i high (omega arith)) u
    go false u v = v

-- the marked numbers from low on ascend strictly, and none is above the last that has a place
pub marked_ascend : (map : List ℕ) (low high : ℕ) → length map ≤ high + 1 → low ≤ high + 1
    → ascends low high (marked_from low map) ≡ true
unfolding marked_from
marked_ascend map low high e l =
    marks_ascend low low high (drop low map) (omega arith) (omega (arith, length-drop low map))
