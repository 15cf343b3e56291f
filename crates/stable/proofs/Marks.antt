-- Marks in a bitmap: what one more does to the set and to the count. Assumes nothing.
use Prim.Native.Nat.{ℕ, zero, suc, ◌+◌, ◌≤◌, ◌<◌}
use mathlib.Core.Bool.{Bool, true, false, not, cond, ◌||◌}
use mathlib.Core.List.{List, [], ◌∷◌}
use mathlib.Core.Path.{◌≡◌, refl, ap, ◌∙◌, sym}
use native.Mathlib.Omega.{arith}
use borrow.Author.Tests.{ne_eqb, eqb-true, eqb-false}
use lib.Dec.{eqb}
use lib.ListN.{length, get_or, set}
use lib.Seq.{get_or-set_same, get_or-set_other, set-get_or}
use Rattle.basics.specs.inner.Bitmaps.{is_marked}
use Rattle.stable.specs.inner.Steps.{marked_count, GrownMarks, MarkedOne}

bit_le : (b : Bool) → cond b 1 0 ≤ 1
bit_le true = omega arith
bit_le false = omega arith

pub marked_le : (f : List ℕ) → marked_count f ≤ length f
marked_le [] = omega arith
marked_le (v ∷ f) = omega (arith, bit_le (eqb v 1), marked_le f)

marked-set : (f : List ℕ) (a : ℕ) → a < length f → (get_or f a 0 ≡ 1 → ⊥) → marked_count (set f a 1) ≡ marked_count f + 1
marked-set [] a h e = absurd (let z : ⊥ = omega arith in z)
marked-set (v ∷ f) zero h e = rw (ne_eqb v 1 e) (omega arith)
marked-set (v ∷ f) (suc a) h e = omega (arith, marked-set f a (omega arith) e)

pub grown_refl : {f : List ℕ} → GrownMarks f f 0
grown_refl = record { counted = omega arith; same = λ _. refl }

pub grown_trans : {f g h : List ℕ} {r s : ℕ} → GrownMarks f g r → GrownMarks g h s → GrownMarks f h (r + s)
grown_trans p q = record { counted = omega (arith, p.counted, q.counted); same = λ e. q.same (omega arith) ∙ p.same (omega arith) }

-- a mark that was there leaves the bitmap as it was, another counts
pub mark : (f : List ℕ) (a : ℕ) → a < length f → MarkedOne f (set f a 1) a (cond (not (eqb (get_or f a 0) 1)) 1 0)
mark f a h = go (eqb (get_or f a 0) 1) refl
  where
    go : (t : Bool) → eqb (get_or f a 0) 1 ≡ t → MarkedOne f (set f a 1) a (cond (not t) 1 0)
    go true e =
        let s : set f a 1 ≡ f = ap (λ v. set f a v) (sym (eqb-true (get_or f a 0) 1 e)) ∙ set-get_or f a 0 in
        record { stored = refl; grown = rw s grown_refl }
    go false e = record {
      stored = refl;
      grown = record { counted = marked-set f a h (eqb-false (get_or f a 0) 1 e); same = λ k. absurd (let z : ⊥ = omega arith in z) };
    }

-- one more atom
pub member_set : (f : List ℕ) (a b : ℕ) → a < length f → is_marked (set f a 1) b ≡ (eqb b a || is_marked f b)
member_set f a b h = go (eqb b a) refl
  where
    go : (t : Bool) → eqb b a ≡ t → is_marked (set f a 1) b ≡ (eqb b a || is_marked f b)
    go true e = rw (e, eqb-true b a e, get_or-set_same f a 1 0 h)
    go false e = rw (e, get_or-set_other f a b 1 0 (eqb-false b a e))
