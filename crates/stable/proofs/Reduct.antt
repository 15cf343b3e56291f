-- A body in the reduct: the one walk of the code against the definition. Assumes nothing.
use Prim.Native.Nat.{ℕ, ◌+◌, ◌-◌, ◌≤◌}
use mathlib.Core.Bool.{Bool, true, false, not, cond}
use mathlib.Core.List.{List, [], ◌∷◌}
use mathlib.Core.Path.{◌≡◌, refl, ◌∙◌, sym}
use native.Mathlib.Omega.{arith}
use borrow.Author.Tests.{leb-true, leb-false, le-leb, lt-leb}
use lib.Dec.{leb}
use Rattle.aspif.specs.Statements.{Literal, positive, negated, Premise, Body}
use Rattle.stable.specs.Meaning.{Atoms, literal_true, premises, lower_bound, reached, body_true, all_taken_off, positives, reduct}
use Rattle.stable.specs.inner.Steps.{literal_holds, reached_by, body_holds}

-- one set for both signs is plain truth
pub literal_self : (X : Atoms) (l : Literal) → literal_holds X X l ≡ literal_true X l
literal_self X (positive a) = refl
literal_self X (negated a) = refl

reached_self : (X : Atoms) (ps : List Premise) → reached_by X X ps ≡ reached X ps
reached_self X [] = refl
reached_self X (p ∷ ps) = rw (literal_self X p.literal, reached_self X ps)

pub holds_self : (X : Atoms) (b : Body) → body_holds X X b ≡ body_true X b
holds_self X b = rw (reached_self X (premises b))

-- what is reached is what is taken off, and what the positive literals reach in S
reached_split : (X S : Atoms) (ps : List Premise) → reached_by X S ps ≡ all_taken_off X ps + reached S (positives ps)
reached_split X S [] = refl
reached_split X S (p ∷ ps) = go p.literal refl (reached_split X S ps)
  where
    sign : (t : Bool) → cond (not t) p.weight 0 + (all_taken_off X ps + reached S (positives ps)) ≡ (cond t 0 p.weight + all_taken_off X ps) + reached S (positives ps)
    sign true = omega arith
    sign false = omega arith

    go : (l : Literal) → p.literal ≡ l → reached_by X S ps ≡ all_taken_off X ps + reached S (positives ps)
        → reached_by X S (p ∷ ps) ≡ all_taken_off X (p ∷ ps) + reached S (positives (p ∷ ps))
    go (positive a) e r = rw (e, r) (omega arith)
    go (negated a) e r = rw (e, r) (sign (X a))

-- taken off a bound, or reached: the same
pub off_bound : (k o r : ℕ) → leb (k - o) r ≡ leb k (o + r)
off_bound k o r = go (leb k (o + r)) refl
  where
    go : (t : Bool) → leb k (o + r) ≡ t → leb (k - o) r ≡ t
    go true q = le-leb (k - o) r (omega (arith, leb-true k (o + r) q))
    go false q = lt-leb (k - o) r (omega (arith, leb-false k (o + r) q))

-- the reduct by X is true in S exactly if the body is in the one walk
pub holds-reduct : (X S : Atoms) (b : Body) → body_true S (reduct X b) ≡ body_holds X S b
holds-reduct X S b =
    off_bound (lower_bound b) (all_taken_off X (premises b)) (reached S (positives (premises b))) ∙ rw (reached_split X S (premises b))

-- ---- more atoms in S make no body false

module _ (X S S' : Atoms) (m : (a : ℕ) → S a ≡ true → S' a ≡ true) where
  literal_mono : (l : Literal) (w : ℕ) → cond (literal_holds X S l) w 0 ≤ cond (literal_holds X S' l) w 0
  literal_mono (positive a) w = go (S a) refl
    where
      go : (t : Bool) → S a ≡ t → cond t w 0 ≤ cond (S' a) w 0
      go true q = rw (m a q) (omega arith)
      go false q = omega arith
  literal_mono (negated a) w = omega arith

  reached_mono : (ps : List Premise) → reached_by X S ps ≤ reached_by X S' ps
  reached_mono [] = omega arith
  reached_mono (p ∷ ps) = omega (arith, literal_mono p.literal p.weight, reached_mono ps)

  pub holds_mono : (b : Body) → body_holds X S b ≡ true → body_holds X S' b ≡ true
  holds_mono b h =
      le-leb (lower_bound b) (reached_by X S' (premises b)) (omega (arith, leb-true (lower_bound b) (reached_by X S (premises b)) h, reached_mono (premises b)))

  -- nor the reduct of one
  pub reduct_mono : (b : Body) → body_true S (reduct X b) ≡ true → body_true S' (reduct X b) ≡ true
  reduct_mono b h = holds-reduct X S' b ∙ holds_mono b (sym (holds-reduct X S b) ∙ h)
