-- A normal body, as docs/RULES.md says it. Assumes nothing.
use Prim.Native.Nat.{suc, ◌+◌, ◌≤◌}
use mathlib.Core.Bool.{Bool, true, false, not, cond, ◌&&◌}
use mathlib.Core.List.{List, [], ◌∷◌, map}
use mathlib.Core.Path.{◌≡◌, refl, ap, ◌∙◌, sym}
use native.Mathlib.Omega.{arith}
use borrow.Author.Tests.{leb-true, leb-false, le-leb, lt-leb}
use lib.Dec.{leb}
use lib.ListN.{length}
use Rattle.basics.proofs.Bools.{and_swap, and_assoc}
use Rattle.aspif.specs.Statements.{Literal, positive, negated, normal}
use Rattle.stable.specs.Meaning.{Atoms, one}
use Rattle.stable.specs.Normal.{all_true, negated_outside, without, NormalTrue, NormalReduct}
use Rattle.stable.specs.inner.Steps.{literal_holds, all_hold, reached_by, body_holds}
use Rattle.stable.proofs.Reduct.{literal_self, holds_self, holds-reduct}

module _ (X S : Atoms) where
  -- all count 1, so no more is reached than there are
  reached_most : (ls : List Literal) → reached_by X S (map one ls) ≤ length ls
  reached_most [] = omega arith
  reached_most (l ∷ ls) = go (literal_holds X S l) (reached_most ls)
    where
      go : (t : Bool) → reached_by X S (map one ls) ≤ length ls → cond t 1 0 + reached_by X S (map one ls) ≤ suc (length ls)
      go true h = omega arith
      go false h = omega arith

  -- and all are wanted
  pub normal-holds : (ls : List Literal) → body_holds X S (normal ls) ≡ all_hold X S ls
  normal-holds [] = refl
  normal-holds (l ∷ ls) = go (literal_holds X S l) (all_hold X S ls) (normal-holds ls)
    where
      go : (t u : Bool) → leb (length ls) (reached_by X S (map one ls)) ≡ u → leb (suc (length ls)) (cond t 1 0 + reached_by X S (map one ls)) ≡ (t && u)
      go true true q = le-leb (suc (length ls)) (1 + reached_by X S (map one ls)) (omega (arith, leb-true (length ls) (reached_by X S (map one ls)) q))
      go true false q = lt-leb (suc (length ls)) (1 + reached_by X S (map one ls)) (omega (arith, leb-false (length ls) (reached_by X S (map one ls)) q))
      go false u q = lt-leb (suc (length ls)) (0 + reached_by X S (map one ls)) (omega (arith, reached_most ls))

  hold_outside : (ls : List Literal) → all_hold X S ls ≡ (negated_outside X ls && all_true S (without ls))
  hold_outside [] = refl
  hold_outside (positive a ∷ ls) = ap (λ t. S a && t) (hold_outside ls) ∙ and_swap (S a) (negated_outside X ls) (all_true S (without ls))
  hold_outside (negated a ∷ ls) = ap (λ t. not (X a) && t) (hold_outside ls) ∙ and_assoc (not (X a)) (negated_outside X ls) (all_true S (without ls))

all_self : (X : Atoms) (ls : List Literal) → all_hold X X ls ≡ all_true X ls
all_self X [] = refl
all_self X (l ∷ ls) = rw (literal_self X l, all_self X ls)

-- it is true if each of its literals is
pub normal_true : NormalTrue
normal_true X ls = sym (holds_self X (normal ls)) ∙ normal-holds X X ls ∙ all_self X ls

-- the reduct keeps it if its negated atoms are all outside X, without those literals
pub normal-reduct : NormalReduct
normal-reduct X S ls = holds-reduct X S (normal ls) ∙ normal-holds X S ls ∙ hold_outside X S ls
