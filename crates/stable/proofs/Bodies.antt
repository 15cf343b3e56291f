-- The body on the tape, by its kind. Assumes nothing.
use Prim.Native.Nat.{ℕ, ◌+◌}
use mathlib.Core.List.{List, map}
use mathlib.Core.Path.{◌≡◌, sym}
use borrow.Author.Tests.{eq-eqb, ne_eqb}
use lib.Dec.{leb}
use lib.ListN.{get_or}
use Rattle.aspif.specs.Statements.{normal, weights}
use Rattle.aspif.specs.Grammar.{literal_of, premise_of}
use Rattle.aspif.specs.inner.Words.{normal_kind, word, list_at, literals_at, premises_at, body_at}
use Rattle.aspif.specs.inner.Kept.{Counted, SmallLiterals, SmallPremise}
use Rattle.stable.specs.Meaning.{Atoms}
use Rattle.stable.specs.inner.Index.{BodyOn}
use Rattle.stable.specs.inner.Steps.{all_hold, reached_by, body_holds}
use Rattle.stable.proofs.Normal.{normal-holds}

module _ (t : List ℕ) (p : ℕ) where
  normal-is : get_or t p 0 ≡ normal_kind → body_at t p ≡ normal (literals_at t (p + 2))
  unfolding word
  normal-is e = rw (eq-eqb (get_or t p 0) normal_kind e)

  weights-is : (get_or t p 0 ≡ normal_kind → ⊥) → body_at t p ≡ weights (word t (p + 1)) (premises_at t (p + 2))
  unfolding word
  weights-is n = rw (ne_eqb (get_or t p 0) normal_kind n)

  -- the words l behind the count of its list
  module _ {l : List ℕ} (i : l ≡ list_at t (p + 2)) where
    module _ (X S : Atoms) where
      -- a normal body is true if each of its literals is
      pub normal-same : get_or t p 0 ≡ normal_kind → all_hold X S (map literal_of l) ≡ body_holds X S (body_at t p)
      normal-same e = rw (i, normal-is e) (sym (normal-holds X S (literals_at t (p + 2))))

      -- a weight body if its bound is reached
      pub weights-same : {k : ℕ} → (get_or t p 0 ≡ normal_kind → ⊥) → k ≡ word t (p + 1) → leb k (reached_by X S (map premise_of l)) ≡ body_holds X S (body_at t p)
      weights-same n e = rw (i, weights-is n, e)

    module _ (b : BodyOn t p) where
      pub small-literals : get_or t p 0 ≡ normal_kind → SmallLiterals (map literal_of l)
      small-literals e = rw i (rw (normal-is e) at b.small)

      pub small-premises : (get_or t p 0 ≡ normal_kind → ⊥) → Counted SmallPremise (map premise_of l)
      small-premises n = let s = rw (weights-is n) at b.small in rw i s.1
