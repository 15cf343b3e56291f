-- The head of a rule on the tape: choice or plain; and what marking its atoms adds. Assumes nothing.
use Prim.Native.Nat.{ℕ, ◌+◌}
use mathlib.Core.Bool.{Bool, true, false, ◌&&◌}
use mathlib.Core.List.{List, [], ◌∷◌}
use mathlib.Core.Path.{◌≡◌, refl, ap, ◌∙◌, sym}
use borrow.Author.Tests.{eq-eqb, ne_eqb}
use lib.Dec.{eqb}
use lib.ListN.{length, get_or}
use Rattle.std.proofs.Common.{Some, None}
use Rattle.std.specs.List.{slice_get}
use Rattle.basics.specs.Lists.{among}
use Rattle.basics.specs.inner.Bitmaps.{is_marked}
use Rattle.basics.proofs.Bools.{or_none}
use Rattle.aspif.specs.Statements.{empty, single, choice, in_head}
use Rattle.aspif.specs.Grammar.{plain_head}
use Rattle.aspif.specs.inner.Words.{word, list_at, body_at}
use Rattle.aspif.specs.inner.Kept.{SmallHead}
use Rattle.aspif.proofs.Walking.{words-length}
use Rattle.stable.specs.Meaning.{Atoms, reduct_head}
use Rattle.stable.specs.inner.Index.{rule_at, BodyOn, RuleOn}
use Rattle.stable.specs.inner.Steps.{body_holds, fires, AddedMarks}
use Rattle.stable.proofs.Marks.{grown_refl}

-- a plain head by its first word, if there is one
pub no-head : (hs : List ℕ) → None ≡ slice_get hs 0 → plain_head hs ≡ empty
no-head [] e = refl
no-head (h ∷ hs) e = cc

pub one-head : {a : ℕ} (hs : List ℕ) → Some a ≡ slice_get hs 0 → plain_head hs ≡ single a
one-head [] e = cc
one-head (h ∷ hs) e = cc

module _ (t : List ℕ) (q : ℕ) where
  pub choice-head : (get_or t (q + 1) 0 ≡ 0 → ⊥) → (rule_at t q).head ≡ choice (list_at t (q + 2))
  unfolding word
  choice-head n = rw (ne_eqb (get_or t (q + 1) 0) 0 n)

  pub plain_head_lem : get_or t (q + 1) 0 ≡ 0 → (rule_at t q).head ≡ plain_head (list_at t (q + 2))
  unfolding word
  plain_head_lem e = rw (eq-eqb (get_or t (q + 1) 0) 0 e)

-- in the reduct a plain head is as it is
plain_reduct : (X : Atoms) (hs : List ℕ) (a : ℕ) → reduct_head X (plain_head hs) a ≡ in_head a (plain_head hs)
plain_reduct X [] a = refl
plain_reduct X (h ∷ hs) a = sym (or_none (eqb a h))

module _ {t : List ℕ} {q : ℕ} (k : RuleOn t q) where
  -- the heads hs, as the code cuts them out
  module _ {hs : List ℕ} (w : hs ≡ list_at t (q + 2)) where
    count : length hs ≡ word t (q + 2)
    count = ap length w ∙ words-length t (q + 2 + 1) (word t (q + 2))

    pub plain-small : get_or t (q + 1) 0 ≡ 0 → SmallHead (plain_head hs)
    plain-small e = rw w (rw (plain_head_lem t q e) at k.head)

    pub choice-small : (get_or t (q + 1) 0 ≡ 0 → ⊥) → SmallHead (choice hs)
    choice-small n = rw w (rw (choice-head t q n) at k.head)

    pub body_on : BodyOn t (q + 2 + 1 + length hs)
    body_on = rw count k.body

    module _ (X S : Atoms) {r : Bool} (e : r ≡ body_holds X S (body_at t (q + 2 + 1 + length hs))) where
      pub body-holds : r ≡ body_holds X S (rule_at t q).body
      body-holds = e ∙ rw count

    module _ (x f : List ℕ) {r : Bool} (e : r ≡ body_holds (is_marked x) (is_marked f) (body_at t (q + 2 + 1 + length hs))) where
      truth : {v : Bool} → r ≡ v → body_holds (is_marked x) (is_marked f) (rule_at t q).body ≡ v
      truth g = sym (body-holds (is_marked x) (is_marked f) e) ∙ g

      -- a false body adds nothing
      pub idle : r ≡ false → AddedMarks (fires (is_marked x) (is_marked f) (rule_at t q)) f f 0
      idle g = record { now_in = λ a. rw (truth g) (sym (or_none (is_marked f a))); grown = grown_refl }

      -- a true one the heads in the reduct
      module _ {g : List ℕ} {m : ℕ} (y : r ≡ true) where
        pub chosen : (get_or t (q + 1) 0 ≡ 0 → ⊥) → AddedMarks (λ (a : ℕ). among a hs && is_marked x a) f g m
            → AddedMarks (fires (is_marked x) (is_marked f) (rule_at t q)) f g m
        chosen c d = record { now_in = λ a. d.now_in a ∙ rw (truth y, choice-head t q c, w); grown = d.grown }

        pub plain : get_or t (q + 1) 0 ≡ 0 → AddedMarks (λ (a : ℕ). in_head a (plain_head hs)) f g m
            → AddedMarks (fires (is_marked x) (is_marked f) (rule_at t q)) f g m
        plain c d = record {
          now_in = λ a. d.now_in a ∙ rw (truth y, plain_head_lem t q c, w, plain_reduct (is_marked x) (list_at t (q + 2)) a);
          grown = d.grown;
        }
