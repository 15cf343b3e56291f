-- X is stable exactly if no rule is broken and no atom unfounded; the least model; the answer is unique. Assumes nothing.
use Prim.Native.Nat.{ℕ, ◌<◌}
use mathlib.Core.Bool.{Bool, true, false, not, ◌&&◌, true≢false}
use mathlib.Core.List.{List}
use mathlib.Core.Logic.{◌↔◌}
use mathlib.Core.Path.{◌≡◌, refl, ap, sym, ◌∙◌}
use native.Mathlib.Decide.{dec_lt}
use native.Mathlib.Omega.{arith}
use borrow.Author.Tests.{eqb-true}
use Rattle.basics.specs.Lists.{among}
use Rattle.basics.proofs.Bools.{and_cases}
use Rattle.aspif.specs.Statements.{Head, empty, single, choice, Body, Line}
use Rattle.stable.specs.Meaning.{Atoms, body_true, broken_rule, Unbroken, unbroken, first_broken, reduct_head, Closed, InLeast, Founded, SmallestUnfounded, Founding, founded, unfounded_at, FoundedBy, Stable}
use Rattle.stable.proofs.Reduct.{holds_self, holds-reduct, reduct_mono}
use Rattle.stable.proofs.FirstBroken.{unbroken_iff}

-- a whole rule with a true body has its heads of the reduct in X
head_in : (X : Atoms) (h : Head) (b : Body) → broken_rule X h b ≡ false → body_true X b ≡ true → (a : ℕ) → reduct_head X h a ≡ true → X a ≡ true
head_in X empty b w t a e = absurd (true≢false (sym e))
head_in X (single c) b w t a e = ap X (eqb-true a c e) ∙ go (body_true X b) (X c) t w
  where
    go : (u v : Bool) → u ≡ true → (u && not v) ≡ false → v ≡ true
    go u true p q = refl
    go true false p q = sym q
    go false false p q = p
head_in X (choice hs) b w t a e = (and_cases (among a hs) (X a) e).1

module _ (X ext : Atoms) (ls : List Line) where
  -- X is a model of its own reduct, if no rule is broken
  self_closed : Unbroken X ls → Closed X ext ls X
  self_closed u = record {
    facts = λ a e x. x;
    rules = λ r s bo. head_in X r.head r.body (u r s) (sym (holds_self X r.body) ∙ sym (holds-reduct X X r.body) ∙ bo);
  }

  -- membership in every model is decided by a contradiction
  not-not : (a : ℕ) → ((InLeast X ext ls a → ⊥) → ⊥) → InLeast X ext ls a
  not-not a n S c = go (S a) refl
    where
      go : (t : Bool) → S a ≡ t → S a ≡ true
      go true e = e
      go false e = absurd (n (λ l. true≢false (sym (l S c) ∙ e)))

  -- X is stable exactly if no rule is broken and no atom unfounded
  pub stable_iff : Stable X ext ls ↔ (Unbroken X ls × Founded X ext ls)
  stable_iff = (
    (λ s. (s.model, λ a u. u.outside ((s.least a).0 u.holds))),
    (λ p. record {
      model = p.0;
      least = λ a. ((λ x. not-not a (λ n. p.1 a (record { holds = x; outside = n }))), (λ l. l X (self_closed p.0)));
    }),
  )

  -- and so by the two answers
  pub stable_answers : Stable X ext ls ↔ ((first_broken X ls ≡ unbroken) × FoundedBy founded X ext ls)
  stable_answers = (
    (λ s. ((unbroken_iff X ls).1 s.model, (stable_iff.0 s).1)),
    (λ p. stable_iff.1 ((unbroken_iff X ls).0 p.0, p.1)),
  )

  -- the least model of the reduct is a model
  pub least-model : (M : Atoms) → ((a : ℕ) → (M a ≡ true) ↔ InLeast X ext ls a) → Closed X ext ls M
  least-model M m = record {
    facts = λ a e x. (m a).1 (λ S c. c.facts a e x);
    rules = λ r s bo a hd. (m a).1 (λ S c. c.rules r s (reduct_mono X M S (λ d e. (m d).0 e S c) r.body bo) a hd);
  }

  -- and below every model
  pub least-below : (M : Atoms) → ((a : ℕ) → (M a ≡ true) ↔ InLeast X ext ls a) → (S : Atoms) → Closed X ext ls S → (a : ℕ) → M a ≡ true → S a ≡ true
  least-below M m S c a e = (m a).0 e S c

  -- a model that is below every model is the least
  pub model-least : (M : Atoms) → Closed X ext ls M → ((S : Atoms) → Closed X ext ls S → (a : ℕ) → M a ≡ true → S a ≡ true) → (a : ℕ) → (M a ≡ true) ↔ InLeast X ext ls a
  model-least M c f a = ((λ e S d. f S d a e), (λ l. l M c))

  -- the smallest unfounded atom is unique
  smallest_unique : (a b : ℕ) → SmallestUnfounded X ext ls a → SmallestUnfounded X ext ls b → a ≡ b
  smallest_unique a b s t = go (dec_lt a b) (dec_lt b a)
    where
      go : Dec (a < b) → Dec (b < a) → a ≡ b
      go (yes h) d = absurd (t.before a h s.unfounded)
      go (no h) (yes k) = absurd (s.before b k t.unfounded)
      go (no h) (no k) = omega (arith, h, k)

  -- and so is the answer
  pub answer_unique : (v w : Founding) → FoundedBy v X ext ls → FoundedBy w X ext ls → v ≡ w
  answer_unique founded founded f g = refl
  answer_unique founded (unfounded_at b) f g = absurd (f b g.unfounded)
  answer_unique (unfounded_at a) founded f g = absurd (g a f.unfounded)
  answer_unique (unfounded_at a) (unfounded_at b) f g = ap unfounded_at (smallest_unique a b f g)
