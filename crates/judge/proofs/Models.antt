-- Models of a reduct by a computed test, and atoms in every model. Assumes nothing.
use Prim.Native.Nat.{ℕ, ◌≤◌}
use mathlib.Core.Path.{◌≡◌, refl, sym, ap, subst, ◌∙◌}
use mathlib.Core.Bool.{Bool, true, false, not, ◌&&◌, ◌||◌, true≢false}
use mathlib.Core.List.{List, [], ◌∷◌}
use mathlib.Core.Logic.{inl, inr, ⊎_elim}
use mathlib.Core.Option.{Option, some, none}
use native.Mathlib.Omega.{arith}
use borrow.Author.Tests.{eqb-true, eq-eqb}
use Rattle.basics.specs.Lists.{among, All}
use Rattle.basics.proofs.Bools.{and_cases}
use Rattle.aspif.specs.Statements.{Head, empty, single, choice, Line, Rule, rule_in}
use Rattle.stable.specs.Meaning.{Atoms, HasRule, body_true, reduct, reduct_head, Closed, InLeast, Founded, SmallestUnfounded}
use Rattle.judge.proofs.Ascent.{member, of_member}

-- ---- the test

-- each of the atoms that is in X is in S
abbrev pub carries : (X S : Atoms) → List ℕ → Bool
carries X S [] = true
carries X S (a ∷ es) = (not (X a) || S a) && carries X S es

abbrev head_carries : (X S : Atoms) → Head → Bool
head_carries X S empty = true
head_carries X S (single a) = S a
head_carries X S (choice hs) = carries X S hs

abbrev rule_carries : (X S : Atoms) → Option Rule → Bool
rule_carries X S none = true
rule_carries X S (some r) = not (body_true S (reduct X r.body)) || head_carries X S r.head

-- S has the head of each rule of the reduct by X whose body is true in S
abbrev pub all_carry : (X S : Atoms) → List Line → Bool
all_carry X S [] = true
all_carry X S (l ∷ ls) = rule_carries X S (rule_in l.says) && all_carry X S ls

-- ---- what it shows

then : (x s : Bool) → not x || s ≡ true → x ≡ true → s ≡ true
then true s h e = h
then false s h e = absurd (true≢false (sym e))

module _ (X S : Atoms) where
  carried : (es : List ℕ) → carries X S es ≡ true → (a : ℕ) → among a es ≡ true → X a ≡ true → S a ≡ true
  carried [] h a e x = absurd (true≢false (sym e))
  carried (c ∷ es) h a e x =
      ⊎_elim
      (λ p. ap S p ∙ then (X c) (S c) (and_cases (not (X c) || S c) (carries X S es) h).0 (ap X (sym p) ∙ x))
      (λ p. carried es (and_cases (not (X c) || S c) (carries X S es) h).1 a p x)
      (member a c es e)

  head_carried : (h : Head) → head_carries X S h ≡ true → (a : ℕ) → reduct_head X h a ≡ true → S a ≡ true
  head_carried empty e a r = absurd (true≢false (sym r))
  head_carried (single c) e a r = ap S (eqb-true a c r) ∙ e
  head_carried (choice hs) e a r = carried hs e a (and_cases (among a hs) (X a) r).0 (and_cases (among a hs) (X a) r).1

  said_carried : (ls : List Line) → all_carry X S ls ≡ true → (r : Rule) → HasRule ls r → rule_carries X S (some r) ≡ true
  said_carried [] h r n = absurd n
  said_carried (l ∷ ls) h r (inl e) = subst (λ (x : Option Rule). rule_carries X S x ≡ true) e (and_cases (rule_carries X S (rule_in l.says)) (all_carry X S ls) h).0
  said_carried (l ∷ ls) h r (inr n) = said_carried ls (and_cases (rule_carries X S (rule_in l.says)) (all_carry X S ls) h).1 r n

-- S is a model of the reduct by a candidate, if the test holds of each rule and of each external atom
pub model : (cs : List ℕ) (ext : Atoms) (ls : List Line) (S : Atoms) → carries ext S cs ≡ true → all_carry (λ a. among a cs) S ls ≡ true → Closed (λ a. among a cs) ext ls S
model cs ext ls S f h = record {
  facts = λ a e x. carried ext S cs f a x e;
  rules = λ r n bo a e. head_carried (λ c. among c cs) S r.head (then (body_true S (reduct (λ c. among c cs) r.body)) _ (said_carried (λ c. among c cs) S ls h r n) bo) a e;
}

-- where each atom of a candidate is in every model of the reduct, none is unfounded
pub founded_by : (cs : List ℕ) (ext : Atoms) (ls : List Line) → All (InLeast (λ a. among a cs) ext ls) cs → Founded (λ a. among a cs) ext ls
founded_by cs ext ls h a u = u.outside (of_member (InLeast (λ c. among c cs) ext ls) cs a h u.holds)

-- the first atom of an ascending candidate is the smallest unfounded, if a model of the reduct lacks it
pub unfounded-first : (c : ℕ) (cs : List ℕ) (ext : Atoms) (ls : List Line) (S : Atoms) → All (λ m. c ≤ m) cs
    → Closed (λ a. among a (c ∷ cs)) ext ls S → S c ≡ false → SmallestUnfounded (λ a. among a (c ∷ cs)) ext ls c
unfounded-first c cs ext ls S h m e = record {
  unfounded = record { holds = rw (eq-eqb c c refl); outside = λ l. true≢false (sym (l S m) ∙ e) };
  before = λ b l u. omega (arith, of_member (λ n. c ≤ n) (c ∷ cs) b (omega arith, h) u.holds);
}
