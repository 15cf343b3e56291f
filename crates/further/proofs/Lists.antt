-- Membership in lists of numbers and of lines, and truth values. Assumes nothing.
use Prim.Native.Nat.{ℕ}
use mathlib.Core.Path.{◌≡◌, refl, sym, ap, ◌∙◌}
use mathlib.Core.Bool.{Bool, true, false, true≢false}
use mathlib.Core.List.{List, [], ◌∷◌}
use mathlib.Core.Logic.{inl, inr}
use lib.Dec.{eqb}
use Rattle.basics.specs.Lists.{Some, among}
use Rattle.basics.proofs.Bools.{or_right}
use Rattle.aspif.specs.Statements.{Statement, rule, Line, Rule, rule_in}
use Rattle.aspif.proofs.Decoding.{rule-is}
use Rattle.stable.specs.Meaning.{HasRule}

-- ---- truth values

-- what is not true is false
pub not_true : (t : Bool) → (t ≡ true → ⊥) → t ≡ false
not_true true f = absurd (f refl)
not_true false f = refl

-- nothing is both
pub not-both : {t : Bool} → t ≡ true → t ≡ false → ⊥
not-both e f = true≢false (sym e ∙ f)

-- ---- members

-- one of the others is in it
pub rest_in : (a b : ℕ) (l : List ℕ) → among a l ≡ true → among a (b ∷ l) ≡ true
rest_in a b l e = or_right (eqb a b) (among a l) e

-- ---- lines

-- some line says s
abbrev pub Has : List Line → Statement → Type 0
Has ls s = Some (λ (l : Line). l.says ≡ s) ls

-- a line that is a rule says it
pub rule_had : (ls : List Line) (r : Rule) → HasRule ls r → Has ls (rule r.head r.body)
rule_had [] r x = x
rule_had (l ∷ ls) r (inl x) = inl (rule-is l.says r x)
rule_had (l ∷ ls) r (inr x) = inr (rule_had ls r x)

-- and back
pub had_rule : (ls : List Line) (r : Rule) → Has ls (rule r.head r.body) → HasRule ls r
had_rule [] r x = x
had_rule (l ∷ ls) r (inl x) = inl (ap rule_in x)
had_rule (l ∷ ls) r (inr x) = inr (had_rule ls r x)
