-- Believed: an answer: a value, or a refusal with its number and place: docs/RULES.md, 'Verdicts'. Assumes nothing.
use Rattle.std.specs.Prelude.{ℕ, Bool, true, false}

pub data Answer (A : Type 0) : Type 0 where
  got : A → Answer A
  refused : (number place : ℕ) → Answer A

-- whether it is a value
abbrev pub is_got : {A : Type 0} → Answer A → Bool
is_got (got a) = true
is_got (refused k p) = false

abbrev pub bind : {A B : Type 0} → Answer A → (A → Answer B) → Answer B
bind (got a) f = f a
bind (refused k p) f = refused k p

abbrev pub mapped : {A B : Type 0} → (A → B) → Answer A → Answer B
mapped f (got a) = got (f a)
mapped f (refused k p) = refused k p
