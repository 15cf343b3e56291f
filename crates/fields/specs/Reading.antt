-- Believed: what reading a text from a place on gives, and how readers follow one another. Assumes nothing.
use Rattle.std.specs.Prelude.{ℕ, List, Bool, true, false}

-- a value and the place after it, or a fault with its number and place
pub data Reading (A : Type 0) : Type 0 where
  found : A → (after : ℕ) → Reading A
  fault : (number place : ℕ) → Reading A

-- a reader of an A: from the whole text and a place in it
abbrev pub Reader : Type 0 → Type 0
Reader A = List ℕ → ℕ → Reading A

-- whether a value is found
abbrev pub is_found : {A : Type 0} → Reading A → Bool
is_found (found a n) = true
is_found (fault k p) = false

-- what reading goes on to give after a value; a fault stays
abbrev pub and_then : {A B : Type 0} → Reading A → (A → ℕ → Reading B) → Reading B
and_then (found a n) f = f a n
and_then (fault k p) f = fault k p

infixl 10 ◌>>=◌
abbrev pub ◌>>=◌ : {A B : Type 0} → Reader A → (A → Reader B) → Reader B
◌>>=◌ p f s at = and_then (p s at) (λ a n. f a s n)

infixl 10 ◌>>◌
abbrev pub ◌>>◌ : {A B : Type 0} → Reader A → Reader B → Reader B
◌>>◌ p q = p >>= (λ a. q)

abbrev pub pure : {A : Type 0} → A → Reader A
pure a s at = found a at

-- the same answer, with a fault placed at p
abbrev pub placed : {A : Type 0} → ℕ → Reading A → Reading A
placed p (found a n) = found a n
placed p (fault k q) = fault k p
