-- Believed: what holds of the members of a list. Assumes nothing.
use Rattle.std.specs.Prelude.{ℕ, ◌<◌, Bool, false, ◌||◌, List, [], ◌∷◌, ◌⊎◌, ◌≢◌, eqb}

-- P holds of each member
abbrev pub All : {A : Type 0} → (A → Type 0) → List A → Type 0
All P [] = Unit {0}
All P (a ∷ l) = P a × All P l

-- P holds of some member
abbrev pub Some : {A : Type 0} → (A → Type 0) → List A → Type 0
Some P [] = ⊥
Some P (a ∷ l) = P a ⊎ Some P l

-- a stands in the list
abbrev pub among : ℕ → List ℕ → Bool
among a [] = false
among a (b ∷ bs) = eqb a b || among a bs

-- n stands nowhere in the list
abbrev pub NotIn : ℕ → List ℕ → Type 0
NotIn n ms = All (λ m. n ≢ m) ms

-- no two members are the same
abbrev pub Distinct : List ℕ → Type 0
Distinct [] = Unit {0}
Distinct (n ∷ ns) = NotIn n ns × Distinct ns

-- strictly ascending
abbrev pub Ascending : List ℕ → Type 0
Ascending [] = Unit {0}
Ascending (n ∷ ns) = All (λ m. n < m) ns × Ascending ns
