-- Believed: the words of docs/RULES.md for a normal body, and that the one notion of Meaning keeps them. Assumes nothing.
use Rattle.std.specs.Prelude.{◌≡◌, Bool, true, not, ◌&&◌, List, [], ◌∷◌}
use Rattle.aspif.specs.Statements.{Literal, positive, negated, normal}
use Rattle.stable.specs.Meaning.{Atoms, literal_true, body_true, reduct}

-- each of the literals is true
abbrev pub all_true : Atoms → List Literal → Bool
all_true X [] = true
all_true X (l ∷ ls) = literal_true X l && all_true X ls

-- the negated atoms are all outside X
abbrev pub negated_outside : Atoms → List Literal → Bool
negated_outside X [] = true
negated_outside X (positive a ∷ ls) = negated_outside X ls
negated_outside X (negated a ∷ ls) = not (X a) && negated_outside X ls

-- without those literals
abbrev pub without : List Literal → List Literal
without [] = []
without (positive a ∷ ls) = positive a ∷ without ls
without (negated a ∷ ls) = without ls

-- a normal body is true if each of its literals is
abbrev pub NormalTrue : Type 0
NormalTrue = (X : Atoms) (ls : List Literal) → body_true X (normal ls) ≡ all_true X ls

-- the reduct keeps rules whose negated atoms are all outside X, without those literals
abbrev pub NormalReduct : Type 0
NormalReduct = (X S : Atoms) (ls : List Literal) → body_true S (reduct X (normal ls)) ≡ (negated_outside X ls && all_true S (without ls))
