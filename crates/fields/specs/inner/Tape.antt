-- Inner: the tape, what is read, as words from a place on. Assumes nothing.
use Rattle.std.specs.Prelude.{ℕ, ◌+◌, List, ◌∷◌, length}
use Rattle.std.proofs.lemmas.List.Edits.{sets}
use Rattle.fields.specs.Reading.{Reading, found, fault}

-- what the tape holds, and its next free place
pub data Written : Type 0 where
  written : List ℕ → ℕ → Written

-- the words of what was read stand on the tape from the place o on, and nothing else of it changes
unfoldable pub on_tape : {A : Type 0} → (A → List ℕ) → List ℕ → ℕ → Reading A → Reading Written
on_tape words t o (found x n) = found (written (sets t o (words x)) (o + length (words x))) n
on_tape words t o (fault k p) = fault k p

-- a list as it is
abbrev pub bare : List ℕ → List ℕ
bare xs = xs

-- a list behind its count
abbrev pub listed : List ℕ → List ℕ
listed xs = length xs ∷ xs
