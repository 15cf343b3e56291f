-- Inner: a text that a comment makes as long as is asked. Assumes nothing.
use Rattle.std.specs.Prelude.{ℕ, ◌-◌, List, [], ◌∷◌, length}
use Rattle.std.proofs.lemmas.List.Edits.{sets}

-- the first line, and the comment's type and the space after it
abbrev pub first_bytes : List ℕ
first_bytes = 97 ∷ 115 ∷ 112 ∷ 32 ∷ 49 ∷ 32 ∷ 48 ∷ 32 ∷ 48 ∷ 10 ∷ 49 ∷ 48 ∷ 32 ∷ []

-- the comment's line end, and the last line
abbrev pub closing : List ℕ
closing = 10 ∷ 48 ∷ 10 ∷ []

-- a text with both its ends so: what stands between them is the comment
abbrev pub commented : List ℕ → List ℕ
commented text = sets (sets text 0 first_bytes) (length text - 3) closing
