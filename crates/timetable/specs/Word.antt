-- Believed: fields of 32 bits, little-endian: docs/RULES.md, 'Timetable bytes'. Assumes nothing.
use Rattle.std.specs.Prelude.{ℕ, ◌+◌, ◌*◌, ◌/◌, ◌%◌, List, [], ◌∷◌, get_or}

-- the four bytes of a number
unfoldable pub four_bytes : ℕ → List ℕ
four_bytes n = n % 256 ∷ n / 256 % 256 ∷ n / 65536 % 256 ∷ n / 16777216 % 256 ∷ []

-- the number whose four bytes stand at p; a byte past the end is 0
unfoldable pub word_at : List ℕ → ℕ → ℕ
word_at s p = get_or s p 0 + 256 * get_or s (p + 1) 0 + 65536 * get_or s (p + 2) 0 + 16777216 * get_or s (p + 3) 0
