-- Inner: the digits that stand at a place of the text. Assumes nothing.
use Rattle.std.specs.Prelude.{ℕ, List, Bool, not, drop}
use Rattle.fields.specs.Fields.{byte_at, until, is_digit}

-- no digit stands first
abbrev pub no_digit : List ℕ → Bool
no_digit l = not (is_digit (byte_at l 0))

unfoldable pub digits_at : List ℕ → ℕ → List ℕ
digits_at s at = until no_digit (drop at s)
