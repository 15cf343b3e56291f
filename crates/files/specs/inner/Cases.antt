-- Inner: the cases of a container, each a line `NAME LENGTH`, so many bytes, and a line end. It can be run. Assumes nothing.
use Rattle.std.specs.Prelude.{ℕ, ◌+◌, ◌≤◌, ◌<◌, List, length, eqb, Option, Some, None}
use Rattle.basics.specs.Bools.{pick}
use Rattle.faults.specs.Limits.{longest_text}
use Rattle.fields.specs.Reading.{Reading, found, fault}
use Rattle.fields.specs.Fields.{feed, byte_at, field, natural_then}
use Rattle.files.specs.declared.container.Case.{Case}

-- a length and the place after its line: so many bytes, and a line end
abbrev pub case_of : List ℕ → (name : ℕ) → Reading ℕ → Option Case
case_of s name (found n start) = pick (eqb (byte_at s (start + n)) feed) (Some (record { name = name; start = start; end = start + n })) None
case_of s name (fault k p) = None

-- the case at a place: a name to the next space or line end, a space, a natural to the longest text, and the line end
unfoldable pub case_at : List ℕ → (at : ℕ) → Option Case
case_at s at = let name = at + length (field s at) in case_of s name (natural_then 5 longest_text feed s name)

-- where the next case begins: behind the line end of this one; where there is none, at the end
abbrev pub next_at : List ℕ → Option Case → ℕ
next_at s (Some c) = c.end + 1
next_at s None = length s

-- a case stands within its container, from its place on: its name, then its bytes, no more than the longest text has, and a byte after them
abbrev pub Stands : List ℕ → (at : ℕ) → Case → Type 0
Stands s at c = (at ≤ c.name) × (c.name ≤ c.start) × (c.start ≤ c.end) × (c.end < length s) × (c.end ≤ c.start + longest_text)
