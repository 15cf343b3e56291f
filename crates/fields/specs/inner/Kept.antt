-- Inner: what the values that reading gives keep to. Assumes nothing.
use Rattle.std.specs.Prelude.{ℕ, ◌/◌, ◌%◌, ◌≤◌, ◌<◌, ◌≡◌, List}
use Rattle.faults.specs.Limits.{last_atom, last_term, last_element, largest_weight}
use Rattle.fields.specs.Fields.{byte_at, weight_unit}
use Rattle.fields.specs.declared.Item.{Item}
use Rattle.fields.specs.declared.Item.TheVariants as of

-- the number of an atom
abbrev pub IsAtom : ℕ → Type 0
IsAtom a = (0 < a) × (a ≤ last_atom)

-- an integer's word: at most high without a minus, from 1 to low after one
pub record Fits (low high w : ℕ) : Type 0 where
  pub even : w % 2 ≡ 0 → w / 2 ≤ high
  pub odd : (w % 2 ≡ 0 → ⊥) → (0 < w / 2) × (w / 2 ≤ low)

-- a byte other than 0 that stands in the text
abbrev pub ByteOf : List ℕ → ℕ → Type 0
ByteOf s b = (i : ℕ) × (b ≡ byte_at s i) × (0 < b)

abbrev pub IsWeight : ℕ → Type 0
IsWeight w = (0 < w) × (w ≤ largest_weight)

-- the word of an item of a list
abbrev pub ItemKept : List ℕ → Item → ℕ → Type 0
ItemKept s of.Atom a = IsAtom a
ItemKept s of.Literal w = IsAtom (w / 2)
ItemKept s of.Premise w = IsAtom (w % weight_unit / 2) × IsWeight (w / weight_unit)
ItemKept s of.Term u = u ≤ last_term
ItemKept s of.Element v = v ≤ last_element
ItemKept s of.Char b = ByteOf s b
