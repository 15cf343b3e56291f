-- Believed: the fields of a line, docs/RULES.md, 'Reading the text'. A field's form comes first, then whether it is carried, then its range;
-- a separator is read before the field that follows it. Assumes nothing.
use Rattle.std.specs.Prelude.{ℕ, zero, suc, ◌+◌, ◌-◌, ◌*◌, min, List, [], ◌∷◌, Bool, true, false, ◌||◌, ◌&&◌, length, get_or, drop, leb, ltb, eqb}
use Rattle.basics.specs.Bools.{pick}
use Rattle.faults.specs.Limits.{last_atom, last_term, last_element, most_count, largest_weight}
use Rattle.fields.specs.Reading.{found, fault, Reader, and_then, ◌>>=◌, ◌>>◌, pure, placed}
use Rattle.fields.specs.declared.Item.{Item}
use Rattle.fields.specs.declared.Item.TheVariants as of
use Rattle.fields.specs.declared.LineEnd.{LineEnd}
use Rattle.fields.specs.declared.LineEnd.TheVariants as by

-- ---- bytes

abbrev pub space : ℕ
space = 32

-- byte 10, which ends a line
abbrev pub feed : ℕ
feed = 10

-- byte 13, which before byte 10 may be of the line end
abbrev pub return : ℕ
return = 13

abbrev pub minus_sign : ℕ
minus_sign = 45

abbrev pub zero_digit : ℕ
zero_digit = 48

abbrev pub nine_digit : ℕ
nine_digit = 57

-- the byte at a place, and 0 past the end
unfoldable pub byte_at : List ℕ → ℕ → ℕ
byte_at s at = get_or s at 0

-- exactly the byte b, which is not 0: past the end stands 0, so a text that ends early is refused at its length
unfoldable pub byte : ℕ → Reader Unit
byte b s at = pick (eqb (byte_at s at) b) (found tt (at + 1)) (fault 3 at)

-- these bytes, one by one
unfoldable pub bytes : List ℕ → Reader Unit
bytes [] = pure tt
bytes (b ∷ bs) = do
  byte b
  bytes bs

-- nothing stands at the place or after it
unfoldable pub text_end : Reader Unit
text_end s at = pick (ltb at (length s)) (fault 3 at) (found tt at)

unfoldable pub all_positive : List ℕ → Bool
all_positive [] = true
all_positive (b ∷ bs) = ltb 0 b && all_positive bs

-- the bytes before the first place at which what follows stops them, or all
unfoldable pub until : (stop : List ℕ → Bool) → List ℕ → List ℕ
until stop [] = []
until stop (b ∷ bs) = pick (stop (b ∷ bs)) [] (b ∷ until stop bs)

-- ---- line ends: byte 10 alone, or bytes 13 10

-- bytes 13 10 stand at the place
abbrev pub return_feed : List ℕ → ℕ → Bool
return_feed s at = eqb (byte_at s at) return && eqb (byte_at s (at + 1)) feed

-- a line end of either kind stands first
abbrev pub ends_line : List ℕ → Bool
ends_line l = eqb (byte_at l 0) feed || return_feed l 0

-- where lines end in byte 10 alone, a line is over before it; where they end in 13 10, before these two as well
abbrev pub breaks : LineEnd → List ℕ → Bool
breaks by.Feed l = eqb (byte_at l 0) feed
breaks by.Return l = ends_line l

-- the byte b stands first, or the line is over
abbrev pub breaks_at : (b : ℕ) → LineEnd → List ℕ → Bool
breaks_at b ends l = eqb (byte_at l 0) b || breaks ends l

-- the line end at the place, and which of the two it is
unfoldable pub line_end : Reader LineEnd
line_end s at =
    pick (eqb (byte_at s at) feed) (found by.Feed (at + 1))
    (pick (return_feed s at) (found by.Return (at + 2)) (fault 3 at))

abbrev pub same_end : LineEnd → LineEnd → Bool
same_end by.Feed by.Feed = true
same_end by.Feed by.Return = false
same_end by.Return by.Feed = false
same_end by.Return by.Return = true

-- the line end of this kind; one of the other kind is refused at its first byte
unfoldable pub line_end_of : LineEnd → Reader Unit
line_end_of ends s at = and_then (line_end s at) (λ met n. pick (same_end ends met) (found tt n) (fault 3 at))

-- the place of the first line end, or of the text's end
abbrev pub first_end : List ℕ → ℕ
first_end s = length (until ends_line s)

-- how the lines of a text end: in 13 10 if its first byte 10 has a 13 before it, so that the first line end begins with 13
unfoldable pub ends_of : List ℕ → LineEnd
ends_of s = pick (eqb (byte_at s (first_end s)) return) by.Return by.Feed

-- the part of a text from the place to before the end of its line, or of the text; nothing from a place beyond that
unfoldable pub part_from : List ℕ → (place : ℕ) → List ℕ
part_from s place = until (breaks (ends_of s)) (drop place s)

-- ---- fields

-- a space or a line end of either kind stands first
abbrev pub ends_field : List ℕ → Bool
ends_field l = eqb (byte_at l 0) space || ends_line l

-- a field runs to the next space, line end or end of text
unfoldable pub field : List ℕ → ℕ → List ℕ
field s at = until ends_field (drop at s)

-- ---- where the fields of a line stand, one space apart

-- a space stands first
abbrev pub is_space : List ℕ → Bool
is_space l = eqb (byte_at l 0) space

-- the place behind the first space at a place or after it; the text's end if there is none
unfoldable pub behind_space : List ℕ → ℕ → ℕ
behind_space s at = min (at + length (until is_space (drop at s)) + 1) (length s)

-- the place of field k, where field 0 stands at the place given
unfoldable pub field_place : List ℕ → (k at : ℕ) → ℕ
field_place s zero at = at
field_place s (suc k) at = field_place s k (behind_space s at)

-- ---- naturals

abbrev pub is_digit : ℕ → Bool
is_digit b = leb zero_digit b && leb b nine_digit

unfoldable pub all_digits : List ℕ → Bool
all_digits [] = true
all_digits (b ∷ bs) = is_digit b && all_digits bs

abbrev pub is_empty : List ℕ → Bool
is_empty [] = true
is_empty (b ∷ bs) = false

-- `0`, or digits that don't begin with 0
unfoldable pub is_natural : List ℕ → Bool
is_natural [] = false
is_natural (b ∷ bs) = pick (eqb b zero_digit) (is_empty bs) (all_digits (b ∷ bs))

-- the value of digits, after digits of the value v
unfoldable pub value : ℕ → List ℕ → ℕ
value v [] = v
value v (b ∷ bs) = value (v * 10 + (b - zero_digit)) bs

-- a natural at most `most`, refused by k beyond
unfoldable pub natural : (k most : ℕ) → Reader ℕ
natural k most s at =
    let f = field s at in
    pick (is_natural f)
    (pick (leb (value 0 f) most) (found (value 0 f) (at + length f)) (fault k at))
    (fault 3 at)

-- a natural from 1 to `most`, refused by 5 beyond; k is the refusal of 0
unfoldable pub from_one : (k most : ℕ) → Reader ℕ
from_one k most s at = and_then (natural 5 most s at) (λ v n. pick (eqb v 0) (fault k at) (found v n))

-- a space, and what p reads after it
abbrev pub next : {A : Type 0} → Reader A → Reader A
next p = do
  byte space
  p

unfoldable pub next_natural : (k most : ℕ) → Reader ℕ
next_natural k most = next (natural k most)

-- a space, a natural, and the byte b behind it
unfoldable pub natural_then : (k most b : ℕ) → Reader ℕ
natural_then k most b = do
  n ← next_natural k most
  byte b
  pure n

-- ---- integers, kept as one number: 2 v, and 2 v + 1 after a minus

-- the minus sign that stands at the place, and a natural other than 0
unfoldable pub negative : (most : ℕ) → Reader ℕ
negative most s at =
    and_then (placed at (natural 5 most s (at + 1))) (λ v n. pick (eqb v 0) (fault 3 at) (found (2 * v + 1) n))

-- a natural, or a minus sign and a natural other than 0: from - low to high
unfoldable pub integer : (low high : ℕ) → Reader ℕ
integer low high s at =
    pick (eqb (byte_at s at) minus_sign)
    (negative low s at)
    (and_then (natural 5 high s at) (λ v n. found (2 * v) n))

unfoldable pub next_integer : (low high : ℕ) → Reader ℕ
next_integer low high = next (integer low high)

-- an integer other than 0, to an atom
unfoldable pub literal : Reader ℕ
literal s at = and_then (integer last_atom last_atom s at) (λ v n. pick (eqb v 0) (fault 5 at) (found v n))

-- ---- the three countings

-- an atom from 1 to the last; k is the refusal of atom 0
unfoldable pub atom : (k : ℕ) → Reader ℕ
atom k = from_one k last_atom

unfoldable pub next_atom : (k : ℕ) → Reader ℕ
next_atom k = next (atom k)

unfoldable pub next_term : Reader ℕ
next_term = next_natural 5 last_term

unfoldable pub next_element : Reader ℕ
next_element = next_natural 5 last_element

-- ---- a literal and its weight, kept as one number: the literal's, which is at most 8,193, and a unit for each 1 of the weight

abbrev pub weight_unit : ℕ
weight_unit = 16384

unfoldable pub next_weight : Reader ℕ
next_weight = next (from_one 5 largest_weight)

unfoldable pub premise : Reader ℕ
premise = do
  l ← next literal
  w ← next_weight
  pure (weight_unit * w + l)

-- ---- counted lists and strings

-- no string and no comment holds these; past the end stands 0
abbrev pub is_forbidden : ℕ → Bool
is_forbidden b = eqb b 0 || eqb b feed

-- a byte of a string
unfoldable pub char : Reader ℕ
char s at = pick (is_forbidden (byte_at s at)) (fault 3 at) (found (byte_at s at) (at + 1))

-- an item of a list: a number after a space, a literal and its weight, or a byte of a string
unfoldable pub item : Item → Reader ℕ
item of.Atom = next_atom 5
item of.Literal = next literal
item of.Premise = premise
item of.Term = next_term
item of.Element = next_element
item of.Char = char

-- n items
unfoldable pub items : Item → (n : ℕ) → Reader (List ℕ)
items what zero = pure []
items what (suc n) = do
  x ← item what
  xs ← items what n
  pure (x ∷ xs)

-- a count at most `most`, refused by k beyond, and so many items
unfoldable pub counted : Item → (k most : ℕ) → Reader (List ℕ)
counted what k most = do
  n ← next_natural k most
  items what n

-- a length, a space and so many bytes
unfoldable pub string : Reader (List ℕ)
string = do
  n ← natural_then 5 most_count space
  items of.Char n

-- how many bytes stand before the next byte 0 or the end of the line
unfoldable pub rest_length : (ends : LineEnd) → List ℕ → ℕ → ℕ
rest_length ends s at = length (until (breaks_at 0 ends) (drop at s))

-- anything up to the line end, in a text whose lines end in this way
unfoldable pub rest : (ends : LineEnd) → Reader (List ℕ)
rest ends s at = items of.Char (rest_length ends s at) s at
