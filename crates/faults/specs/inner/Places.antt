-- Inner: the places of a table with one for each atom, term or element from 0 on; a short text; and a far place. Assumes nothing.
use Rattle.std.specs.Prelude.{ℕ}

abbrev pub atom_places : ℕ
atom_places = 4097

abbrev pub term_places : ℕ
term_places = 1024

abbrev pub element_places : ℕ
element_places = 1024

-- the bytes of a short text, which gets a short tape
abbrev pub short_text : ℕ
short_text = 2000

-- a place so far from the last of 64 bits that any list stands before that
abbrev pub far_place : ℕ
far_place = 4611686018427387904
