-- Believed: docs/RULES.md, 'Numbers that bound it'. Assumes nothing.
use Rattle.std.specs.Prelude.{ℕ}

-- the bytes of the longest text
abbrev pub longest_text : ℕ
longest_text = 60000

-- the largest atom, term number and element number; an atom is 1 or more
abbrev pub last_atom : ℕ
last_atom = 4096

abbrev pub last_term : ℕ
last_term = 1023

abbrev pub last_element : ℕ
last_element = 1023

-- counts in a statement, and string lengths
abbrev pub most_count : ℕ
most_count = 4096

-- a numeric term, with or without a minus
abbrev pub largest_number : ℕ
largest_number = 1000000

-- the lower bound of a weight body: no number of a text may be larger
abbrev pub largest_bound : ℕ
largest_bound = 1000000000

-- a weight; it is 1 or more
abbrev pub largest_weight : ℕ
largest_weight = 100000

-- the rooms: bytes for the timetable, places for the cycle
abbrev pub table_room : ℕ
table_room = 24592

abbrev pub cycle_room : ℕ
cycle_room = 1024
