-- Believed: what the program prints of a result: docs/RULES.md, 'What the program prints'. Every line ends in byte 10. Assumes nothing.
use Rattle.std.specs.Prelude.{◌≡◌, ℕ, zero, suc, ◌+◌, ◌/◌, ◌%◌, List, [], ◌∷◌, ◌++◌, eqb, ltb, length, take, replicate}
use Rattle.basics.specs.Bools.{pick}
use Rattle.faults.specs.Limits.{table_room, cycle_room}
use Rattle.fields.specs.Fields.{space, feed}
use Rattle.timetable.specs.Table.{header_length, Record, name_count, atom_count, records_at}
use Rattle.judge.specs.Plan.{Asked, Rooms}
use Rattle.judge.specs.Judged.{Judgement, acceptance, refusal, Result, over, Judged}

-- a number in decimal without leading zeros, to its last k digits
unfoldable pub digits_to : (k n : ℕ) → List ℕ
digits_to zero n = []
digits_to (suc k) n = pick (ltb n 10) ((48 + n) ∷ []) (digits_to k (n / 10) ++ ((48 + n % 10) ∷ []))

-- a number below 10 ^ 20 in decimal
abbrev pub decimal : ℕ → List ℕ
decimal n = digits_to 20 n

-- a space, and a number
abbrev pub spaced : ℕ → List ℕ
spaced n = space ∷ decimal n

-- two numbers, a space before each, and a line end
abbrev pub two : (n m : ℕ) → List ℕ
two n m = spaced n ++ spaced m ++ (feed ∷ [])

-- a space before each number
unfoldable pub spaced_all : List ℕ → List ℕ
spaced_all [] = []
spaced_all (v ∷ vs) = spaced v ++ spaced_all vs

-- a line of numbers, with single spaces between them
unfoldable pub list_line : List ℕ → List ℕ
list_line [] = feed ∷ []
list_line (v ∷ vs) = decimal v ++ spaced_all vs ++ (feed ∷ [])

-- term number and time
abbrev pub record_line : Record → List ℕ
record_line r = decimal r.name ++ spaced r.time ++ (feed ∷ [])

-- a line for each record
unfoldable pub record_lines : List Record → List ℕ
record_lines [] = []
record_lines (r ∷ rs) = record_line r ++ record_lines rs

-- `accepted` and `refused`
abbrev pub accepted_word : List ℕ
accepted_word = 97 ∷ 99 ∷ 99 ∷ 101 ∷ 112 ∷ 116 ∷ 101 ∷ 100 ∷ []

abbrev pub refused_word : List ℕ
refused_word = 114 ∷ 101 ∷ 102 ∷ 117 ∷ 115 ∷ 101 ∷ 100 ∷ []

-- `accepted`, the counts of names and of atoms; then the records
unfoldable pub accepted_lines : (room : List ℕ) → List ℕ
accepted_lines room =
    accepted_word ++ two (name_count room) (atom_count room) ++ record_lines (records_at room (name_count room) header_length)

-- `refused`, number and place; after 10 a second line has the list
unfoldable pub refused_lines : (number place : ℕ) (cycle : List ℕ) → List ℕ
refused_lines k p cycle = refused_word ++ two k p ++ pick (eqb k 10) (list_line (take p cycle)) []

-- what is printed of a judgement with both rooms
abbrev pub printed : Judgement → Rooms → List ℕ
printed (acceptance n) b = accepted_lines b.room
printed (refusal k p) b = refused_lines k p b.cycle

-- what was asked was judged in empty rooms of the size asked; what is printed of the result stands in the first n places, the others are as they were
pub record Reported (a : Asked) (before after : List ℕ) (n : ℕ) : Type 0 where
  pub result : Result
  pub judged : Judged a (record { room = replicate table_room 0; cycle = replicate cycle_room 0 }) result
  pub length-is : n ≡ length (printed result.verdict result.rooms)
  pub bytes : after ≡ over (printed result.verdict result.rooms) before
