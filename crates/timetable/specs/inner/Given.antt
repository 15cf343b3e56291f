-- Inner: what the writer is given, and what it leaves. Assumes nothing.
use Rattle.std.specs.Prelude.{ℕ, ◌≤◌, ◌≡◌, true, List, ◌++◌, length, get_or, drop}
use Rattle.basics.specs.inner.Bitmaps.{is_marked, marked_from}
use Rattle.faults.specs.Limits.{table_room}
use Rattle.faults.specs.inner.Places.{atom_places, term_places}
use Rattle.timetable.specs.Word.{word_at}
use Rattle.timetable.specs.Table.{Record, Content, records_of, latest}

-- the time of a term number; 0 past the end
abbrev pub time_at : List ℕ → ℕ → ℕ
time_at times u = get_or times u 0

-- the marked names with their times, and the marked atoms; no atom is 0
unfoldable pub given : List ℕ → List ℕ → List ℕ → Content
given names times atoms =
    record {
      records = records_of (marked_from 0 names) (time_at times);
      atoms = marked_from 1 atoms;
    }

-- the record that eight bytes are
abbrev pub record_read : List ℕ → Record
record_read bytes = record { name = word_at bytes 0; time = word_at bytes 4 }

-- the atom that four bytes are
abbrev pub atom_read : List ℕ → ℕ
atom_read bytes = word_at bytes 0

-- no more places than term numbers and atoms, a time for each place of a name, and a room for the longest table
pub record WriterRooms (names times atoms room : List ℕ) : Type 0 where
  pub names-long : length names ≤ term_places
  pub times_long : length names ≤ length times
  pub atoms-long : length atoms ≤ atom_places
  pub room-long : table_room ≤ length room

-- no time of a name is above the largest
pub record Timely (names times : List ℕ) : Type 0 where
  pub each : (u : ℕ) → is_marked names u ≡ true → time_at times u ≤ latest

-- a room after bytes were written at its front, r of them: the bytes, then the old rest
pub record WrittenTable (bytes room room' : List ℕ) (r : ℕ) : Type 0 where
  pub count : r ≡ length bytes
  pub fits : r ≤ table_room
  pub is : room' ≡ bytes ++ drop r room
