-- Inner: what a step of writing leaves. Assumes nothing.
use Rattle.std.specs.Prelude.{ℕ, ◌+◌, ◌*◌, ◌≤◌, ◌≡◌, List, length}
use Rattle.std.proofs.lemmas.List.Edits.{sets}
use Rattle.timetable.specs.Table.{header_length, name_count}
use Rattle.judge.specs.Judged.{Judgement, acceptance, refusal}

-- bytes were written at a place, and end at another
pub record Put (bytes before : List ℕ) (at : ℕ) (after : List ℕ) (end : ℕ) : Type 0 where
  pub is : after ≡ sets before at bytes
  pub ends : end ≡ at + length bytes

-- bytes fit from a place on
pub record RoomAt (bytes out : List ℕ) (at : ℕ) : Type 0 where
  pub fits : at + length bytes ≤ length out

-- the records of a room stand within it
abbrev pub Legible : (room : List ℕ) → Type 0
Legible room = header_length + 8 * name_count room ≤ length room

-- those of an accepted one
abbrev pub Reportable : Judgement → (room : List ℕ) → Type 0
Reportable (acceptance n) room = Legible room
Reportable (refusal k p) room = Unit {0}
