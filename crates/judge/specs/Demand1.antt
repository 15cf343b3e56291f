-- Believed: demand 1 of docs/RULES.md, what a result leaves of the rooms, as one statement about what `Judged` allows. Assumes nothing.
use Rattle.std.specs.Prelude.{ℕ, ◌≡◌, ◌⊎◌, drop}
use Rattle.faults.specs.Answer.{got}
use Rattle.judge.specs.Plan.{Asked, Rooms, Ready, readable}
use Rattle.judge.specs.Judged.{acceptance, refusal, Result, Judged}
use Rattle.judge.specs.Demand2.{ShowsCycle}

-- a refusal writes nothing in the timetable room, the cycle room changes only by a cycle that is shown, and an acceptance changes nothing past the timetable
pub record Left (a : Asked) (b : Rooms) (r : Result) : Type 0 where
  pub refused : (k p : ℕ) → r.verdict ≡ refusal k p → r.rooms.room ≡ b.room
  pub cycle : (r.rooms.cycle ≡ b.cycle) ⊎ ((q : Ready) × (readable a b ≡ got q) × ShowsCycle q b r)
  pub accepted : (n : ℕ) → r.verdict ≡ acceptance n → drop n r.rooms.room ≡ drop n b.room

-- for whatever was asked, all rooms, and every result
abbrev pub Demand1 : Type 0
Demand1 = (a : Asked) (b : Rooms) (r : Result) → Judged a b r → Left a b r
