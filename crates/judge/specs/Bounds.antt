-- Believed: how large a number of a verdict can be, as one statement about what `Judged` allows. Assumes nothing.
use Rattle.std.specs.Prelude.{◌≤◌}
use Rattle.faults.specs.Limits.{longest_text, table_room}
use Rattle.judge.specs.Plan.{Asked, Rooms}
use Rattle.judge.specs.Judged.{Judgement, acceptance, refusal, Result, Judged}

-- a timetable has at most 24,592 bytes, and a place is at most 60,000
abbrev pub Bounded : Judgement → Type 0
Bounded (acceptance n) = n ≤ table_room
Bounded (refusal k p) = p ≤ longest_text

-- for whatever was asked, all rooms, and every result
abbrev pub Bounds : Type 0
Bounds = (a : Asked) (b : Rooms) (r : Result) → Judged a b r → Bounded r.verdict
