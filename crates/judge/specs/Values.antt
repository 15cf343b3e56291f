-- Believed: the judgement that each case of a verdict stands for, and the result of a call. Assumes nothing.
use Rattle.std.specs.Prelude.{ℕ, List}
use Rattle.faults.specs.Values.{number}
use Rattle.judge.specs.Plan.{Rooms}
use Rattle.judge.specs.Judged.{Judgement, acceptance, refusal, Result}
use Rattle.judge.specs.declared.Verdict.{Verdict}
use Rattle.judge.specs.declared.Verdict.TheVariants.{Accepted, Refused}

abbrev pub as_verdict : Verdict → Judgement
as_verdict (Accepted n) = acceptance n
as_verdict (Refused r) = refusal (number r.kind) r.place

abbrev pub rooms : (room cycle : List ℕ) → Rooms
rooms room cycle = record { room = room; cycle = cycle }

abbrev pub as_result : Verdict → (room cycle : List ℕ) → Result
as_result v room cycle = record { verdict = as_verdict v; rooms = rooms room cycle }
