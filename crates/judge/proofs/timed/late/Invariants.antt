-- `late`: the marked names from i on decide, as all of them do.
use mathlib.Core.Path.{◌≡◌}
use Rattle.basics.specs.inner.Bitmaps.{marked_from}
use Rattle.timetable.specs.inner.Given.{time_at}
use Rattle.judge.specs.Judged.{in_time}
use Rattle.judge.proofs.timed.late.Given as goal

abbrev pub invariant-loop-i : goal.invariant-loop-i
invariant-loop-i l = in_time (marked_from l.i l.names) (time_at l.times) ≡ in_time (marked_from 0 l.names) (time_at l.times)
