-- `write_names`: what is written, with the records still to come, is the room that is promised.
-- Eight bytes are written for each name that is behind.
use Prim.Native.Nat.{◌+◌, ◌*◌}
use mathlib.Core.Path.{◌≡◌}
use lib.ListN.{length}
use Rattle.basics.specs.inner.Bitmaps.{marked_from}
use Rattle.timetable.proofs.Writing.{with_records}
use Rattle.timetable.proofs.write_names.Given as goal

abbrev pub invariant-loop-u : goal.invariant-loop-u
invariant-loop-u l = (with_records l.part l.at l.u l.names l.times ≡ with_records l.initial.part 0 0 l.names l.times)
    × (l.at + 8 * length (marked_from l.u l.names) ≡ 8 * length (marked_from 0 l.names))
