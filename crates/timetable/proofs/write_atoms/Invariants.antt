-- `write_atoms`: what is written, with the atoms still to come, is the room that is promised.
-- Four bytes are written for each atom that is behind.
use Prim.Native.Nat.{◌+◌, ◌*◌}
use mathlib.Core.Path.{◌≡◌}
use lib.ListN.{length}
use Rattle.basics.specs.inner.Bitmaps.{marked_from}
use Rattle.timetable.proofs.Writing.{with_atoms}
use Rattle.timetable.proofs.write_atoms.Given as goal

abbrev pub invariant-loop-a : goal.invariant-loop-a
invariant-loop-a l = (with_atoms l.part l.at l.a l.atoms ≡ with_atoms l.initial.part 0 1 l.atoms)
    × (l.at + 4 * length (marked_from l.a l.atoms) ≡ 4 * length (marked_from 1 l.atoms))
