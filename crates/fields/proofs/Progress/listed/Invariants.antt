-- `fields::Progress::listed` meets its contract. The invariant: the items that are left, written from `o` on, make the tape that is asked. Assumes nothing.
use Prim.Native.Nat.{◌-◌, ◌≤◌}
use mathlib.Core.Path.{◌≡◌}
use Rattle.fields.specs.Fields.{items}
use Rattle.fields.specs.inner.Tape.{on_tape, bare}
use Rattle.fields.proofs.Progress.listed.Given as goal

abbrev pub invariant-loop-o : goal.invariant-loop-o
invariant-loop-o l = (on_tape bare l.tape l.o (items l.what (l.end - l.o) l.s l.c.at) ≡ on_tape bare l.initial.tape l.first (items l.what l.n l.s l.initial.c.at))
    × (l.o ≤ l.c.at)
