-- `show`: the labels of the first j entries are written, and no other place of the room.
use mathlib.Core.Path.{◌≡◌}
use mathlib.Core.List.{◌++◌, map}
use lib.ListN.{take, drop}
use Rattle.diffs.specs.inner.Answer.{cell}
use Rattle.diffs.proofs.show.Given as goal

abbrev pub invariant-loop-j : goal.invariant-loop-j
invariant-loop-j l = l.room ≡ map (cell l.labels) (take l.j l.part) ++ drop l.j l.initial.room
