-- `seek`: every place passed is not in x or was found. Assumes nothing.
use Rattle.stable.proofs.Seeking.{Seen}
use Rattle.stable.proofs.seek.Given as goal

abbrev pub invariant-loop-a : goal.invariant-loop-a
invariant-loop-a l = Seen l.x.marks.now l.found l.a
