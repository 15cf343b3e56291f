-- `round`: the differences below i are passed, in whichever round; that some round is under way bounds the times.
use Rattle.diffs.specs.inner.Steps.{RoundUpTo}
use Rattle.diffs.proofs.round.Given as goal

abbrev pub invariant-loop-i : goal.invariant-loop-i
invariant-loop-i l = RoundUpTo l.differences l.i l.last l.initial.t l.initial.p l.t l.p
