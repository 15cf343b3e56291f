-- `mark_all`: what was marked, and the numbers passed.
use Rattle.terms.proofs.Marking.{marking_next}
use Rattle.terms.proofs.marks.mark_all.Goals as goal

pub loop-n-preserved : goal.loop-n-preserved
loop-n-preserved c = marking_next _ c.loop-n-test.true c.mark.ensures c.loop-n.invariant
