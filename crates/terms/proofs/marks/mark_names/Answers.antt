-- `mark_names`: what was marked, and both sides of the differences passed.
use mathlib.Core.Path.{refl}
use Rattle.terms.proofs.Marking.{siding-next}
use Rattle.terms.proofs.marks.mark_names.Goals as goal

pub loop-d-preserved : goal.loop-d-preserved
loop-d-preserved c = siding-next _ _ _ c.loop-d-test.true refl c.mark.ensures c.mark-in-loop-d.ensures c.loop-d.invariant
