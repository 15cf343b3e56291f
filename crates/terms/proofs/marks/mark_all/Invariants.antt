-- `mark_all`: what was marked, and the numbers passed.
use Rattle.terms.proofs.Marking.{Marking}
use Rattle.terms.proofs.marks.mark_all.Given as goal

abbrev pub invariant-loop-n : goal.invariant-loop-n
invariant-loop-n l = Marking l.list l.initial.bits l.bits l.n-index
