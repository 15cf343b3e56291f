-- `mark_names`: what was marked, and both sides of the differences passed.
use Rattle.terms.proofs.Marking.{Siding}
use Rattle.terms.proofs.marks.mark_names.Given as goal

abbrev pub invariant-loop-d : goal.invariant-loop-d
invariant-loop-d l = Siding l.found l.initial.names l.names l.d-index
