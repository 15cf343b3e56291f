-- `clear_list`: those left and those cleared are all.
use Rattle.terms.proofs.Marking.{Listing}
use Rattle.terms.proofs.marks.clear_list.Given as goal

abbrev pub invariant-loop-i : goal.invariant-loop-i
invariant-loop-i l = Listing l.tape l.from l.n l.initial.bits l.bits l.i
