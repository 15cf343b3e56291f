-- `add_chosen`: the atoms marked and those still to come stay the same set. Assumes nothing.
use Rattle.stable.proofs.Chosen.{Walk}
use Rattle.stable.proofs.add_chosen.Given as goal

abbrev pub invariant-loop-w : goal.invariant-loop-w
invariant-loop-w l = Walk l.x l.heads l.initial.found l.found l.w-index l.added
