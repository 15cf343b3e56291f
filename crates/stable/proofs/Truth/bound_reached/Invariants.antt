-- `bound_reached`: what is left of the premises reaches what is due exactly if all of them reach the bound. Assumes nothing.
use Rattle.stable.proofs.Weighing.{Walk}
use Rattle.stable.proofs.Truth.bound_reached.Given as goal

abbrev pub invariant-loop-w : goal.invariant-loop-w
invariant-loop-w l = Walk l.self.x.now l.self.s.now l.premises l.bound l.due l.w-index
