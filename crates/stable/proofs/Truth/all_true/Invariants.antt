-- `all_true`: what is left of the literals decides as all of them did, up to the first false one. Assumes nothing.
use Rattle.stable.proofs.Literals.{Walk}
use Rattle.stable.proofs.Truth.all_true.Given as goal

abbrev pub invariant-loop-w : goal.invariant-loop-w
invariant-loop-w l = Walk l.self.x.now l.self.s.now l.literals l.w-index
