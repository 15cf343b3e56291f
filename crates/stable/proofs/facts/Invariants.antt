-- `facts`: the places filled so far hold the external atoms in x. Assumes nothing.
use Rattle.stable.proofs.Filling.{Filled}
use Rattle.stable.proofs.facts.Given as goal

abbrev pub invariant-loop-a : goal.invariant-loop-a
invariant-loop-a l = Filled l.ext l.x.marks.now l.found l.a
