-- `sum_of`: the sum so far is that of the bounds passed.
use Rattle.diffs.proofs.Summing.{Summed}
use Rattle.diffs.proofs.sum_of.Given as goal

abbrev pub invariant-loop-e : goal.invariant-loop-e
invariant-loop-e l = Summed l.differences l.walk l.e-index l.sum
