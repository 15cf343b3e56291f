-- `put_others`: a number after another, and what is still to come fits behind what is written. Assumes nothing.
use Rattle.std.proofs.Common.{drop}
use Rattle.report.specs.Report.{spaced_all}
use Rattle.report.proofs.Putting.{Rest}
use Rattle.report.proofs.put_others.Given as goal

abbrev pub invariant-loop-v : goal.invariant-loop-v
invariant-loop-v l = Rest (spaced_all (drop l.v-index l.others)) (spaced_all l.others) l.initial.out l.at l.out l.end
