-- `gather`: before difference i, the first n places have those of the first i whose atom is marked, and the places from i on are as they were.
use Rattle.judge.proofs.Gathering.{Going}
use Rattle.judge.proofs.timed.gather.Given as goal

abbrev pub invariant-loop-i : goal.invariant-loop-i
invariant-loop-i l = Going l.initial.atoms l.initial.found l.x l.atoms l.found l.n l.i
