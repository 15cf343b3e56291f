-- `aspif::candidate::ascending` meets its contract: the atoms marked so far, with those that are read from `d` on, are the whole answer. Assumes nothing.
use Rattle.faults.specs.Limits.{last_atom}
use Rattle.aspif.specs.Candidate.{ascending}
use Rattle.aspif.proofs.Candidates.{Marking}
use Rattle.aspif.proofs.candidate.ascending.Given as goal

abbrev pub invariant-loop : goal.invariant-loop
invariant-loop l = Marking l.s l.x l.low.0 l.d.at l.counter (ascending last_atom 0 l.s l.initial.d.at)
