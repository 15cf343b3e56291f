-- `settle`: as many rounds are made as are counted, each of which raised something, the last one the name `last`.
use Rattle.faults.specs.inner.Places.{term_places}
use Rattle.faults.specs.declared.TermNo.{TermNo}
use Rattle.std.specs.Prelude.{Option}
use lib.ListN.{length}
use Rattle.diffs.specs.inner.Answer.{diff_at}
use Rattle.diffs.specs.inner.Steps.{BeforeRound}
use Rattle.diffs.proofs.settle.Given as goal

abbrev pub invariant-loop : goal.invariant-loop
invariant-loop l = (last : Option TermNo) × BeforeRound (length l.differences) term_places (diff_at l.differences) l.counter last l.t l.p
