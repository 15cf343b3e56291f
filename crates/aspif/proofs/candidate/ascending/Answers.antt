-- `aspif::candidate::ascending` meets its contract: the atoms marked so far, with those that are read from `d` on, are the whole answer. Assumes nothing.
use native.Mathlib.Omega.{arith}
use Rattle.std.proofs.lemmas.Grind.{common_steps}
use Rattle.aspif.proofs.Candidates.{marking_out, marking_full, marking_open, marking_above, marking_more}
use Rattle.aspif.proofs.candidate.ascending.Goals as goal
use Rattle.aspif.proofs.candidate.ascending.Goals.{else-loop-test, then-loop-test+then-low-eq-LAST_ATOM}

pub returns-in_err-ending-clause-x_after : goal.returns-in_err-ending-clause-x_after
returns-in_err-ending-clause-x_after c = grind (arith, common_steps, marking_open c.loop.invariant)

pub returns-in_default-clause-marked_to : goal.returns-in_default-clause-marked_to
returns-in_default-clause-marked_to c = marking_above c.loop.invariant c.loop-test.true c.in_ok-v.ensures

pub loop-preserved : goal.loop-preserved
loop-preserved c = marking_more c.loop.invariant c.loop-test.true c.in_ok-v.ensures c.in-Ok.ensures

pub returns-clause-x_after : goal.returns-clause-x_after
returns-clause-x_after c = rw c.at.ensures
    (elim c.loop-test.branch [
      | else-loop-test w ↦ marking_out c.loop.invariant (omega (arith, w.loop-test))
      | then-loop-test+then-low-eq-LAST_ATOM w ↦ marking_full c.loop.invariant (omega (arith, w.if-low-eq-LAST_ATOM))
    ])
