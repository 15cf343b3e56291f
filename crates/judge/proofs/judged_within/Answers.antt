-- `judge::judged_within` meets its contract: a tape and slices of these sizes are room for a text that is not too long, and what is left after it is refused or timed. Assumes nothing.
use Prim.Native.Nat.{ℕ}
use lib.ListN.{length-replicate}
use Rattle.std.proofs.lemmas.Result.{err_from_is_err_and}
use Rattle.aspif.proofs.Candidates.{blank_zeros}
use Rattle.judge.proofs.Blank.{new_room}
use Rattle.judge.proofs.Staging.{stating_filled, lent_refuses, lent-sized, overlong, front-ready, front-candidate}
use Rattle.judge.proofs.judged_within.Goals as goal

pub returns-in_err-lent : goal.returns-in_err-lent
returns-in_err-lent g c =
    let r = err_from_is_err_and c.from_residual.result c.from_residual.ensures.1 in
    rw (r.1, r.2) (lent_refuses _ _ c.in_err-lent.ensures)

pub returns-then-text-gt-LONGEST_TEXT : goal.returns-then-text-gt-LONGEST_TEXT
returns-then-text-gt-LONGEST_TEXT g c = rw c.at.ensures (overlong _ _ (lent-sized _ c.in_ok-lent.ensures) c.if-text-gt-LONGEST_TEXT.true)

pub before_times-requires-clause-roomy : goal.before_times-requires-clause-roomy
before_times-requires-clause-roomy g c = (rw (length-replicate {A = ℕ} g.row.WORDS 0) (new_room g.row.WORDS g.row.DIFFERENCES c.requires.sizes.2), blank_zeros)

pub returns-in_err-m : goal.returns-in_err-m
returns-in_err-m g c =
    let r = err_from_is_err_and c.from_residual-in_err-m.result c.from_residual-in_err-m.ensures.1 in
    rw (r.1, r.2) (c.in_err-m.ensures _ (lent-sized _ c.in_ok-lent.ensures))

pub timed-requires-clause-filled : goal.timed-requires-clause-filled
timed-requires-clause-filled g c =
    let h = c.in_ok-m.ensures in
    (stating_filled h.stating, front-candidate h.ends h.candidate)

pub timed-requires-clause-sized : goal.timed-requires-clause-sized
timed-requires-clause-sized g c = lent-sized _ c.in_ok-lent.ensures

pub returns : goal.returns
returns g c =
    let h = c.in_ok-m.ensures in
    h.decides _ _ (lent-sized _ c.in_ok-lent.ensures) (rw (front-ready h.ends) at (c.timed.ensures h.lines h.stating))
