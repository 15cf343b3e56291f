-- `written`: 11 as `late` says it, or the table as `timetable::write` leaves it.
use Rattle.std.proofs.lemmas.Result.{err_from_is_err_and}
use Rattle.judge.proofs.Writing.{refused-late, accepted-table}
use Rattle.judge.proofs.timed.written.Goals as goal

pub returns-in_err-late : goal.returns-in_err-late
returns-in_err-late c =
    let r = err_from_is_err_and c.from_residual.result c.from_residual.ensures.1 in
    λ cycle. rw (r.1, r.2) (refused-late c.args.names.now c.args.times.now _ _ _ _ c.in_err-late.ensures)

pub returns : goal.returns
returns c = λ cycle. accepted-table _ _ _ _ _ c.in_ok-late.ensures _ _ c.write.ensures
