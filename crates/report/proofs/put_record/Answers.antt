-- `put_record`: the name, the time and the line end. Assumes nothing.
use Rattle.report.proofs.Putting.{put_both}
use Rattle.report.proofs.put_record.Goals as goal

pub returns : goal.returns
returns c = put_both (put_both (rw c.from.ensures at c.put_number-a.ensures) (rw c.from-2.ensures at c.put_next-b.ensures)) c.put.ensures
