-- `put_two`: one part behind another. Assumes nothing.
use Rattle.report.proofs.Putting.{put_both}
use Rattle.report.proofs.put_two.Goals as goal

pub returns : goal.returns
returns c = put_both (put_both c.put_next-a.ensures c.put_next-b.ensures) c.put.ensures
