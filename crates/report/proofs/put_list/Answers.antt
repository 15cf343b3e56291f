-- `put_list`: a number, the others, and the line end. Assumes nothing.
use Rattle.report.proofs.Putting.{put_both, fits-first, fits-second}
use Rattle.report.proofs.Listing.{list-none, list-some}
use Rattle.report.proofs.put_list.Goals as goal

pub put-requires : goal.put-requires
put-requires c = rw (list-none _ c.in_default.ensures.cases) at c.requires

pub returns-in_default : goal.returns-in_default
returns-in_default c = rw (list-none _ c.in_default.ensures.cases) c.put.ensures

pub put_number-a-requires : goal.put_number-a-requires
put_number-a-requires c = rw c.from.ensures (fits-first _ (fits-first _ (rw (list-some _ _ c.in-Some.ensures.cases.0) at c.requires)))

pub put_others-b-requires : goal.put_others-b-requires
put_others-b-requires c =
    fits-second c.put_number-a.ensures _ (fits-first _ (rw (list-some _ _ c.in-Some.ensures.cases.0, ← c.from.ensures) at c.requires))

pub put-requires-2 : goal.put-requires-2
put-requires-2 c =
    fits-second (put_both c.put_number-a.ensures c.put_others-b.ensures) _ (rw (list-some _ _ c.in-Some.ensures.cases.0, ← c.from.ensures) at c.requires)

pub returns : goal.returns
returns c =
    rw (list-some _ _ c.in-Some.ensures.cases.0, ← c.from.ensures) (put_both (put_both c.put_number-a.ensures c.put_others-b.ensures) c.put-2.ensures)
