-- `put_others`: what is still to come fits behind what is written. Assumes nothing.
use Rattle.report.proofs.Putting.{rest-fits, rest_step, rest-none, fits-first}
use Rattle.report.proofs.Listing.{nexts_more, nexts_none}
use Rattle.report.proofs.put_others.Goals as goal

pub put_next-end-requires : goal.put_next-end-requires
put_next-end-requires c = rw c.from.ensures (fits-first _ (rw (nexts_more _ _ c.loop-v-test.true) at (rest-fits c.loop-v.invariant c.requires)))

pub loop-v-preserved : goal.loop-v-preserved
loop-v-preserved c = rest_step c.loop-v.invariant _ _ (rw c.from.ensures (nexts_more _ _ c.loop-v-test.true)) c.put_next-end.ensures

pub returns : goal.returns
returns c = rest-none c.loop-v.invariant (nexts_none _ _ c.loop-v-test.false)
