-- `put_records`: what is still to come fits behind what is written. Assumes nothing.
use Rattle.report.proofs.Putting.{rest-fits, rest_step, rest-none, fits-first}
use Rattle.report.proofs.Listing.{records-more, records-none}
use Rattle.report.proofs.put_records.Goals as goal

pub put_record-end-requires : goal.put_record-end-requires
put_record-end-requires c =
    rw (c.word_at-name.ensures, c.word_at-time.ensures) (fits-first _ (rw (records-more _ _ _ c.loop-i-test.true) at (rest-fits c.loop-i.invariant c.requires.1)))

pub loop-i-preserved : goal.loop-i-preserved
loop-i-preserved c =
    rest_step c.loop-i.invariant _ _ (rw (c.word_at-name.ensures, c.word_at-time.ensures) (records-more _ _ _ c.loop-i-test.true)) c.put_record-end.ensures

pub returns : goal.returns
returns c = rest-none c.loop-i.invariant (records-none _ _ _ c.loop-i-test.false)
