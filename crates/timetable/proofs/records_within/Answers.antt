-- `records_within`: whether the records that are left are within the bounds is the whole answer.
use mathlib.Core.Path.{◌∙◌}
use Rattle.timetable.proofs.Reading.{records_left, records_end, records_out, records_on}
use Rattle.timetable.proofs.records_within.Goals as goal

pub returns-then-name-low : goal.returns-then-name-low
unfolding records_left
returns-then-name-low c =
    records_out _ _ _ c.loop-record-test.true _ _ _ c.word_at-name.ensures c.word_at-time.ensures c.then-name-low.either ∙ c.loop-record.invariant

pub loop-record-preserved : goal.loop-record-preserved
loop-record-preserved c =
    records_on _ _ _ c.loop-record-test.true _ _ _ c.word_at-name.ensures c.word_at-time.ensures c.if-name-low.false c.if-name-gt-LAST_TERM.false c.if-time-gt-LATEST.false
    ∙ c.loop-record.invariant

pub returns : goal.returns
unfolding records_left
returns c = records_end _ _ _ c.loop-record-test.false ∙ c.loop-record.invariant
