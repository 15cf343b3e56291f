-- `time_of`: a table is long enough for its header and its records, and their search is the answer.
use mathlib.Core.Path.{sym, ◌∙◌}
use native.Mathlib.Omega.{arith}
use Rattle.timetable.specs.Times.{time_of}
use Rattle.timetable.proofs.Reading.{passed, records-shown}
use Rattle.timetable.proofs.time_of.Goals as goal

pub returns-then-not-is_table : goal.returns-then-not-is_table
unfolding time_of
returns-then-not-is_table c = rw (c.at.ensures, ← c.is_table.ensures, c.if-not-is_table.true)

pub word_at-n-requires : goal.word_at-n-requires
word_at-n-requires c = omega (arith, (passed c.args.table.now (sym c.is_table.ensures ∙ c.if-not-is_table.false)).whole)

pub slice_bounds-as_chunks-end : goal.slice_bounds-as_chunks-end
slice_bounds-as_chunks-end c = omega (arith, (passed c.args.table.now (sym c.is_table.ensures ∙ c.if-not-is_table.false)).whole, c.word_at-n.ensures)

pub returns : goal.returns
unfolding time_of
returns c =
    let t = passed c.args.table.now (sym c.is_table.ensures ∙ c.if-not-is_table.false) in
    let rs = records-shown c.args.table.now 16 _ c.word_at-n.result _ (omega (arith, t.whole, c.word_at-n.ensures)) (omega arith) c.as_chunks.ensures.front in
    rw (← c.is_table.ensures, c.if-not-is_table.false, ← c.word_at-n.ensures, ← rs) c.time_among.ensures
