-- `is_table`: each test of the code, in its order, is one of the definition.
use Prim.Native.Nat.{◌+◌, ◌*◌}
use mathlib.Core.Path.{◌∙◌}
use native.Mathlib.Omega.{arith}
use Rattle.timetable.proofs.Reading.{records_left, atoms_left, records-shown, atoms-shown, too_short, wrong_shape, right_shape}
use Rattle.timetable.proofs.is_table.Goals as goal

pub returns-then-table-lt-HEADER : goal.returns-then-table-lt-HEADER
returns-then-table-lt-HEADER c = too_short _ c.if-table-lt-HEADER.true

pub returns-then-table-at : goal.returns-then-table-at
returns-then-table-at c = wrong_shape _ _ _ _ _ c.word_at-n.ensures c.word_at-m.ensures c.word_at-first.ensures c.word_at-second.ensures c.then-table-at.either

pub returns-then-records_within : goal.returns-then-records_within
unfolding records_left atoms_left
returns-then-records_within c =
    let s = c.args.table.now in
    let n = c.word_at-n.result in
    let m = c.word_at-m.result in
    let rs = records-shown s 16 _ n _ (omega (arith, c.if-table-at.false)) (omega arith) c.as_chunks.ensures.front in
    let xs = atoms-shown s (16 + 8 * n) _ m _ (omega (arith, c.if-table-at.false)) (omega (arith, c.if-table-at.false)) c.as_chunks-2.ensures.front in
    let q = right_shape s n m _ _ c.word_at-n.ensures c.word_at-m.ensures c.word_at-first.ensures c.word_at-second.ensures c.if-table-at.false
    c.if-first-ne-HEADER.false c.if-second-at.false in
    c.atoms_within.ensures ∙ (rw (← rs, ← c.records_within.ensures, c.if-records_within.true, ← xs) at q)

pub returns-else-records_within : goal.returns-else-records_within
unfolding records_left atoms_left
returns-else-records_within c =
    let s = c.args.table.now in
    let n = c.word_at-n.result in
    let m = c.word_at-m.result in
    let rs = records-shown s 16 _ n _ (omega (arith, c.if-table-at.false)) (omega arith) c.as_chunks.ensures.front in
    let q = right_shape s n m _ _ c.word_at-n.ensures c.word_at-m.ensures c.word_at-first.ensures c.word_at-second.ensures c.if-table-at.false
    c.if-first-ne-HEADER.false c.if-second-at.false in
    c.if-records_within.false ∙ (rw (← rs, ← c.records_within.ensures, c.if-records_within.false) at q)
