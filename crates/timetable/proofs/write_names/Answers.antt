-- `write_names`: what is written, with the records still to come, is the room that is promised.
-- Eight bytes are written for each name that is behind.
use Prim.Native.Nat.{◌*◌}
use mathlib.Core.Path.{◌≡◌, ap, ◌∙◌}
use native.Mathlib.Omega.{arith}
use lib.ListN.{length}
use Rattle.basics.specs.inner.Bitmaps.{marked_from}
use Rattle.timetable.proofs.Marks.{few-marked, marked-none, marked_pass, marked-take}
use Rattle.timetable.proofs.Writing.{with_records, records-none, records_pass, records-take}
use Rattle.timetable.proofs.write_names.Goals as goal
use Rattle.timetable.proofs.write_names.Goals.{then-mark-eq1, else-mark-eq1}

pub put_record-requires : goal.put_record-requires
put_record-requires c =
    omega (arith, c.requires.names_in_bounds, c.loop-u.auto.part, c.loop-u.invariant.1, ap length (marked-take c.args.names.now c.loop-u.u c.loop-u-test.true c.if-mark-eq1.true))

pub loop-u-preserved : goal.loop-u-preserved
loop-u-preserved c =
    let names = c.args.names.now in
    let l = c.loop-u in
    let here = c.loop-u-test.true in
    elim c.if-mark-eq1.branch [
      | then-mark-eq1 w ↦
          let marked = w.if-mark-eq1.true in
          rw (w.part-is, w.at-is) (records-take _ _ _ _ _ _ here marked w.put_record.ensures ∙ l.invariant.0, omega (arith, ap length (marked-take names l.u here marked), l.invariant.1))
      | else-mark-eq1 w ↦
          let other = w.if-mark-eq1.false in
          rw (w.part-is, w.at-is) (records_pass _ _ _ _ _ here other ∙ l.invariant.0, omega (arith, ap length (marked_pass names l.u here other), l.invariant.1))
    ]

pub returns-clause-part_after : goal.returns-clause-part_after
unfolding with_records
returns-clause-part_after c = records-none _ c.loop-u.at _ _ c.args.times.now c.loop-u-test.false ∙ c.loop-u.invariant.0

pub returns-clause-value : goal.returns-clause-value
returns-clause-value c =
    let names = c.args.names.now in
    let all : c.loop-u.at ≡ 8 * length (marked_from 0 names) = omega (arith, c.loop-u.invariant.1, ap length (marked-none names c.loop-u.u c.loop-u-test.false)) in
    (all, omega (arith, few-marked names 0))
