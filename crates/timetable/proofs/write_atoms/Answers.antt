-- `write_atoms`: what is written, with the atoms still to come, is the room that is promised.
-- Four bytes are written for each atom that is behind.
use Prim.Native.Nat.{◌*◌}
use mathlib.Core.Path.{◌≡◌, ap, ◌∙◌}
use native.Mathlib.Omega.{arith}
use lib.ListN.{length}
use Rattle.basics.specs.inner.Bitmaps.{marked_from}
use Rattle.timetable.proofs.Marks.{few-marked, marked-none, marked_pass, marked-take}
use Rattle.timetable.proofs.Writing.{with_atoms, atoms-none, atoms_pass, atoms-take}
use Rattle.timetable.proofs.write_atoms.Goals as goal
use Rattle.timetable.proofs.write_atoms.Goals.{then-atoms-a-eq1, else-atoms-a-eq1}

pub put_word-requires : goal.put_word-requires
put_word-requires c =
    omega (arith, c.requires.atoms_in_bounds, c.loop-a.auto.part, c.loop-a.invariant.1, ap length (marked-take c.args.atoms.now c.loop-a.a c.loop-a-test.true c.if-atoms-a-eq1.true))

pub loop-a-preserved : goal.loop-a-preserved
loop-a-preserved c =
    let atoms = c.args.atoms.now in
    let l = c.loop-a in
    let here = c.loop-a-test.true in
    elim c.if-atoms-a-eq1.branch [
      | then-atoms-a-eq1 w ↦
          let marked = w.if-atoms-a-eq1.true in
          rw (w.part-is, w.at-is) (atoms-take _ _ _ _ _ here marked w.put_word.ensures ∙ l.invariant.0, omega (arith, ap length (marked-take atoms l.a here marked), l.invariant.1))
      | else-atoms-a-eq1 w ↦
          let other = w.if-atoms-a-eq1.false in
          rw (w.part-is, w.at-is) (atoms_pass _ _ _ _ here other ∙ l.invariant.0, omega (arith, ap length (marked_pass atoms l.a here other), l.invariant.1))
    ]

pub returns-clause-part_after : goal.returns-clause-part_after
unfolding with_atoms
returns-clause-part_after c = atoms-none _ c.loop-a.at _ _ c.loop-a-test.false ∙ c.loop-a.invariant.0

pub returns-clause-value : goal.returns-clause-value
returns-clause-value c =
    let atoms = c.args.atoms.now in
    let all : c.loop-a.at ≡ 4 * length (marked_from 1 atoms) = omega (arith, c.loop-a.invariant.1, ap length (marked-none atoms c.loop-a.a c.loop-a-test.false)) in
    (all, omega (arith, few-marked atoms 1))
