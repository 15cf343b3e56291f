-- `atoms_within`: whether the atoms that are left are within the bounds is the whole answer.
use mathlib.Core.Path.{◌∙◌}
use Rattle.timetable.proofs.Reading.{atoms_left, atoms_end, atoms_out, atoms_on}
use Rattle.timetable.proofs.atoms_within.Goals as goal

pub returns-then-atom-low : goal.returns-then-atom-low
unfolding atoms_left
returns-then-atom-low c = atoms_out _ _ _ c.loop-atom-test.true _ _ c.word_at-atom.ensures c.then-atom-low.either ∙ c.loop-atom.invariant

pub loop-atom-preserved : goal.loop-atom-preserved
loop-atom-preserved c = atoms_on _ _ _ c.loop-atom-test.true _ _ c.word_at-atom.ensures c.if-atom-low.false c.if-atom-gt-LAST_ATOM.false ∙ c.loop-atom.invariant

pub returns : goal.returns
unfolding atoms_left
returns c = atoms_end _ _ _ c.loop-atom-test.false ∙ c.loop-atom.invariant
