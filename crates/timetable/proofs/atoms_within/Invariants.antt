-- `atoms_within`: whether the atoms that are left are within the bounds is the whole answer.
use mathlib.Core.Path.{◌≡◌}
use mathlib.Core.List.{map}
use lib.ListN.{drop}
use Rattle.timetable.specs.inner.Given.{atom_read}
use Rattle.timetable.proofs.Reading.{atoms_left}
use Rattle.timetable.proofs.atoms_within.Given as goal

abbrev pub invariant-loop-atom : goal.invariant-loop-atom
invariant-loop-atom l = atoms_left l.low (map atom_read (drop l.atom-index l.atoms)) ≡ atoms_left 1 (map atom_read l.atoms)
