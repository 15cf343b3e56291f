-- `behind_space`: the place behind the first space, reckoned from `i`, is the place that is asked.
use mathlib.Core.Path.{◌≡◌}
use Rattle.fields.specs.Fields.{behind_space}
use Rattle.fields.proofs.places.behind_space.Given as goal

abbrev pub invariant-loop-i : goal.invariant-loop-i
invariant-loop-i l = behind_space l.s l.i ≡ behind_space l.s l.at
