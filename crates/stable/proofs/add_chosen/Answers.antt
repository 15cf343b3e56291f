-- `add_chosen`: the atoms marked and those still to come stay the same set. Assumes nothing.
use native.Mathlib.Omega.{arith}
use Rattle.stable.proofs.Chosen.{more}
use Rattle.stable.proofs.add_chosen.Goals as goal

pub overflow_add-added : goal.overflow_add-added
overflow_add-added c = omega (arith, more c.loop-w.invariant c.mark.result c.mark.ensures c.from-added.ensures)
