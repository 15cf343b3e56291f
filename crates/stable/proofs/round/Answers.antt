-- `round`: each visit adds only what every model has, and nothing where nothing is new. Assumes nothing.
use native.Mathlib.Omega.{arith}
use Rattle.stable.proofs.Rounds.{rule_here, few, visit}
use Rattle.stable.proofs.round.Goals as goal

pub fire-added-requires : goal.fire-added-requires
fire-added-requires c = record { rule_on = rule_here c.loop-q.invariant c.requires.readable c.loop-q-test.true }

pub overflow_add-added : goal.overflow_add-added
overflow_add-added c = omega (arith, few c.loop-q.invariant c.fire-added.ensures c.fire-added.array_long)

pub loop-q-preserved : goal.loop-q-preserved
loop-q-preserved c = visit c.loop-q.invariant c.fire-added.ensures c.fire-added.array_long c.loop-q-test.true
