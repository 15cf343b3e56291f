-- `least`: what is found is in every model, and is a model once a round adds nothing. Assumes nothing.
use Rattle.stable.proofs.Rounds.{less, settled}
use Rattle.stable.proofs.least.Goals as goal

pub loop-smaller : goal.loop-smaller
loop-smaller c = less c.loop.invariant c.round.ensures c.round.array_long c.loop-test.true

pub returns : goal.returns
returns c = settled c.loop.invariant c.round.ensures c.loop-test.false
