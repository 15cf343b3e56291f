-- `sum_of`: the sum so far is that of the bounds passed.
use borrow.Author.Rules.{rules}
use mir.Syntax.{w32}
use mir.Val.{SFits}
use Rattle.diffs.specs.inner.Answer.{cell, diff_at}
use Rattle.diffs.proofs.Summing.{summed-more}
use Rattle.diffs.proofs.sum_of.Goals as goal

pub loop-e-preserved : goal.loop-e-preserved
loop-e-preserved c =
    let f : SFits w32 (diff_at c.args.differences.now (cell c.args.walk.now c.loop-e.e-index)).k = search rules in
    summed-more _ _ _ _ c.loop-e.invariant c.loop-e-test.true c.requires.short f _ c.from-sum.ensures
