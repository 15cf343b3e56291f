-- `judge::judge_short` meets its contract: the verdict is what was judged. Assumes nothing.
use Rattle.judge.proofs.judge_short.Goals as goal

pub returns : goal.returns
returns c = rw c.into.ensures c.judged_within.ensures
