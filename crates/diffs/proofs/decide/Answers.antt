-- `decide`: the parents lead to a negative cycle, which is laid out.
use mathlib.Core.Path.{refl}
use Rattle.diffs.specs.inner.Answer.{cyclic}
use Rattle.diffs.proofs.Showing.{laid_shown}
use Rattle.diffs.proofs.decide.Goals as goal

pub returns-then-sum-lt0 : goal.returns-then-sum-lt0
returns-then-sum-lt0 c = cyclic _ refl (laid_shown _ _ _ _ _ _ _ c.trace-walk.ensures c.lay-n.ensures)
