-- `run`: how far the container's end is. Assumes nothing.
use Rattle.std.proofs.Common.{◌-◌, length}
use Rattle.vectors.proofs.run.Given as goal

abbrev pub decreases-loop-at : goal.decreases-loop-at
decreases-loop-at g l = length l.s - l.at
