-- `shown_length`: nothing is shown for a number of no kind. Assumes nothing.
use Rattle.judge_c.proofs.Packing.{nothing_shown}
use Rattle.judge_c.proofs.shown_length.Goals as goal

pub returns-in_default : goal.returns-in_default
returns-in_default c = nothing_shown _ c.in_default.ensures.1 _ _ _
