-- `plan_judge_long`: a half holds what a verdict says. Assumes nothing.
use Rattle.judge.specs.Plan.{asked}
use Rattle.judge_c.proofs.Packing.{fits}
use Rattle.judge_c.proofs.plan_judge_long.Goals as goal

pub pack_verdict-requires : goal.pack_verdict-requires
pack_verdict-requires c = fits (asked c.args.text.now c.args.cand.now) c.judge_long.result c.judge_long.ensures
