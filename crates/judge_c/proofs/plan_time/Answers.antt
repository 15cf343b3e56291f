-- `plan_time`: a half holds the place of a refusal. Assumes nothing.
use Rattle.std.proofs.Common.{arith}
use Rattle.judge_c.proofs.Packing.{time-place}
use Rattle.judge_c.proofs.plan_time.Goals as goal

pub pack_refusal-requires : goal.pack_refusal-requires
pack_refusal-requires c =
    omega (arith, time-place c.args.table.now c.args.term _ _ c.in-Err.ensures, c.ranges)
