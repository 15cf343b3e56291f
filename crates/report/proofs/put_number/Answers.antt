-- `put_number`: the digits are those without leading zeros. Assumes nothing.
use Rattle.std.proofs.Common.{arith}
use Rattle.report.proofs.Decimals.{decimal-is}
use Rattle.report.proofs.put_number.Goals as goal

pub put-requires : goal.put-requires
put-requires c = rw (c.decimal-k.ensures.digits, decimal-is _ _ (omega (arith, c.ranges.n)) c.decimal-k.ensures.len) c.requires

pub returns : goal.returns
returns c = rw (← decimal-is _ _ (omega (arith, c.ranges.n)) c.decimal-k.ensures.len, ← c.decimal-k.ensures.digits) c.put.ensures
