-- `print_pair`: what is printed of a judged result fits the buffer. Assumes nothing.
use Rattle.std.proofs.Common.{arith}
use Rattle.report.proofs.Lengths.{judged-fits}
use Rattle.vectors.proofs.print_pair.Goals as goal

pub write-n-requires : goal.write-n-requires
write-n-requires g c = judged-fits _ _ _ _ c.judge-verdict.ensures (omega arith) (omega (arith, c.large_buffer-out.ensures))
