-- `judged`: what is printed of a judged result fits the buffer. Assumes nothing.
use Rattle.std.proofs.Common.{arith}
use Rattle.report.proofs.Lengths.{judged-fits, written-whole}
use Rattle.report.proofs.judged.Goals as goal

pub write-requires : goal.write-requires
write-requires c = judged-fits _ _ _ _ c.judge-verdict.ensures (omega arith) c.requires

pub returns-clause-reported : goal.returns-clause-reported
returns-clause-reported c =
    written-whole c.judge-verdict.ensures c.write.ensures.put (judged-fits _ _ _ _ c.judge-verdict.ensures (omega arith) c.requires).1
