-- `mark`: a mark more or the same bitmap. Assumes nothing.
use Rattle.stable.proofs.Marks.{mark}
use Rattle.stable.proofs.mark.Goals as goal

pub returns : goal.returns
returns c = mark c.args.found.now c.args.a.0 c.requires
