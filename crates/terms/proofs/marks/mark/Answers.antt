-- `mark`: a place past the end is none.
use Rattle.terms.proofs.Marking.{set_out}
use Rattle.terms.proofs.marks.mark.Goals as goal

pub returns-else-i-bits : goal.returns-else-i-bits
returns-else-i-bits c = set_out _ _ _ c.if-i-bits.false
