-- `clear_line`: a rule has its head atoms cleared, another line has none.
use Rattle.terms.proofs.Marking.{line-none, line-heads}
use Rattle.terms.proofs.marks.clear_line.Goals as goal

pub returns-then-kind-ne-RULE : goal.returns-then-kind-ne-RULE
returns-then-kind-ne-RULE c = line-none _ _ _ _ c.word_at-kind.ensures.0 c.if-kind-ne-RULE.true

pub returns : goal.returns
returns c = line-heads _ _ _ _ _ _ c.requires c.word_at-kind.ensures.0 c.if-kind-ne-RULE.false c.word_at-n.ensures.0 c.clear_list.ensures
