-- `against`: one law for each way out.
use Rattle.terms.proofs.Reading.{against_out, against-is}
use Rattle.terms.proofs.tables.Known.against.Goals as goal

pub returns-in_err-q : goal.returns-in_err-q
returns-in_err-q c = rw c.from_residual.ensures (against_out _ _ _ c.in_err-q.ensures)

pub returns : goal.returns
returns c = against-is _ _ _ _ _ _ c.in_ok-q.ensures c.word_at-w.ensures.0 c.word_at-w.ensures.1 c.negated.ensures
