-- `pair`: one law for each way out.
use Rattle.terms.proofs.Reading.{pair_out, pair-not, pair_is}
use Rattle.terms.proofs.tables.Known.pair.Goals as goal

pub returns-in_err-q : goal.returns-in_err-q
returns-in_err-q c = rw c.from_residual.ensures (pair_out _ _ _ c.in_err-q.ensures)

pub returns-then-not-minus_of : goal.returns-then-not-minus_of
returns-then-not-minus_of c = pair-not _ _ _ _ c.in_ok-q.ensures _ c.minus_of.ensures c.if-not-minus_of.true

pub returns : goal.returns
returns c = pair_is _ _ _ _ c.in_ok-q.ensures _ _ _ c.minus_of.ensures c.if-not-minus_of.false c.term_at-x.ensures
    c.term_at-y.ensures
