-- `bound`: one law for each way out.
use mathlib.Core.Path.{◌∙◌}
use Rattle.terms.proofs.Reading.{bound_out, bound-number, bound-not, bound-minus}
use Rattle.terms.proofs.tables.Known.bound.Goals as goal

pub returns-in_err-q : goal.returns-in_err-q
returns-in_err-q c = rw c.from_residual.ensures (bound_out _ _ _ c.in_err-q.ensures)

pub returns-then-kind-eq-NUMBER : goal.returns-then-kind-eq-NUMBER
returns-then-kind-eq-NUMBER c = bound-number _ _ _ _ c.in_ok-q.ensures _ c.word_at-kind.ensures.0 _ _ c.if-kind-eq-NUMBER.true
    c.word_at-w.ensures.0 c.word_at-w.ensures.1 c.signed.ensures

pub returns-then-not-minus_of : goal.returns-then-not-minus_of
returns-then-not-minus_of c = bound-not _ _ _ _ c.in_ok-q.ensures _ c.word_at-kind.ensures.0 _ c.if-kind-eq-NUMBER.false
    c.minus_of.ensures c.if-not-minus_of.true

pub returns : goal.returns
returns c = c.against.ensures ∙ bound-minus _ _ _ _ c.in_ok-q.ensures _ _ c.minus_of.ensures c.if-not-minus_of.false
    c.term_at-n.ensures
