-- `pair_in`: one law for each way out.
use mathlib.Core.Path.{◌∙◌}
use Rattle.terms.specs.inner.Tables.{look_in}
use Rattle.terms.proofs.Reading.{in_none, in_many, in_condition, in_is}
use Rattle.terms.proofs.tables.Known.pair_in.Goals as goal

pub returns-in_err-q : goal.returns-in_err-q
returns-in_err-q c = rw c.from_residual.ensures (in_none _ _ _ (look_in c.args.self.now.tape.now c.args.self.now.terms.now) c.in_err-q.ensures)

pub returns-then-n-ne1 : goal.returns-then-n-ne1
returns-then-n-ne1 c = in_many _ _ _ (look_in c.args.self.now.tape.now c.args.self.now.terms.now) _ c.in_ok-q.ensures _ c.word_at-n.ensures.0 c.if-n-ne1.true

pub returns-then-m-ne0 : goal.returns-then-m-ne0
returns-then-m-ne0 c = in_condition _ _ _ (look_in c.args.self.now.tape.now c.args.self.now.terms.now) _ c.in_ok-q.ensures _ c.word_at-n.ensures.0 c.if-n-ne1.false _
    c.word_at-m.ensures.0 c.if-m-ne0.true

pub returns : goal.returns
returns c = c.pair.ensures ∙ in_is _ _ _ (look_in c.args.self.now.tape.now c.args.self.now.terms.now) _ c.in_ok-q.ensures _ c.word_at-n.ensures.0 c.if-n-ne1.false _
    c.word_at-m.ensures.0 _ c.if-m-ne0.false c.term_at-w.ensures
