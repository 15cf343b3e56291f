-- `minus_of`: one law for each way out.
use mathlib.Core.Path.{◌∙◌}
use Rattle.terms.specs.inner.Tables.{look_in}
use Rattle.terms.proofs.Reading.{minus-not, minus_many, minus_is}
use Rattle.terms.proofs.tables.Known.minus_of.Goals as goal

pub returns-then-kind-ne-COMPOUND : goal.returns-then-kind-ne-COMPOUND
returns-then-kind-ne-COMPOUND c = minus-not _ (look_in c.args.self.now.tape.now c.args.self.now.terms.now) _ _ _ c.word_at-kind.ensures.0 c.if-kind-ne-COMPOUND.true

pub returns-then-n-count : goal.returns-then-n-count
returns-then-n-count c = minus_many _ (look_in c.args.self.now.tape.now c.args.self.now.terms.now) _ _ _ c.word_at-kind.ensures.0 c.if-kind-ne-COMPOUND.false _
    c.word_at-n.ensures.0 c.if-n-count.true

pub returns : goal.returns
returns c = c.is_minus.ensures ∙ minus_is _ (look_in c.args.self.now.tape.now c.args.self.now.terms.now) _ _ _ c.word_at-kind.ensures.0
    c.if-kind-ne-COMPOUND.false _ c.word_at-n.ensures.0 _ c.if-n-count.false c.word_at-t.ensures.0
