-- `is_minus`: a term number, that of the string `-`.
use mathlib.Core.Path.{◌∙◌}
use Rattle.terms.specs.inner.Tables.{look_in}
use Rattle.terms.proofs.Reading.{minus_other, minus-term}
use Rattle.terms.proofs.tables.Known.is_minus.Goals as goal

pub returns-then-is_term : goal.returns-then-is_term
returns-then-is_term c =
    let args = c.args in
    c.named.ensures ∙ minus-term (look_in args.self.now.tape.now args.self.now.terms.now) args.t _ c.is_term.ensures c.if-is_term.true

pub returns-else-is_term : goal.returns-else-is_term
returns-else-is_term c = c.if-is_term.false ∙
    minus_other (look_in c.args.self.now.tape.now c.args.self.now.terms.now) c.args.t _ c.is_term.ensures c.if-is_term.false
