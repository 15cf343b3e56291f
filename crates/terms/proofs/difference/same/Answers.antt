-- `same`: what is left of both strings decides the whole; each turn passes one byte that is the same.
use mathlib.Core.Path.{sym, ◌∙◌}
use Rattle.terms.proofs.Strings.{same_none, same_end, same_other, same_on}
use Rattle.terms.proofs.difference.same.Goals as goal

pub returns-then-n-wanted : goal.returns-then-n-wanted
returns-then-n-wanted c = same_none _ _ _ _ c.if-n-wanted.true

pub returns-then-b-from : goal.returns-then-b-from
returns-then-b-from c = same_other _ _ _ _ c.if-n-wanted.false _ c.loop-i.invariant c.loop-i-test.true _ c.word_at-b.ensures.0
    (λ e. c.if-b-from.true (e ∙ sym c.from.ensures))

pub loop-i-preserved : goal.loop-i-preserved
loop-i-preserved c = same_on _ _ _ _ c.if-n-wanted.false _ c.loop-i.invariant c.loop-i-test.true _ c.word_at-b.ensures.0
    (c.if-b-from.false ∙ c.from.ensures)

pub returns : goal.returns
returns c = same_end _ _ _ _ c.if-n-wanted.false _ c.loop-i.invariant c.loop-i-test.false
