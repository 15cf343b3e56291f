-- `difference`: one law for each way out.
use mathlib.Core.Path.{◌∙◌}
use Rattle.terms.proofs.Reading.{diff_plain, diff_many, diff-named, diff-guard, diff_is}
use Rattle.terms.proofs.tables.Known.difference.Goals as goal

pub returns-then-kind-ne-GUARDED : goal.returns-then-kind-ne-GUARDED
returns-then-kind-ne-GUARDED c = diff_plain _ _ _ _ _ c.word_at-kind.ensures.0 c.if-kind-ne-GUARDED.true

pub returns-then-n-ne1 : goal.returns-then-n-ne1
returns-then-n-ne1 c = diff_many _ _ _ _ _ c.word_at-kind.ensures.0 c.if-kind-ne-GUARDED.false _ c.word_at-n.ensures.0 c.if-n-ne1.true

pub returns-then-not-named : goal.returns-then-not-named
returns-then-not-named c = diff-named _ _ _ _ _ c.word_at-kind.ensures.0 c.if-kind-ne-GUARDED.false _ c.word_at-n.ensures.0 c.if-n-ne1.false _
    c.term_at-name.ensures _ c.named.ensures c.if-not-named.true

pub returns-then-not-named-2 : goal.returns-then-not-named-2
returns-then-not-named-2 c = diff-guard _ _ _ _ _ c.word_at-kind.ensures.0 c.if-kind-ne-GUARDED.false _ c.word_at-n.ensures.0 c.if-n-ne1.false _
    c.term_at-name.ensures _ c.named.ensures c.if-not-named.false _ c.term_at-g.ensures _ c.named-2.ensures c.if-not-named-2.true

pub returns : goal.returns
returns c = c.inside.ensures ∙ diff_is _ _ _ _ _ c.word_at-kind.ensures.0 c.if-kind-ne-GUARDED.false _ c.word_at-n.ensures.0 c.if-n-ne1.false _
    c.term_at-name.ensures _ c.named.ensures c.if-not-named.false _ c.term_at-g.ensures _ c.named-2.ensures _ _ c.if-not-named-2.false
    c.element_at-v.ensures c.term_at-u.ensures
