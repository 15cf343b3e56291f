-- `body_true`: by the kind of the body, all of its literals, or its bound. Assumes nothing.
use mathlib.Core.Path.{◌∙◌}
use Rattle.stable.proofs.Bodies.{small-literals, small-premises, normal-same, weights-same}
use Rattle.stable.proofs.Truth.body_true.Goals as goal

pub all_true-requires : goal.all_true-requires
all_true-requires c = record { small = small-literals _ _ c.list_at-list.ensures c.requires.body_on c.if-tape-at-eq-NORMAL.true }

pub returns-then-tape-at-eq-NORMAL : goal.returns-then-tape-at-eq-NORMAL
returns-then-tape-at-eq-NORMAL c = c.all_true.ensures ∙ normal-same _ _ c.list_at-list.ensures _ _ c.if-tape-at-eq-NORMAL.true

pub bound_reached-requires : goal.bound_reached-requires
bound_reached-requires c = record { small = small-premises _ _ c.list_at-list.ensures c.requires.body_on c.if-tape-at-eq-NORMAL.false }

pub returns : goal.returns
returns c = c.bound_reached.ensures ∙ weights-same _ _ c.list_at-list.ensures _ _ c.if-tape-at-eq-NORMAL.false c.word_at-bound.ensures.0
