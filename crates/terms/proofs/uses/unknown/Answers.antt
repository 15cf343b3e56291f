-- `unknown`: the leftmost of those left decides the whole; each turn passes one that is entered.
use Rattle.terms.proofs.Using.{unknown-none, unknown_here, unknown-later}
use Rattle.terms.proofs.uses.unknown.Goals as goal

pub returns-then-is_none : goal.returns-then-is_none
returns-then-is_none c = unknown_here _ _ _ _ _ _ _ _ c.loop-i-test.true c.word_at-u.ensures.0 c.entry.ensures c.loop-i.invariant
    c.if-is_none.ensures

pub loop-i-preserved : goal.loop-i-preserved
loop-i-preserved c = unknown-later _ _ _ _ _ _ _ _ c.loop-i-test.true c.word_at-u.ensures.0 c.entry.ensures c.loop-i.invariant
    c.if-is_none.ensures

pub returns : goal.returns
returns c = unknown-none _ _ _ _ _ _ c.loop-i-test.false c.loop-i.invariant
