-- `gather`: before difference i, the first n places have those of the first i whose atom is marked, and the places from i on are as they were.
use mathlib.Core.Path.{sym, ◌∙◌}
use native.Mathlib.Omega.{arith}
use Rattle.judge.proofs.Gathering.{going_start, going_pass, going_take, going_end}
use Rattle.judge.proofs.timed.gather.Goals as goal

pub loop-i-init : goal.loop-i-init
loop-i-init c = going_start _ _ _ c.requires

pub loop-i-preserved-then-not-holds : goal.loop-i-preserved-then-not-holds
loop-i-preserved-then-not-holds c = going_pass _ _ _ _ _ _ _ c.loop-i.invariant c.loop-i-test.true (sym c.holds.ensures ∙ c.if-not-holds.true)

pub loop-i-preserved : goal.loop-i-preserved
loop-i-preserved c = going_take _ _ _ _ _ _ _ c.loop-i.invariant c.loop-i-test.true (sym c.holds.ensures ∙ c.if-not-holds.false)

pub returns : goal.returns
returns c = going_end _ _ _ _ _ _ _ c.loop-i.invariant (omega (arith, c.loop-i.auto.i-end, c.loop-i-test.false))
