-- `settle`: as many rounds are made as are counted, each of which raised something, the last one the name `last`.
use native.Mathlib.Omega.{arith}
use Rattle.std.specs.Prelude.{None, Some}
use Rattle.diffs.proofs.Rounds.{first, quiet, next, ended}
use Rattle.diffs.proofs.settle.Goals as goal

pub loop-init : goal.loop-init
loop-init c = (None, first _ _ _ _ _ c.requires.zeros c.told-t c.told-p)

pub returns-in_err-round : goal.returns-in_err-round
returns-in_err-round c =
    let i = c.loop.invariant in
    rw c.from_residual.ensures (quiet _ _ _ _ _ _ (c.in_err-round.ensures _ i.0 i.1))

pub loop-preserved : goal.loop-preserved
loop-preserved c =
    let i = c.loop.invariant in
    (Some c.in_ok-round.field-0, next _ _ _ _ _ _ _ (c.in_ok-round.ensures _ i.0 i.1))

pub returns : goal.returns
returns c =
    let i = c.loop.invariant in
    ended _ _ _ _ _ (c.round-2.ensures _ i.0 i.1) (omega arith)
