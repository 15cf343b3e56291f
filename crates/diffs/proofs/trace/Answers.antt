-- `trace`: what w has from `start` on are the parents from `last` back to a, all of different names.
use mathlib.Core.Path.{◌∙◌}
use native.Mathlib.Omega.{arith}
use lib.ListN.{length-set}
use Rattle.faults.specs.inner.Places.{term_places}
use Rattle.diffs.proofs.Tracing.{started_at, walked, room_left, parent_at, onward_at}
use Rattle.diffs.proofs.trace.Goals as goal

pub loop-q-init : goal.loop-q-init
loop-q-init c = (omega arith, c.told-w, started_at _ _ _ _ _ c.args.w.now term_places (omega (arith, c.told-w)) c.requires.stuck c.requires.slices.named)

pub returns-in-Some : goal.returns-in-Some
returns-in-Some c =
    let i = c.loop-q.invariant in
    walked _ _ _ _ _ _ i.1 i.2 _ c.in-Some.ensures

pub overflow_sub-start : goal.overflow_sub-start
overflow_sub-start c =
    let i = c.loop-q.invariant in
    room_left _ _ _ _ _ _ i.1 i.2 c.in_default.ensures i.0

pub bounds-differences-e : goal.bounds-differences-e
bounds-differences-e c =
    let i = c.loop-q.invariant in
    parent_at _ _ _ _ _ _ i.1 i.2 c.in_default.ensures

pub loop-q-smaller : goal.loop-q-smaller
loop-q-smaller c =
    let i = c.loop-q.invariant in
    omega (arith, room_left _ _ _ _ _ _ i.1 i.2 c.in_default.ensures i.0)

pub loop-q-preserved : goal.loop-q-preserved
loop-q-preserved c =
    let i = c.loop-q.invariant in
    (omega (arith, i.0), length-set c.loop-q.w _ _ ∙ i.1, onward_at _ _ _ _ _ _ i.1 i.2 c.in_default.ensures (room_left _ _ _ _ _ _ i.1 i.2 c.in_default.ensures i.0) i.0)
