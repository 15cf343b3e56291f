-- `round`: the differences below i are passed, in whichever round; that some round is under way bounds the times.
use mathlib.Core.Path.{◌≡◌, subst}
use mathlib.Core.Logic.{inl, inr}
use Prim.Native.Nat.{ℕ}
use native.Mathlib.Omega.{arith}
use lib.ListN.{length}
use Rattle.faults.specs.inner.Places.{term_places}
use Rattle.diffs.specs.inner.Answer.{diff_at}
use Rattle.diffs.specs.inner.Steps.{Mid}
use Rattle.diffs.proofs.Rounds.{room, stepped}
use Rattle.diffs.proofs.round.Goals as goal
use Rattle.diffs.proofs.round.Goals.{then-relax, else-relax}

pub relax-requires-clause-bound : goal.relax-requires-clause-bound
relax-requires-clause-bound c =
    let u = c.requires in
    let f = room _ _ _ _ _ _ _ _ (c.loop-i.invariant u.r u.before u.state) u.early u.slices.few (omega arith) in
    (f _, f _)

pub loop-i-preserved : goal.loop-i-preserved
loop-i-preserved c =
    λ r b v. stepped _ _ _ r _ _ _ _ _ _ _ _
    (c.loop-i.invariant r b v) c.loop-i-test.true (c.requires.slices.named _ c.loop-i-test.true).1 c.relax.ensures.small c.relax.ensures.step
    (elim c.if-relax.branch [ then-relax w ↦ inl (w.if-relax.true, w.last-is) | else-relax w ↦ inr (w.if-relax.false, w.last-is) ])

pub returns : goal.returns
returns c = λ r b v.
    let a = c.args.differences.now in
    let l = c.loop-i in
    let e : l.i ≡ length a = omega arith in
    subst (λ (j : ℕ). Mid (length a) term_places (diff_at a) r j l.last l.t l.p) e (l.invariant r b v)
