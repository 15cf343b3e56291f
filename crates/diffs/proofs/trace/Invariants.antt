-- `trace`: what w has from `start` on are the parents from `last` back to a, all of different names.
use mathlib.Core.Path.{◌≡◌}
use Prim.Native.Nat.{◌≤◌}
use lib.ListN.{length, drop}
use Rattle.faults.specs.inner.Places.{term_places}
use Rattle.diffs.specs.inner.Answer.{diff_at}
use Rattle.diffs.proofs.Tracing.{Tracing}
use Rattle.diffs.proofs.trace.Given as goal

abbrev pub invariant-loop-q : goal.invariant-loop-q
invariant-loop-q l = (l.start ≤ term_places) × (length l.w ≡ term_places) × Tracing (length l.differences) term_places (diff_at l.differences) l.fn.last.0 l.p l.a.0 (drop l.start l.w)

abbrev pub decreases-loop-q : goal.decreases-loop-q
decreases-loop-q l = l.start
