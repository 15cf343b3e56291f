-- `least`: q has the smallest key of the places passed.
use Prim.Native.Nat.{ℕ, ◌<◌, ◌≤◌}
use lib.ListN.{length, get_or}
use Rattle.diffs.specs.inner.Answer.{cell}
use Rattle.diffs.proofs.least.Given as goal

abbrev pub invariant-loop-i : goal.invariant-loop-i
invariant-loop-i l = (l.q < length l.walk) × ((k d : ℕ) → k < l.i → cell l.keys (cell l.walk l.q) ≤ cell l.keys (get_or l.walk k d))
