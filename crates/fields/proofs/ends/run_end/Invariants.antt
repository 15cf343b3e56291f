-- `fields::ends::run_end` meets its contract. The invariant: the end, reckoned from `i`, is the end that is asked.
-- Assumes nothing.
use Prim.Native.Nat.{◌+◌}
use mathlib.Core.Path.{◌≡◌}
use lib.ListN.{length, drop}
use Rattle.fields.specs.Fields.{until, breaks_at}
use Rattle.fields.proofs.ends.run_end.Given as goal

abbrev pub invariant-loop-i : goal.invariant-loop-i
invariant-loop-i l = l.i + length (until (breaks_at l.b l.ends) (drop l.i l.s)) ≡ l.at + length (until (breaks_at l.b l.ends) (drop l.at l.s))
