-- `fields::digits::digits_at` meets its contract. The invariant: the digits from `i` on, after the value `v`, end where the digits from `at` on do,
-- and their value, kept at one more than `most`, is the same. Assumes nothing.
use Prim.Native.Nat.{◌+◌, ◌≤◌, min}
use mathlib.Core.Path.{◌≡◌}
use lib.ListN.{length}
use Rattle.fields.specs.Fields.{value}
use Rattle.fields.specs.inner.Digits.{digits_at}
use Rattle.fields.proofs.digits.digits_at.Given as goal

abbrev pub invariant-loop-i : goal.invariant-loop-i
invariant-loop-i l = (l.i + length (digits_at l.s l.i) ≡ l.at + length (digits_at l.s l.at)) × (min (value l.v (digits_at l.s l.i)) (l.most + 1) ≡ min (value 0 (digits_at l.s l.at)) (l.most + 1)) × (l.v ≤ l.most + 1)
