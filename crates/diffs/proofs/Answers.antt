-- What `decide` answers is right both ways: a cycle excludes times (`exclusive`), and earliest times are times.
use mathlib.Core.Path.{◌≡◌}
use mathlib.Core.List.{List, map}
use Prim.Native.Nat.{ℕ}
use native.Mathlib.Omega.{arith}
use lib.IntN.{ℤ}
use Rattle.std.specs.Prelude.{Option, Some}
use Rattle.diffs.specs.Diff.{Diff, KeepsAll, whole}
use Rattle.diffs.specs.inner.Answer.{cell, Among, Shown, Decided, timed, cyclic}
use Rattle.diffs.proofs.Cycles.{exclusive}

module _ {o : Option ℕ} {m : ℕ} {c : ℕ → Diff} {keys labels t room room' : List ℕ} where
  -- where `decide` answered a cycle, it is shown
  when_cycle : (n : ℕ) → Decided o m c keys labels t room room' → o ≡ Some n → Shown m c keys labels room room' n
  when_cycle n (timed e u r) f = let z : ◌≡◌ {A = ℕ} 0 1 = (cc) in absurd (omega arith)
  when_cycle n (cyclic k e s) f = let q : k ≡ n = (cc) in rw q at s

  no_times_cycle : Decided o m c keys labels t room room' → ((s : ℕ → ℤ) → KeepsAll s (Among m c) → ⊥) → (n : ℕ) × (o ≡ Some n)
  no_times_cycle (timed e u r) f = absurd (f (whole (cell t)) u.keeps)
  no_times_cycle (cyclic n e s) f = (n, e)

  -- a cycle is given exactly if no whole-number times keep the differences
  pub cycle_exactly : Decided o m c keys labels t room room'
      → (((n : ℕ) × (o ≡ Some n)) → (s : ℕ → ℤ) → KeepsAll s (Among m c) → ⊥)
      × (((s : ℕ → ℤ) → KeepsAll s (Among m c) → ⊥) → (n : ℕ) × (o ≡ Some n))
  cycle_exactly d = (
    λ q s k. let h = when_cycle q.0 d q.1 in exclusive (Among m c) (map c h.numbers) s h.negative k,
    no_times_cycle d,
  )
