-- Earliest times: they are unique, a name that stands in no difference has 0, and what adding differences does to them.
-- Each law puts other times that keep the set under the bound that `Earliest` states.
use mathlib.Core.Path.{◌≡◌}
use mathlib.Core.Logic.{◌≢◌}
use Prim.Native.Nat.{ℕ, ◌≤◌}
use native.Mathlib.Omega.{arith}
use Rattle.diffs.specs.Diff.{Diff, KeepsAll, whole, Earliest}
use Rattle.diffs.specs.inner.Steps.{Holds}
use Rattle.diffs.proofs.Choosing.{upd, upd_same, upd_other}
use Rattle.diffs.proofs.Integers.{keeps-holds, holds-keeps}

-- two times that are both the earliest are the same
pub earliest_unique : (S : Diff → Type 0) (u v : ℕ → ℕ) → Earliest S u → Earliest S v → (n : ℕ) → u n ≡ v n
earliest_unique S u v e f n = omega (arith, e.least v f.keeps n, f.least u e.keeps n)

module _ (S : Diff → Type 0) (u : ℕ → ℕ) (e : Earliest S u) (a : ℕ) (off : (d : Diff) → S d → (d.x ≢ a) × (d.y ≢ a)) where
  off_holds : (d : Diff) → S d → Holds (upd u a 0) d
  off_holds d s =
      omega (arith, upd_other u a 0 d.x (off d s).0, upd_other u a 0 d.y (off d s).1, keeps-holds u d (e.keeps d s))

  -- a name that stands in no difference has the earliest time 0
  pub unnamed_zero : u a ≡ 0
  unnamed_zero = omega (arith, upd_same u a 0, e.least (upd u a 0) (λ d s. holds-keeps (upd u a 0) d (off_holds d s)) a)

module _ (S S' : Diff → Type 0) (more : (d : Diff) → S d → S' d) where
  -- adding differences makes no time earlier
  pub none_earlier : (u v : ℕ → ℕ) → Earliest S u → Earliest S' v → (n : ℕ) → u n ≤ v n
  none_earlier u v e f n = e.least v (λ d s. f.keeps d (more d s)) n

  -- where the old times keep the differences added, they are still the earliest
  still-earliest : (u : ℕ → ℕ) → Earliest S u → KeepsAll (whole u) S' → Earliest S' u
  still-earliest u e k = record { keeps = k; least = λ v h. e.least v (λ d s. h d (more d s)) }

  -- where the old times keep the differences added, nothing moves
  pub nothing_moves : (u v : ℕ → ℕ) → Earliest S u → Earliest S' v → KeepsAll (whole u) S' → (n : ℕ) → v n ≡ u n
  nothing_moves u v e f k = earliest_unique S' v u f (still-earliest u e k)
