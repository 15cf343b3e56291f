-- Times that keep a path's differences keep its sum, so they keep no negative cycle.
use mathlib.Core.Path.{ap}
use mathlib.Core.List.{List, [], ◌∷◌}
use Prim.Native.Nat.{ℕ}
use native.Mathlib.Omega.{arith}
use lib.IntN.{ℤ, ◌-ℤ◌}
use lib.Signed.{◌≤ℤ◌}
use Rattle.basics.specs.Lists.{All}
use Rattle.diffs.specs.Diff.{Diff, Keeps, KeepsAll, Path, Sum, NegCycle}
use Rattle.diffs.specs.inner.Steps.{up, down}
use Rattle.diffs.proofs.Integers.{le_up, up_le, lt_up, add-up, minus-up}
use Rattle.diffs.proofs.Names.{all_map}

-- times that keep each difference of a path from a to b have a at most the sum after b
along : (t : ℕ → ℤ) (a : ℕ) (ds : List Diff) (b : ℕ) → Path a ds b → All (Keeps t) ds → (t a -ℤ t b) ≤ℤ Sum ds
along t a [] b p h = up_le (omega (arith, minus-up (t a) (t b), ap (λ (n : ℕ). up (t n)) p, ap (λ (n : ℕ). down (t n)) p))
along t a (d ∷ ds) b p h =
    let rest : (t d.y -ℤ t b) ≤ℤ Sum ds = along t d.y ds b p.1 h.1 in
    up_le (omega (
      arith,
      le_up rest,
      le_up h.0,
      minus-up (t a) (t b),
      minus-up (t d.y) (t b),
      minus-up (t d.x) (t d.y),
      add-up d.k (Sum ds),
      ap (λ (n : ℕ). up (t n)) p.0,
      ap (λ (n : ℕ). down (t n)) p.0,
    ))

-- no whole-number times keep all differences of a set that has a negative cycle
pub exclusive : (S : Diff → Type 0) (ds : List Diff) (t : ℕ → ℤ) → NegCycle S ds → KeepsAll t S → ⊥
exclusive S ds t c h =
    let a : ℕ = c.cycle.start in
    let kept : All (Keeps t) ds = all_map S (Keeps t) h ds c.members in
    let round : (t a -ℤ t a) ≤ℤ Sum ds = along t a ds a c.cycle.closed kept in
    omega (arith, le_up round, lt_up c.below, minus-up (t a) (t a))
