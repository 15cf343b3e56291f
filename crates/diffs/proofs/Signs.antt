-- A signed bound of 32 bits and its two parts: it is the same read back from 64 bits, and is negated there without wrap.
use mathlib.Core.Path.{◌≡◌, refl, ap, subst, ◌∙◌}
use mathlib.Core.Bool.{true, false}
use Prim.Native.Nat.{◌≤◌, ◌<◌, ◌^◌}
use native.Mathlib.Omega.{arith}
use borrow.Author.Tests.{ltb-true}
use lib.Dec.{T}
use lib.IntN.{ℤ, pos, negsuc, nat_abs, ◌-ℤ◌}
use lib.Signed.{lt_z, non_neg}
use mir.Syntax.{w32, w64}
use mir.Val.{SFits, to_z, of_z}
use mir.Facts.{to_z-of_z, sfits_widen}
use Rattle.diffs.specs.inner.Steps.{up, down, most_down}

pub back32 : {k : ℤ} → SFits w32 k → to_z w32 (of_z w32 k) ≡ k
back32 f = to_z-of_z f

pub back64 : {k : ℤ} → SFits w32 k → to_z w64 (of_z w64 (to_z w32 (of_z w32 k))) ≡ k
back64 {k} f = ap (λ (z : ℤ). to_z w64 (of_z w64 z)) (to_z-of_z f) ∙ to_z-of_z {w = w64} (sfits_widen {w = w32} {w' = w64} tt f)

-- not below 0
pub up-abs : (k : ℤ) → lt_z k (pos 0) ≡ false → (T (non_neg k)) × (nat_abs k ≡ up k) × (down k ≡ 0)
up-abs (pos n) h = (tt, refl, refl)
up-abs (negsuc n) h = absurd (subst T h tt)

-- below 0
pub down-abs : (k : ℤ) → lt_z k (pos 0) ≡ true → (T (non_neg (pos 0 -ℤ k))) × (nat_abs (pos 0 -ℤ k) ≡ down k) × (up k ≡ 0)
down-abs (pos n) h = let z : ⊥ = omega (arith, ltb-true n 0 h) in absurd z
down-abs (negsuc n) h = (tt, omega arith, refl)

pub fits-abs : (k : ℤ) → SFits w32 k → nat_abs k < 2 ^ 32
fits-abs (pos n) f = let h = f.sfits in omega arith
fits-abs (negsuc n) f = let h = f.sfits in omega arith

pub fits-minus : (k : ℤ) → lt_z k (pos 0) ≡ true → SFits w32 k → SFits w64 (pos 0 -ℤ k)
fits-minus (pos n) h f = let z : ⊥ = omega (arith, ltb-true n 0 h) in absurd z
fits-minus (negsuc n) h f = let g = f.sfits in record { sfits = omega arith }

pub up_small : (k : ℤ) → SFits w32 k → up k < 2 ^ 31
up_small (pos n) f = let h = f.sfits in omega arith
up_small (negsuc n) f = omega arith

pub down-small : (k : ℤ) → SFits w32 k → down k ≤ most_down
down-small (pos n) f = omega arith
down-small (negsuc n) f = let h = f.sfits in omega arith
