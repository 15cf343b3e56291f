-- Integers for `omega`, which reads ℕ alone. z is `up z` less `down z`, one of which is 0. An order or a sum of integers is stated by these, so a linear
-- fact on integers is `omega` over the facts below: `up_le (omega (arith, le_up h, add-up a b))`.
use mathlib.Core.Path.{◌≡◌, refl}
use mathlib.Core.Bool.{Bool, true, false, cond, not}
use mathlib.Core.Logic.{◌⊎◌, inl, inr, ⊎_elim}
use Prim.Native.Nat.{ℕ, zero, suc, ◌+◌, ◌-◌, ◌≤◌, ◌<◌}
use native.Mathlib.Omega.{arith}
use lib.Dec.{T, ltb, leb→le, le→leb, ltb→lt, lt→ltb, nltb→le}
use lib.IntN.{ℤ, pos, negsuc, neg_ℤ, sub_ℕ, ◌+ℤ◌, ◌-ℤ◌}
use lib.Signed.{◌≤ℤ◌, ◌<ℤ◌, le_z, lt_z}
use Rattle.diffs.specs.Diff.{Diff, Keeps, whole}
use Rattle.diffs.specs.inner.Steps.{up, down, Holds}

le_up' : (z w : ℤ) → T (le_z z w) → up z + down w ≤ up w + down z
le_up' (pos a) (pos b) t = omega (arith, leb→le a b t)
le_up' (pos a) (negsuc b) t = absurd t
le_up' (negsuc a) (pos b) t = omega arith
le_up' (negsuc a) (negsuc b) t = omega (arith, leb→le b a t)

pub le_up : {z w : ℤ} → z ≤ℤ w → up z + down w ≤ up w + down z
le_up {z} {w} h = le_up' z w h.le

up_le' : (z w : ℤ) → up z + down w ≤ up w + down z → T (le_z z w)
up_le' (pos a) (pos b) h = le→leb a b (omega arith)
up_le' (pos a) (negsuc b) h = let z : ⊥ = omega arith in absurd z
up_le' (negsuc a) (pos b) h = tt
up_le' (negsuc a) (negsuc b) h = le→leb b a (omega arith)

pub up_le : {z w : ℤ} → up z + down w ≤ up w + down z → z ≤ℤ w
up_le {z} {w} h = record { le = up_le' z w h }

lt_up' : (z w : ℤ) → T (lt_z z w) → up z + down w < up w + down z
lt_up' (pos a) (pos b) t = omega (arith, ltb→lt a b t)
lt_up' (pos a) (negsuc b) t = absurd t
lt_up' (negsuc a) (pos b) t = omega arith
lt_up' (negsuc a) (negsuc b) t = omega (arith, ltb→lt b a t)

pub lt_up : {z w : ℤ} → z <ℤ w → up z + down w < up w + down z
lt_up {z} {w} h = lt_up' z w h.lt

up_lt' : (z w : ℤ) → up z + down w < up w + down z → T (lt_z z w)
up_lt' (pos a) (pos b) h = lt→ltb a b (omega arith)
up_lt' (pos a) (negsuc b) h = let z : ⊥ = omega arith in absurd z
up_lt' (negsuc a) (pos b) h = tt
up_lt' (negsuc a) (negsuc b) h = lt→ltb b a (omega arith)

pub up_lt : {z w : ℤ} → up z + down w < up w + down z → z <ℤ w
up_lt {z} {w} h = record { lt = up_lt' z w h }

sub-up : (a b : ℕ) → up (sub_ℕ a b) + b ≡ a + down (sub_ℕ a b)
sub-up a b = go (ltb a b) (λ t. ltb→lt a b t) (λ t. nltb→le a b t)
  where
    go : (c : Bool) → (T c → a < b) → (T (not c) → b ≤ a)
        → up (cond c (negsuc (b - suc a)) (pos (a - b))) + b ≡ a + down (cond c (negsuc (b - suc a)) (pos (a - b)))
    go true f g = let h = f tt in omega arith
    go false f g = let h = g tt in omega arith

pub add-up : (z w : ℤ) → up (z +ℤ w) + (down z + down w) ≡ (up z + up w) + down (z +ℤ w)
add-up (pos a) (pos b) = omega arith
add-up (pos a) (negsuc b) = omega (arith, sub-up a (suc b))
add-up (negsuc a) (pos b) = omega (arith, sub-up b (suc a))
add-up (negsuc a) (negsuc b) = omega arith

pub neg_up : (z : ℤ) → (up (neg_ℤ z) ≡ down z) × (down (neg_ℤ z) ≡ up z)
neg_up (pos zero) = (refl, refl)
neg_up (pos (suc n)) = (refl, refl)
neg_up (negsuc n) = (refl, refl)

pub minus-up : (z w : ℤ) → up (z -ℤ w) + (down z + up w) ≡ (up z + down w) + down (z -ℤ w)
minus-up z w = omega (arith, add-up z (neg_ℤ w), neg_up w)

-- one part is 0
pub one-zero : (z : ℤ) → (up z ≡ 0) ⊎ (down z ≡ 0)
one-zero (pos n) = inr refl
one-zero (negsuc n) = inl refl

-- so a sum's parts are at most the sums of the parts
pub add_most : (z w : ℤ) → (up (z +ℤ w) ≤ up z + up w) × (down (z +ℤ w) ≤ down z + down w)
add_most z w =
    ⊎_elim (λ e. (omega arith, omega (arith, add-up z w))) (λ e. (omega (arith, add-up z w), omega arith)) (one-zero (z +ℤ w))

-- ---- a difference of natural times

pub keeps-holds : (u : ℕ → ℕ) (d : Diff) → Keeps (whole u) d → Holds u d
keeps-holds u d h = omega (arith, le_up h, minus-up (pos (u d.x)) (pos (u d.y)))

pub holds-keeps : (u : ℕ → ℕ) (d : Diff) → Holds u d → Keeps (whole u) d
holds-keeps u d h = up_le (omega (arith, h, minus-up (pos (u d.x)) (pos (u d.y))))
