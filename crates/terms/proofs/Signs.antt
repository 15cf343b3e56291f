-- Signed numbers of 32 bits: a word w stands for an integer whose size is below 2^31, so neither it nor its negation wraps.
use Prim.Native.Nat.{ℕ, zero, suc, ◌/◌, ◌%◌, ◌<◌}
use mathlib.Core.Path.{◌≡◌, refl, sym}
use mathlib.Core.Bool.{Bool, true, false}
use native.Mathlib.Omega.{arith}
use borrow.Author.Tests.{eq-eqb, ne_eqb, eqb-true, eqb-false}
use lib.Dec.{eqb}
use lib.IntN.{ℤ, pos, neg_ℤ, neg_ℤ-neg_ℤ}
use mir.Syntax.{w32}
use mir.Val.{SFits, to_z, of_z}
use mir.Facts.{to_z-of_z, to_z_pos}
use Rattle.basics.specs.Bools.{pick}
use Rattle.basics.proofs.Bools.{picked}
use Rattle.aspif.specs.Grammar.{integer_of}
use Rattle.terms.specs.inner.Tables.{is_term}

fits_pos : (v : ℕ) → v < 2147483648 → SFits w32 (pos v)
fits_pos v h = record { sfits = h }

fits_neg : (v : ℕ) → v < 2147483648 → SFits w32 (neg_ℤ (pos v))
fits_neg zero h = record { sfits = h }
fits_neg (suc n) h = record { sfits = omega arith }

-- an integer that fits is its bits
pub back : {z : ℤ} → SFits w32 z → to_z w32 (of_z w32 z) ≡ z
back f = to_z-of_z f

-- the integer that a word stands for, and its negation
module _ (w : ℕ) (h : w < 4294967296) where
  half : to_z w32 (w / 2) ≡ pos (w / 2)
  half = to_z_pos w32 (omega arith)

  pub fits_int : SFits w32 (integer_of w)
  fits_int = picked (SFits w32) (eqb (w % 2) 0) (pos (w / 2)) (neg_ℤ (pos (w / 2))) (fits_pos (w / 2) (omega arith)) (fits_neg (w / 2) (omega arith))

  pub fits-opposite : SFits w32 (neg_ℤ (integer_of w))
  fits-opposite =
      picked (λ z. SFits w32 (neg_ℤ z)) (eqb (w % 2) 0) (pos (w / 2)) (neg_ℤ (pos (w / 2))) (fits_neg (w / 2) (omega arith)) (rw neg_ℤ-neg_ℤ (fits_pos (w / 2) (omega arith)))

-- ---- a compound's t

-- an even word is a term number
pub even-term : (w : ℕ) → w % 2 ≡ 0 → true ≡ is_term (integer_of w)
even-term w a = rw (eq-eqb (w % 2) 0 a)

negated-term : (m : ℕ) → is_term (neg_ℤ (pos m)) ≡ eqb m 0
negated-term zero = refl
negated-term (suc m) = sym (ne_eqb (suc m) 0 (λ e. omega arith))

-- an odd word is a term number only where it is 1, which stands for 0
pub odd-term : (w : ℕ) → (w % 2 ≡ 0 → ⊥) → eqb w 1 ≡ is_term (integer_of w)
odd-term w a = rw (ne_eqb (w % 2) 0 a, negated-term (w / 2)) (go (eqb w 1) refl)
  where
    go : (b : Bool) → eqb w 1 ≡ b → b ≡ eqb (w / 2) 0
    go true q = let e : w ≡ 1 = eqb-true w 1 q in sym (eq-eqb (w / 2) 0 (omega arith))
    go false q = let e : w ≡ 1 → ⊥ = eqb-false w 1 q in sym (ne_eqb (w / 2) 0 (λ z. e (omega (arith, z))))

-- a t that is a term number is the half of its word
pub term-half : (w : ℕ) → is_term (integer_of w) ≡ true → integer_of w ≡ pos (w / 2)
term-half w = go (eqb (w % 2) 0)
  where
    neg : (m : ℕ) → is_term (neg_ℤ (pos m)) ≡ true → neg_ℤ (pos m) ≡ pos m
    neg zero h = refl
    neg (suc m) h = let z : ◌≡◌ {A = Bool} false true = h in (cc)

    go : (b : Bool) → is_term (pick b (pos (w / 2)) (neg_ℤ (pos (w / 2)))) ≡ true → pick b (pos (w / 2)) (neg_ℤ (pos (w / 2))) ≡ pos (w / 2)
    go true h = refl
    go false h = neg (w / 2) h
