-- Laws of digits, of their value, and of the fields that are naturals. Assumes nothing.
use Prim.Native.Nat.{ℕ, suc, ◌+◌, ◌-◌, ◌*◌, ◌≤◌, ◌<◌, min}
use mathlib.Core.Path.{◌≡◌, refl, sym, ap, ◌∙◌}
use mathlib.Core.List.{List, [], ◌∷◌}
use mathlib.Core.Bool.{Bool, true, false, not, ◌&&◌}
use borrow.Author.Tests.{eq-eqb, ne_eqb, eqb-true, le-leb, leb-true, leb-false}
use lib.Dec.{eqb, leb}
use native.Mathlib.Omega.{arith}
use lib.ListN.{length, get_or, drop}
use Rattle.basics.specs.Bools.{pick}
use Rattle.fields.specs.Fields.{space, feed, return, byte_at, until, ends_field, zero_digit, nine_digit, is_empty, all_digits, is_digit, value, is_natural}
use Rattle.fields.specs.inner.Digits.{no_digit, digits_at}
use Rattle.fields.proofs.Runs.{run_out, run_stop, run_more}
use Rattle.fields.proofs.LineEnds.{byte_here}

-- ---- the digits at a place, one step of them

module _ (s : List ℕ) (i : ℕ) where
  pub digits_out : length s ≤ i → digits_at s i ≡ []
  unfolding digits_at
  digits_out h = run_out no_digit s i h

  pub digits_stop : i < length s → is_digit (get_or s i 0) ≡ false → digits_at s i ≡ []
  unfolding digits_at byte_at
  digits_stop h t = run_stop no_digit s i h (rw (byte_here s i) (ap not t))

  pub digits_more : i < length s → is_digit (get_or s i 0) ≡ true → digits_at s i ≡ get_or s i 0 ∷ digits_at s (i + 1)
  unfolding digits_at byte_at
  digits_more h t = run_more no_digit s i h (rw (byte_here s i) (ap not t))

-- ---- their value

-- more digits make no value less
pub value_grows : (v : ℕ) (bs : List ℕ) → v ≤ value v bs
unfolding value
value_grows v [] = omega arith
value_grows v (b ∷ bs) = omega (arith, value_grows (v * 10 + (b - zero_digit)) bs)

pub value_none : (v : ℕ) (f : List ℕ) → f ≡ [] → value v f ≡ v
unfolding value
value_none v f e = rw e

-- a value that is kept at a bound is kept at it by further digits
value-kept : (m w : ℕ) (bs : List ℕ) → min (value (min w m) bs) m ≡ min (value w bs) m
value-kept m w bs = go (leb w m) refl
  where
    go : (t : Bool) → leb w m ≡ t → min (value (min w m) bs) m ≡ min (value w bs) m
    go true q = let e : min w m ≡ w = omega (arith, leb-true w m q) in rw e
    go false q = omega (arith, leb-false w m q, value_grows (min w m) bs, value_grows w bs)

pub value-more : (m v w b : ℕ) (f bs : List ℕ) → f ≡ b ∷ bs → w ≡ min (v * 10 + (b - zero_digit)) m → min (value w bs) m ≡ min (value v f) m
unfolding value
value-more m v w b f bs e k = rw (e, k) (value-kept m (v * 10 + (b - zero_digit)) bs)

-- ---- the digits of a field

pub digit_from : (b : ℕ) → is_digit b ≡ true → zero_digit ≤ b
digit_from b h = go (leb zero_digit b) refl h
  where
    go : (t : Bool) → leb zero_digit b ≡ t → t && leb b nine_digit ≡ true → zero_digit ≤ b
    go true q e = leb-true zero_digit b q
    go false q e = let z : ◌≡◌ {A = ℕ} 0 1 = (cc) in absurd (omega arith)

-- a digit ends no field
pub digit_within : (b : ℕ) (bs : List ℕ) → is_digit b ≡ true → ends_field (b ∷ bs) ≡ false
unfolding byte_at
digit_within b bs h = let l = digit_from b h in simp (ne_eqb b space (omega arith), ne_eqb b feed (omega arith), ne_eqb b return (omega arith))

-- a field is all digits exactly if it ends where its first digits do
pub digits_end : (l : List ℕ) → is_empty (until ends_field (drop (length (until no_digit l)) l)) ≡ all_digits (until ends_field l)
unfolding until all_digits byte_at
digits_end [] = refl
digits_end (b ∷ bs) = go (is_digit b) refl (ends_field (b ∷ bs)) refl (digits_end bs)
  where
    go : (d : Bool) → is_digit b ≡ d → (t : Bool) → ends_field (b ∷ bs) ≡ t
        → is_empty (until ends_field (drop (length (until no_digit bs)) bs)) ≡ all_digits (until ends_field bs)
        → is_empty (until ends_field (drop (length (pick (not d) [] (b ∷ until no_digit bs))) (b ∷ bs))) ≡ all_digits (pick t [] (b ∷ until ends_field bs))
    go true p true q i = let e = digit_within b bs p in let z : ◌≡◌ {A = ℕ} 0 1 = (cc) in absurd (omega arith)
    go true p false q i = rw p i
    go false p true q i = rw q
    go false p false q i = rw (q, p)

-- and then it is these digits
pub digits_all : (l : List ℕ) → all_digits (until ends_field l) ≡ true → until ends_field l ≡ until no_digit l
unfolding until all_digits byte_at
digits_all [] h = refl
digits_all (b ∷ bs) h = go (is_digit b) refl (ends_field (b ∷ bs)) refl (digits_all bs) h
  where
    go : (d : Bool) → is_digit b ≡ d → (t : Bool) → ends_field (b ∷ bs) ≡ t
        → (all_digits (until ends_field bs) ≡ true → until ends_field bs ≡ until no_digit bs)
        → all_digits (pick t [] (b ∷ until ends_field bs)) ≡ true → pick t [] (b ∷ until ends_field bs) ≡ pick (not d) [] (b ∷ until no_digit bs)
    go true p true q i h = let e = digit_within b bs p in let z : ◌≡◌ {A = ℕ} 0 1 = (cc) in absurd (omega arith)
    go true p false q i h = ap {B = List ℕ} (λ r. b ∷ r) (i (ap (λ t. t && all_digits (until ends_field bs)) (sym p) ∙ h))
    go false p true q i h = refl
    go false p false q i h = let z : ◌≡◌ {A = ℕ} 0 1 = (cc) in absurd (omega arith)

-- ---- which fields are naturals

pub natural-empty : (f : List ℕ) → is_empty f ≡ true → is_natural f ≡ false
unfolding is_natural
natural-empty [] h = refl
natural-empty (b ∷ bs) h = let z : ◌≡◌ {A = ℕ} 0 1 = (cc) in absurd (omega arith)

module _ (f : List ℕ) (b : ℕ) (bs : List ℕ) (e : f ≡ b ∷ bs) where
  pub natural-zero : b ≡ zero_digit → is_natural f ≡ is_empty bs
  unfolding is_natural
  natural-zero z = rw (e, eq-eqb _ _ z)

  pub natural_other : (b ≡ zero_digit → ⊥) → is_natural f ≡ all_digits f
  unfolding is_natural
  natural_other n = rw (e, ne_eqb _ _ n)

pub natural_digits : (f : List ℕ) → is_natural f ≡ true → all_digits f ≡ true
unfolding is_natural all_digits
natural_digits [] h = refl
natural_digits (b ∷ bs) h = go (eqb b zero_digit) refl bs h
  where
    go : (t : Bool) → eqb b zero_digit ≡ t → (bs : List ℕ) → pick t (is_empty bs) (all_digits (b ∷ bs)) ≡ true → all_digits (b ∷ bs) ≡ true
    go true q [] h = let e = eqb-true b zero_digit q in simp (le-leb zero_digit b (omega arith), le-leb b nine_digit (omega arith))
    go true q (d ∷ ds) h = let z : ◌≡◌ {A = ℕ} 0 1 = (cc) in absurd (omega arith)
    go false q bs h = h

pub natural-some : (f : List ℕ) → is_natural f ≡ true → 0 < length f
unfolding is_natural
natural-some [] h = let z : ◌≡◌ {A = ℕ} 0 1 = (cc) in omega arith
natural-some (b ∷ bs) h = omega arith

pub two_digits : (f : List ℕ) → is_natural f ≡ true → value 0 f ≡ 10 → 1 < length f
unfolding is_natural value all_digits
two_digits [] h e = let z : ◌≡◌ {A = ℕ} 0 1 = (cc) in absurd (omega arith)
two_digits (b ∷ []) h e = go (eqb b zero_digit) refl (leb zero_digit b) refl (leb b nine_digit) refl h
  where
    go : (t : Bool) → eqb b zero_digit ≡ t → (u : Bool) → leb zero_digit b ≡ u → (w : Bool) → leb b nine_digit ≡ w → pick t true ((u && w) && true) ≡ true → 1 < suc 0
    go true p u q w r i = omega (arith, eqb-true b zero_digit p)
    go false p true q true r i = omega (arith, leb-true b nine_digit r)
    go false p true q false r i = let z : ◌≡◌ {A = ℕ} 0 1 = (cc) in absurd (omega arith)
    go false p false q w r i = let z : ◌≡◌ {A = ℕ} 0 1 = (cc) in absurd (omega arith)
two_digits (b ∷ d ∷ bs) h e = omega arith

-- what the file digits of src takes of these
pub ruleset decimal = (digits_out, digits_stop, digits_more, value_none, value-more)
