-- Laws of a natural and of a byte at a place of the text: what each way through the code gives. Assumes nothing.
use Prim.Native.Nat.{ℕ, suc, ◌+◌, ◌≤◌, ◌<◌, min}
use mathlib.Core.Path.{◌≡◌, refl, sym, ap, ◌∙◌}
use mathlib.Core.List.{List, [], ◌∷◌}
use mathlib.Core.Bool.{Bool, true, false}
use mathlib.Core.Logic.{◌⊎◌, inl, inr}
use borrow.Author.Tests.{eq-eqb, eqb-true, eqb-false, le-leb, lt-leb, ltb-true, ltb-false}
use lib.Dec.{eqb, leb, ltb, lit<}
use native.Mathlib.Omega.{arith}
use lib.ListN.{length, get_or, drop, length-drop, get_or-eq_default}
use lib.Seq.{drop-cons, drop-drop}
use Rattle.basics.specs.Bools.{pick}
use Rattle.basics.proofs.Bools.{and_cases}
use Rattle.fields.specs.Reading.{found, fault}
use Rattle.fields.specs.Fields.{feed, return, return_feed, until, ends_field, field, zero_digit, is_empty, is_digit, all_digits, value, is_natural, natural, byte_at, byte}
use Rattle.fields.specs.inner.Digits.{no_digit, digits_at}
use Rattle.fields.proofs.Runs.{run_out, run_stop, run_more, until-length}
use Rattle.fields.proofs.Decimal.{digits_out, digits_stop, digit_within, digits_end, digits_all, natural-empty, natural-zero, natural_other, natural_digits, natural-some, two_digits}

empty_of : (f : List ℕ) → length f ≡ 0 → is_empty f ≡ true
empty_of [] h = refl
empty_of (b ∷ bs) h = absurd (omega arith)

empty-none : (f : List ℕ) → is_empty f ≡ true → length f ≡ 0
empty-none [] h = refl
empty-none (b ∷ bs) h = let z : ◌≡◌ {A = ℕ} 0 1 = (cc) in absurd (omega arith)

module _ (s : List ℕ) (at : ℕ) where
  pub field_out : length s ≤ at → is_empty (field s at) ≡ true
  unfolding field
  field_out h = rw (run_out ends_field s at h)

  -- no byte of a field stands at a place exactly if it ends there
  pub field_stop : at < length s → is_empty (field s at) ≡ ends_field (drop at s)
  unfolding field
  field_stop h = go (ends_field (drop at s)) refl
    where
      go : (t : Bool) → ends_field (drop at s) ≡ t → is_empty (until ends_field (drop at s)) ≡ t
      go true q = rw (run_stop ends_field s at h q)
      go false q = rw (run_more ends_field s at h q)

  pub field-more : is_empty (field s at) ≡ false → field s at ≡ byte_at s at ∷ field s (at + 1)
  unfolding byte_at field
  field-more e = go (ltb at (length s)) refl
    where
      go : (t : Bool) → ltb at (length s) ≡ t → until ends_field (drop at s) ≡ get_or s at 0 ∷ until ends_field (drop (at + 1) s)
      go true q = let h = ltb-true at (length s) q in run_more ends_field s at h (sym (field_stop h) ∙ e)
      go false q =
          let o = field_out (ltb-false at (length s) q) in
          let z : ◌≡◌ {A = ℕ} 0 1 = (cc) in
          absurd (omega arith)

  pub natural_bad : (k most : ℕ) {t : Bool} → t ≡ is_natural (field s at) → t ≡ false → fault 3 at ≡ natural k most s at
  unfolding natural
  natural_bad k most p q = rw (sym p ∙ q)

module _ (s : List ℕ) (at e : ℕ) (ends : e ≡ at + length (field s at)) where
  pub field-within : at < e → e ≤ length s
  unfolding field
  field-within h = omega (arith, until-length ends_field (drop at s), length-drop at s)

  pub natural-none : (k most : ℕ) → e ≤ at → fault 3 at ≡ natural k most s at
  unfolding natural
  natural-none k most h = rw (natural-empty (field s at) (empty_of (field s at) (omega arith)))

module _ (s : List ℕ) (at e : ℕ) (ends : e ≡ at + length (digits_at s at)) where
  pub natural-ends : is_empty (field s e) ≡ all_digits (field s at)
  unfolding field digits_at
  natural-ends = rw (ends, ← (drop-drop (length (until no_digit (drop at s))) at s)) (digits_end (drop at s))

  natural-run : is_natural (field s at) ≡ true → field s at ≡ digits_at s at
  unfolding field digits_at
  natural-run h = digits_all (drop at s) (natural_digits (field s at) h)

  -- without a digit there is no natural
  pub natural_undigit : e ≤ at → is_natural (field s at) ≡ false
  natural_undigit h = go (is_natural (field s at)) refl
    where
      go : (t : Bool) → is_natural (field s at) ≡ t → is_natural (field s at) ≡ false
      go true q = absurd (omega (arith, natural-some (field s at) q, ap length (natural-run q)))
      go false q = q

  module _ (some : at < e) where
    -- a digit begins a field
    begins : is_empty (field s at) ≡ false
    begins = go (ltb at (length s)) refl (is_digit (get_or s at 0)) refl
      where
        go : (t : Bool) → ltb at (length s) ≡ t → (d : Bool) → is_digit (get_or s at 0) ≡ d → is_empty (field s at) ≡ false
        go true p true q =
            let h = ltb-true at (length s) p in
            field_stop s at h ∙ rw (drop-cons s at 0 h) (digit_within (get_or s at 0) (drop (suc at) s) q)
        go true p false q = absurd (omega (arith, ap length (digits_stop s at (ltb-true at (length s) p) q)))
        go false p d q = absurd (omega (arith, ap length (digits_out s at (ltb-false at (length s) p))))

    whole : field s at ≡ byte_at s at ∷ field s (at + 1)
    whole = field-more s at begins

    -- 0 and a further digit are no natural
    pub natural_led : at + 1 < e → byte_at s at ≡ zero_digit → is_natural (field s at) ≡ false
    natural_led more z = go (is_natural (field s at)) refl
      where
        go : (t : Bool) → is_natural (field s at) ≡ t → is_natural (field s at) ≡ false
        go true q =
            let n = empty-none (field s (at + 1)) (sym (natural-zero (field s at) (byte_at s at) (field s (at + 1)) whole z) ∙ q) in
            absurd (omega (arith, ap length (natural-run q), ap length whole))
        go false q = q

    -- one digit, or digits that don't begin with 0, are one exactly if the field ends behind them
    pub natural_unled : (byte_at s at ≡ zero_digit → ⊥) → is_empty (field s e) ≡ is_natural (field s at)
    natural_unled o = natural-ends ∙ sym (natural_other (field s at) (byte_at s at) (field s (at + 1)) whole o)

    pub natural-one : e ≤ at + 1 → is_empty (field s e) ≡ is_natural (field s at)
    natural-one h = go (eqb (byte_at s at) zero_digit) refl
      where
        go : (t : Bool) → eqb (byte_at s at) zero_digit ≡ t → is_empty (field s e) ≡ is_natural (field s at)
        go true q =
            let z : e ≡ at + 1 = omega arith in
            rw z (sym (natural-zero (field s at) (byte_at s at) (field s (at + 1)) whole (eqb-true (byte_at s at) zero_digit q)))
        go false q = natural_unled (eqb-false (byte_at s at) zero_digit q)

  module _ (k most : ℕ) where
    pub natural_large : {t : Bool} (v : ℕ) → t ≡ is_natural (field s at) → t ≡ true
        → v ≡ min (value 0 (digits_at s at)) (most + 1) → most < v → fault k at ≡ natural k most s at
    unfolding natural
    natural_large v p q m l =
        let h = sym p ∙ q in
        let j = ap (value 0) (natural-run h) in
        rw (h, lt-leb (value 0 (field s at)) most (omega arith))

    pub natural_good : {t : Bool} (v : ℕ) → t ≡ is_natural (field s at) → t ≡ true
        → v ≡ min (value 0 (digits_at s at)) (most + 1) → v ≤ most → found v e ≡ natural k most s at
    unfolding natural
    natural_good v p q m l =
        let h = sym p ∙ q in
        let j = ap (value 0) (natural-run h) in
        let w : v ≡ value 0 (field s at) = omega arith in
        let n : e ≡ at + length (field s at) = omega (arith, ap length (natural-run h)) in
        rw (h, le-leb (value 0 (field s at)) most (omega arith), w, n)

pub byte_past : (s : List ℕ) (at : ℕ) → length s ≤ at → 0 ≡ byte_at s at
unfolding byte_at
byte_past s at h = sym (get_or-eq_default s 0 h)

module _ (b : ℕ) (s : List ℕ) (at : ℕ) where
  pub byte_there : byte_at s at ≡ b → found tt (at + 1) ≡ byte b s at
  unfolding byte
  byte_there e = rw (eq-eqb _ _ e)

  -- a byte that was read stands there
  pub byte-read : {n : ℕ} → found tt n ≡ byte b s at → (byte_at s at ≡ b) × (n ≡ at + 1)
  unfolding byte
  byte-read {n} = go (eqb (byte_at s at) b) refl
    where
      go : (t : Bool) → eqb (byte_at s at) b ≡ t → found (tt {0}) n ≡ pick t (found tt (at + 1)) (fault 3 at) → (byte_at s at ≡ b) × (n ≡ at + 1)
      go true q e = (eqb-true (byte_at s at) b q, (cc))
      go false q e = let z : ◌≡◌ {A = ℕ} 0 1 = (cc) in absurd (omega arith)

  -- and one that was missed does not
  pub byte_missed : {k p : ℕ} → fault k p ≡ byte b s at → byte_at s at ≡ b → ⊥
  byte_missed e h =
      let f = byte_there h in
      let z : ◌≡◌ {A = ℕ} 0 1 = (cc) in
      omega arith

  -- a byte other than 0 stands within the text
  pub there : 0 < b → byte_at s at ≡ b → at < length s
  there h e = go (ltb at (length s)) refl
    where
      go : (t : Bool) → ltb at (length s) ≡ t → at < length s
      go true q = ltb-true at (length s) q
      go false q = absurd (omega (arith, byte_past s at (ltb-false at (length s) q)))

-- within the text, or past it, where 0 stands
pub byte_within : (s : List ℕ) (at : ℕ) → (byte_at s at ≡ 0) ⊎ (at < length s)
byte_within s at = go (ltb at (length s)) refl
  where
    go : (t : Bool) → ltb at (length s) ≡ t → (byte_at s at ≡ 0) ⊎ (at < length s)
    go true q = inr (ltb-true at (length s) q)
    go false q = inl (sym (byte_past s at (ltb-false at (length s) q)))

-- a return and a feed stand within the text
pub return_there : (s : List ℕ) (at : ℕ) {t : Bool} → t ≡ return_feed s at → t ≡ true → at + 1 < length s
return_there s at e h =
    let b = and_cases (eqb (byte_at s at) return) (eqb (byte_at s (at + 1)) feed) (sym e ∙ h) in
    there feed s (at + 1) (lit< tt) (eqb-true (byte_at s (at + 1)) feed b.1)

-- a number of two digits is of two bytes
pub ten_far : (k most : ℕ) (s : List ℕ) (at v n : ℕ) → found v n ≡ natural k most s at → v ≡ 10 → at + 1 < n
unfolding natural
ten_far k most s at v n = go (field s at) (is_natural (field s at)) refl (leb (value 0 (field s at)) most)
  where
    go : (f : List ℕ) (t : Bool) → is_natural f ≡ t → (u : Bool)
        → found v n ≡ pick t (pick u (found (value 0 f) (at + length f)) (fault k at)) (fault 3 at) → v ≡ 10 → at + 1 < n
    go f true p true e z =
        let a : v ≡ value 0 f = (cc) in
        let b : n ≡ at + length f = (cc) in
        omega (arith, two_digits f p (sym a ∙ z))
    go f true p false e z = let w : ◌≡◌ {A = ℕ} 0 1 = (cc) in absurd (omega arith)
    go f false p u e z = let w : ◌≡◌ {A = ℕ} 0 1 = (cc) in absurd (omega arith)

-- what the files number, tape and ends of src take of these
pub ruleset naturals = (byte_within, return_there, natural_bad, natural_large, natural_good)

-- and what its file digits does
pub ruleset digits = (field_out, field_stop, natural_undigit, natural_led)
