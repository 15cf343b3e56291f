-- Bytes of a string on the tape, compared one by one: each law is one way that a turn of the comparison goes.
use Prim.Native.Nat.{ℕ, suc, ◌+◌, ◌-◌, ◌≤◌, ◌<◌}
use mathlib.Core.Path.{◌≡◌, refl, sym, ap, ◌∙◌}
use mathlib.Core.List.{List, [], ◌∷◌}
use mathlib.Core.Bool.{true, false, ◌&&◌}
use native.Mathlib.Omega.{arith}
use native.Mathlib.Numerals.{add-one}
use borrow.Author.Tests.{eq-eqb, ne_eqb}
use lib.ListN.{length, get_or, drop, drop_of_length-le}
use lib.Seq.{drop-cons}
use lib.Dec.{eqb}
use Rattle.basics.proofs.Bools.{and_none}
use Rattle.aspif.specs.inner.Words.{word, words_from}
use Rattle.aspif.proofs.Walking.{words-length}
use Rattle.terms.specs.Terms.{same_bytes}

-- strings of two lengths are not the same
other_lengths : (s l : List ℕ) → (length s ≡ length l → ⊥) → false ≡ same_bytes s l
unfolding same_bytes
other_lengths [] [] h = absurd (h refl)
other_lengths [] (b ∷ l) h = refl
other_lengths (a ∷ s) [] h = refl
other_lengths (a ∷ s) (b ∷ l) h = rw (← (other_lengths s l (λ e. h (ap suc e)))) (sym (and_none (eqb a b)))

module _ (t : List ℕ) (q n : ℕ) (l : List ℕ) where
  pub same_none : (n ≡ length l → ⊥) → false ≡ same_bytes (words_from t (q + 3) n) l
  same_none h = other_lengths (words_from t (q + 3) n) l (λ e. h (sym (words-length t (q + 3) n) ∙ e))

  -- what is left of both from the turn i on decides the whole
  pub record Same (i : ℕ) : Type 0 where
    pub rest : same_bytes (words_from t (q + (i + 3)) (n - i)) (drop i l) ≡ same_bytes (words_from t (q + 3) n) l

  module _ (e : n ≡ length l) (i : ℕ) (r : Same i) where
    pub same_end : length l ≤ i → true ≡ same_bytes (words_from t (q + 3) n) l
    unfolding same_bytes words_from
    same_end h = let d : n - i ≡ 0 = omega arith in rw (d, drop_of_length-le l h) at r.rest

    module _ (h : i < length l) (b : ℕ) (eb : b ≡ word t (q + (i + 3))) where
      same_step : eqb b (get_or l i 0) && same_bytes (words_from t (q + (i + 1 + 3)) (n - (i + 1))) (drop (i + 1) l) ≡ same_bytes (words_from t (q + 3) n) l
      unfolding same_bytes words_from
      same_step =
          let d : n - i ≡ suc (n - (i + 1)) = omega arith in
          let a : q + (i + 3) + 1 ≡ q + (i + 1 + 3) = omega arith in
          rw (add-one i, eb) (rw (d, a, add-one i, drop-cons l i 0 h) at r.rest)

      pub same_other : (b ≡ get_or l i 0 → ⊥) → false ≡ same_bytes (words_from t (q + 3) n) l
      same_other o = rw (ne_eqb b (get_or l i 0) o) at same_step

      pub same_on : b ≡ get_or l i 0 → Same (i + 1)
      same_on o = record { rest = rw (eq-eqb b (get_or l i 0) o) at same_step }
