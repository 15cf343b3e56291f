-- A search for the smallest atom of x that is not found: each place before it was. Assumes nothing.
use Prim.Native.Nat.{ℕ, ◌+◌, ◌≤◌, ◌<◌}
use mathlib.Core.Bool.{true, true≢false}
use mathlib.Core.List.{List}
use mathlib.Core.Path.{◌≡◌, ◌∙◌, sym}
use native.Mathlib.Decide.{dec_lt}
use native.Mathlib.Omega.{arith}
use borrow.Author.Count.{below_more}
use borrow.Author.Tests.{eq-eqb, ne_eqb, eqb-true}
use lib.ListN.{get_or}
use Rattle.stable.specs.Meaning.{founded, unfounded_at}
use Rattle.basics.specs.inner.Bitmaps.{is_marked, NoneFrom}
use Rattle.stable.specs.inner.Steps.{Sought}

pub record Seen (x f : List ℕ) (a : ℕ) : Type 0 where
  pub before : (k : ℕ) → k < a → is_marked x k ≡ true → is_marked f k ≡ true

module _ {x f : List ℕ} {a : ℕ} (p : Seen x f a) where
  pub not_in : (get_or x a 0 ≡ 1 → ⊥) → Seen x f (a + 1)
  not_in e = record { before = below_more _ a p.before (λ y. absurd (e (eqb-true (get_or x a 0) 1 y))) }

  pub found_in : get_or f a 0 ≡ 1 → Seen x f (a + 1)
  found_in e = record { before = below_more _ a p.before (λ y. eq-eqb (get_or f a 0) 1 e) }

  pub here : get_or x a 0 ≡ 1 → (get_or f a 0 ≡ 1 → ⊥) → Sought (unfounded_at a) x f
  here y n = (eq-eqb (get_or x a 0) 1 y, ne_eqb (get_or f a 0) 1 n, p.before)

  pub nowhere : {top : ℕ} → NoneFrom top x → top ≤ a → Sought founded x f
  nowhere n h k e = go (dec_lt k a)
    where
      go : Dec (k < a) → is_marked f k ≡ true
      go (yes y) = p.before k y e
      go (no o) = absurd (true≢false (sym e ∙ n k (omega arith)))
