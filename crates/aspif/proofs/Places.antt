-- A walk over the places of lines: each turn has the place of the line behind those passed, and at the end all are passed. Assumes nothing.
use Prim.Native.Nat.{ℕ, ◌+◌, ◌<◌}
use mathlib.Core.Path.{◌≡◌, sym, ap, ◌∙◌}
use mathlib.Core.List.{List}
use native.Mathlib.Omega.{arith}
use lib.ListN.{length}
use Rattle.std.specs.Prelude.{Option, Some, None}
use Rattle.std.specs.Iterator.{Yields, YieldsFirst}
use Rattle.std.proofs.lemmas.Iterator.Consumers.{YieldsList-from_first, YieldsList-turn, YieldsList-end}
use Rattle.aspif.specs.declared.walk.Places.{Places}
use Rattle.aspif.specs.inner.Words.{after, place_of, places_from}
use Rattle.aspif.specs.inner.Values.{places_left}
use Rattle.aspif.proofs.Walking.{places-length, place_in, place_next}

module _ {s l : Places} (a : s ≡ l) (t : List ℕ) {n : ℕ} (e : places_left l ≡ places_from t 0 n) (xs : List ℕ) (u : Places) (y : Yields (YieldsFirst places_left) s xs u) (v : Places)
    {r : Option ℕ} (w : YieldsFirst places_left u r v) where
  pub turn : {p : ℕ} → r ≡ Some p → (length xs < n) × (p ≡ place_of t (length xs))
  turn {p} q =
      let h = YieldsList-turn (YieldsList-from_first (λ x. x) places_left (places_from t 0 n) (ap places_left a ∙ e)) xs u y r v p q w in
      let l : length xs < n = omega (arith, h.0, places-length t 0 n) in
      (l, h.1 ∙ place_in t 0 n (length xs) p l ∙ ap (place_of t) (omega arith))

  pub end : r ≡ None → length xs ≡ n
  end q = (YieldsList-end (YieldsList-from_first (λ x. x) places_left (places_from t 0 n) (ap places_left a ∙ e)) xs u y r v q w).1 ∙ places-length t 0 n

-- the place of the next turn
pub next : (t xs : List ℕ) (p : ℕ) → p ≡ place_of t (length xs) → place_of t (length xs + 1) ≡ after t p
next t xs p e = place_next t (length xs) ∙ ap (after t) (sym e)
