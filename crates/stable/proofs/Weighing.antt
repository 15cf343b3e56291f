-- A walk through premises: what is left reaches what is still open of the bound exactly if all reached the bound. Assumes nothing.
use Prim.Native.Nat.{ℕ, ◌+◌, ◌-◌, ◌/◌, ◌%◌, ◌≤◌, ◌<◌}
use mathlib.Core.Bool.{Bool, true, false, cond}
use mathlib.Core.List.{List, ◌∷◌, map}
use mathlib.Core.Path.{◌≡◌, ◌∙◌, sym}
use native.Mathlib.Omega.{arith}
use native.Mathlib.Nat.{zero-add}
use borrow.Author.Tests.{le-leb, lt-leb}
use lib.Dec.{leb}
use lib.ListN.{length, get_or, drop, drop_of_length-le}
use Rattle.basics.specs.inner.Bitmaps.{is_marked}
use Rattle.faults.specs.inner.Places.{atom_places}
use Rattle.fields.specs.Fields.{weight_unit}
use Rattle.aspif.specs.Grammar.{literal_of, premise_of}
use Rattle.aspif.specs.inner.Kept.{Counted, SmallPremise}
use Rattle.aspif.proofs.Kept.{atom_of_lem}
use Rattle.stable.specs.inner.Steps.{literal_holds, reached_by}
use Rattle.stable.proofs.Lines.{drop-next}
use Rattle.stable.proofs.Reduct.{off_bound}

-- what the premises from i on reach
abbrev rest : (x s ws : List ℕ) (i : ℕ) → ℕ
rest x s ws i = reached_by (is_marked x) (is_marked s) (map premise_of (drop i ws))

pub record Walk (x s ws : List ℕ) (bound due i : ℕ) : Type 0 where
  pub small : Counted SmallPremise (map premise_of (drop i ws))
  pub some : 0 < due
  pub same : leb bound (rest x s ws 0) ≡ leb due (rest x s ws i)

-- a bound of 0 is reached by nothing
pub none : (bound r : ℕ) → bound ≡ 0 → true ≡ leb bound r
none bound r e = sym (le-leb bound r (omega arith))

module _ {x s ws : List ℕ} {bound due i : ℕ} (k : Walk x s ws bound due i) where
  pub end : length ws ≤ i → false ≡ leb bound (rest x s ws 0)
  end h = sym (k.same ∙ rw (drop_of_length-le ws h) (lt-leb due 0 (omega (arith, k.some))))

  module _ (h : i < length ws) where
    smalls : Counted SmallPremise (map premise_of (get_or ws i 0 ∷ drop (i + 1) ws))
    smalls = rw (drop-next ws i h) at k.small

    -- the atom is a place of the bitmap
    pub atom : get_or ws i 0 % weight_unit / 2 < atom_places
    atom = let a = rw (atom_of_lem (get_or ws i 0 % weight_unit)) at smalls.0.0.0 in omega (arith, a.1)

    -- the truth of the literal at hand
    module _ {r : Bool} (e : r ≡ literal_holds (is_marked x) (is_marked s) (literal_of (get_or ws i 0 % weight_unit))) where
      step : leb bound (rest x s ws 0) ≡ leb due (cond r (get_or ws i 0 / weight_unit) 0 + rest x s ws (i + 1))
      step = k.same ∙ rw (drop-next ws i h, e)

      goes : {due' : ℕ} → 0 < due' → leb due (cond r (get_or ws i 0 / weight_unit) 0 + rest x s ws (i + 1)) ≡ leb due' (rest x s ws (i + 1)) → Walk x s ws bound due' (i + 1)
      goes o y = record { small = (smalls.0.1, omega (arith, smalls.1)); some = o; same = step ∙ y }

      -- a false literal counts nothing
      pub pass : r ≡ false → Walk x s ws bound due (i + 1)
      pass f = goes k.some (rw (f, zero-add))

      -- a true one closes the bound, or some of it
      pub close : r ≡ true → due ≤ get_or ws i 0 / weight_unit → true ≡ leb bound (rest x s ws 0)
      close t l = sym (step ∙ rw t (le-leb due _ (omega arith)))

      pub take : r ≡ true → get_or ws i 0 / weight_unit < due → Walk x s ws bound (due - get_or ws i 0 / weight_unit) (i + 1)
      take t l = goes (omega arith) (rw t (sym (off_bound due _ _)))
