-- A walk through literals: what is left decides as all did, up to the first false one. Assumes nothing.
use Prim.Native.Nat.{ℕ, ◌+◌, ◌/◌, ◌≤◌, ◌<◌}
use mathlib.Core.Bool.{Bool, true, false, ◌&&◌}
use mathlib.Core.List.{List, ◌∷◌, map}
use mathlib.Core.Path.{◌≡◌, ◌∙◌, sym}
use native.Mathlib.Omega.{arith}
use lib.ListN.{length, get_or, drop, drop_of_length-le}
use Rattle.basics.specs.inner.Bitmaps.{is_marked}
use Rattle.faults.specs.inner.Places.{atom_places}
use Rattle.aspif.specs.Grammar.{literal_of}
use Rattle.aspif.specs.inner.Kept.{SmallLiterals}
use Rattle.aspif.proofs.Kept.{atom_of_lem}
use Rattle.stable.specs.inner.Steps.{literal_holds, all_hold}
use Rattle.stable.proofs.Lines.{drop-next}

-- what the literals from i on decide
abbrev rest : (x s ws : List ℕ) (i : ℕ) → Bool
rest x s ws i = all_hold (is_marked x) (is_marked s) (map literal_of (drop i ws))

pub record Walk (x s ws : List ℕ) (i : ℕ) : Type 0 where
  pub small : SmallLiterals (map literal_of (drop i ws))
  pub same : rest x s ws 0 ≡ rest x s ws i

module _ {x s ws : List ℕ} {i : ℕ} (k : Walk x s ws i) where
  pub end : length ws ≤ i → true ≡ rest x s ws 0
  end h = sym (k.same ∙ rw (drop_of_length-le ws h))

  module _ (h : i < length ws) where
    smalls : SmallLiterals (map literal_of (get_or ws i 0 ∷ drop (i + 1) ws))
    smalls = rw (drop-next ws i h) at k.small

    -- the atom is a place of the bitmap
    pub atom : get_or ws i 0 / 2 < atom_places
    atom = let a = rw (atom_of_lem (get_or ws i 0)) at smalls.0.0 in omega (arith, a.1)

    module _ {r : Bool} (e : r ≡ literal_holds (is_marked x) (is_marked s) (literal_of (get_or ws i 0))) where
      step : rest x s ws 0 ≡ (r && rest x s ws (i + 1))
      step = k.same ∙ rw (drop-next ws i h, e)

      -- a true literal is passed, a false one decides
      pub pass : r ≡ true → Walk x s ws (i + 1)
      pass t = record { small = (smalls.0.1, omega (arith, smalls.1)); same = step ∙ rw t }

      pub fail : r ≡ false → false ≡ rest x s ws 0
      fail f = sym (step ∙ rw f)
