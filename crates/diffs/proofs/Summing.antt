-- Summing the bounds that a walk lists, in 64 bits: at most 1,024 bounds of 32 bits each leave room.
use mathlib.Core.Path.{◌≡◌, ap, subst, sym, ◌∙◌}
use mathlib.Core.List.{List, [], ◌∷◌, map}
use Prim.Native.Nat.{ℕ, ◌+◌, ◌*◌, ◌^◌, ◌≤◌, ◌<◌}
use native.Mathlib.Omega.{arith}
use lib.ListN.{length, take}
use lib.IntN.{ℤ, pos, negsuc, ◌+ℤ◌, +ℤ_idr}
use mir.Syntax.{w32, w64}
use mir.Val.{SFits, to_z, of_z}
use mir.Facts.{to_z-of_z}
use Rattle.std.proofs.lemmas.List.{map_more}
use Rattle.faults.specs.inner.Places.{term_places}
use Rattle.diffs.specs.Diff.{Sum}
use Rattle.diffs.specs.inner.Answer.{cell, diff_at}
use Rattle.diffs.specs.inner.Steps.{up, down, most_down}
use Rattle.diffs.specs.declared.Difference.{Difference}
use Rattle.diffs.proofs.Integers.{add_most}
use Rattle.diffs.proofs.Signs.{back64, up_small, down-small}
use Rattle.diffs.proofs.Turning.{sum_join}

fits_of : (z : ℤ) → up z < 2 ^ 63 → down z < 2 ^ 63 → SFits w64 z
fits_of (pos n) h g = record { sfits = h }
fits_of (negsuc n) h g = record { sfits = omega arith }

-- z is the sum of the first i bounds
pub record Summed (ds : List Difference) (w : List ℕ) (i : ℕ) (z : ℤ) : Type 0 where
  pub is : z ≡ Sum (map (diff_at ds) (take i w))
  pub high : up z ≤ i * most_down
  pub low : down z ≤ i * most_down

module _ (ds : List Difference) (w : List ℕ) (i : ℕ) (z : ℤ) (v : Summed ds w i z) (h : i < length w) (g : length w ≤ term_places) (f : SFits w32 (diff_at ds (cell w i)).k) where
  abbrev k : ℤ
  k = (diff_at ds (cell w i)).k

  pub fits_sum : SFits w64 (z +ℤ (diff_at ds (cell w i)).k)
  fits_sum = fits_of (z +ℤ k) (omega (arith, add_most z k, up_small k f, v.high)) (omega (arith, add_most z k, down-small k f, v.low))

  one_more : Summed ds w (i + 1) (z +ℤ k)
  one_more = record {
    is = ap (λ (y : ℤ). y +ℤ k) v.is
        ∙ ap (λ (y : ℤ). Sum (map (diff_at ds) (take i w)) +ℤ y) (sym (+ℤ_idr k))
        ∙ sym (sum_join (map (diff_at ds) (take i w)) (diff_at ds (cell w i) ∷ []))
        ∙ ap Sum (sym (map_more (diff_at ds) w i 0 h));
    high = omega (arith, add_most z k, up_small k f, v.high);
    low = omega (arith, add_most z k, down-small k f, v.low);
  }

  -- the code's step, r being the bound as it is read
  pub summed-more : (r : ℤ) → r ≡ to_z w32 (of_z w32 (diff_at ds (cell w i)).k) → Summed ds w (i + 1) (to_z w64 (of_z w64 (z +ℤ to_z w64 (of_z w64 r))))
  summed-more r e =
      let b : to_z w64 (of_z w64 r) ≡ k = ap (λ (y : ℤ). to_z w64 (of_z w64 y)) e ∙ back64 f in
      subst (λ (y : ℤ). Summed ds w (i + 1) (to_z w64 (of_z w64 (z +ℤ y)))) (sym b)
      (subst (λ (y : ℤ). Summed ds w (i + 1) y) (sym (to_z-of_z fits_sum)) one_more)
