-- The marked numbers of a candidate's bitmap are its atoms; those of its front. Assumes nothing.
use Prim.Native.Nat.{ℕ, zero, suc}
use mathlib.Core.Path.{◌≡◌, refl}
use mathlib.Core.Bool.{false}
use mathlib.Core.List.{List, [], ◌∷◌}
use lib.ListN.{take}
use Rattle.basics.specs.inner.Bitmaps.{is_marked, marks, marked_from}
use Rattle.aspif.specs.inner.Bitmap.{atoms_of}

-- no atom is 0
pub marked-atoms : (x : List ℕ) → is_marked x 0 ≡ false → marked_from 1 x ≡ atoms_of x
unfolding marks marked_from
marked-atoms [] h = refl
marked-atoms (b ∷ bs) h = rw h

-- what is not marked is not marked in a front
pub front_unmarked : (n : ℕ) (x : List ℕ) (a : ℕ) → is_marked x a ≡ false → is_marked (take n x) a ≡ false
front_unmarked zero x a h = refl
front_unmarked (suc n) [] a h = refl
front_unmarked (suc n) (b ∷ bs) zero h = h
front_unmarked (suc n) (b ∷ bs) (suc a) h = front_unmarked n bs a h
