-- Inner: bitmaps of names and of atoms. Assumes nothing.
use Rattle.std.specs.Prelude.{ℕ, ◌<◌, ◌≡◌, Bool, ◌||◌, List, map, length}
use Rattle.basics.specs.Lists.{among}
use Rattle.basics.specs.inner.Bitmaps.{is_marked}
use Rattle.diffs.specs.declared.Difference.{Difference}
use Rattle.terms.specs.Terms.{Stated}

-- x has a place for each number below size, and marks those that f holds of
pub record MarksThose (size : ℕ) (x : List ℕ) (f : ℕ → Bool) : Type 0 where
  pub places : length x ≡ size
  pub each : (n : ℕ) → n < size → is_marked x n ≡ f n

-- what f makes of each number's mark in x is its mark in y
pub record Remarked (x y : List ℕ) (f : Bool → ℕ → Bool) : Type 0 where
  pub each : (n : ℕ) → n < length x → is_marked y n ≡ f (is_marked x n) n

-- ---- of a list of differences

-- their atoms, their x and their y
abbrev pub atoms_in : List Stated → List ℕ
atoms_in ds = map (λ (s : Stated). s.atom) ds

abbrev pub xs_in : List Stated → List ℕ
xs_in ds = map (λ (s : Stated). s.says.x) ds

abbrev pub ys_in : List Stated → List ℕ
ys_in ds = map (λ (s : Stated). s.says.y) ds

-- n is a name: it stands as x or y
abbrev pub naming : List Stated → ℕ → Bool
naming ds n = among n (xs_in ds) || among n (ys_in ds)

-- ---- of a slice of differences

-- the numbers of their x and of their y
abbrev pub x_numbers : List Difference → List ℕ
x_numbers ds = map (λ (d : Difference). d.x.0) ds

abbrev pub y_numbers : List Difference → List ℕ
y_numbers ds = map (λ (d : Difference). d.y.0) ds
