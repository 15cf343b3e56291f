-- Inner: a candidate as a bitmap. Assumes nothing.
use Rattle.std.specs.Prelude.{ℕ, ◌+◌, ◌≤◌, ◌<◌, ◌≡◌, true, List, length, get_or}
use Rattle.basics.specs.inner.Bitmaps.{is_marked, marks, NoneFrom}
use Rattle.faults.specs.Limits.{last_atom}
use Rattle.faults.specs.inner.Places.{atom_places}

-- the atoms that a bitmap holds, ascending
abbrev pub atoms_of : List ℕ → List ℕ
atoms_of x = marks 0 x

-- a bitmap of the atoms 0 to 4,096 that holds none
pub record Blank (x : List ℕ) : Type 0 where
  pub places : length x ≡ atom_places
  pub clear : (a : ℕ) → get_or x a 0 ≡ 0

-- one whose last mark is that of an atom; 0 stands for none
pub record EndsAt (last : ℕ) (x : List ℕ) : Type 0 where
  pub places : length x ≡ atom_places
  pub small : last ≤ last_atom
  pub none : NoneFrom (last + 1) x
  pub marked : 0 < last → is_marked x last ≡ true
