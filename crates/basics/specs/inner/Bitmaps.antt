-- Inner: bitmaps, lists in which a number is marked where its place holds 1. Assumes nothing.
use Rattle.std.specs.Prelude.{ℕ, ◌+◌, ◌≤◌, ◌≡◌, Bool, false, List, [], ◌∷◌, eqb, get_or, drop}
use Rattle.basics.specs.Bools.{pick}

-- whether n is marked; no number past the end is
abbrev pub is_marked : List ℕ → ℕ → Bool
is_marked map n = eqb (get_or map n 0) 1

-- the marked numbers, ascending, of a list whose first place is that of n
unfoldable pub marks : ℕ → List ℕ → List ℕ
marks n [] = []
marks n (b ∷ bs) = pick (eqb b 1) (n ∷ marks (n + 1) bs) (marks (n + 1) bs)

-- the marked numbers from n on, ascending
unfoldable pub marked_from : ℕ → List ℕ → List ℕ
marked_from n map = marks n (drop n map)

-- no number from n on is
abbrev pub NoneFrom : ℕ → List ℕ → Type 0
NoneFrom n map = (a : ℕ) → n ≤ a → is_marked map a ≡ false
