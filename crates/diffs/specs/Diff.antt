-- Believed: differences x - y ≤ k between times, what it is for times to keep them, the earliest times, and a negative cycle: docs/RULES.md, 'Meaning'.
-- All are over a set S of differences in force, `S : Diff → Type 0`. Assumes nothing.
use Rattle.std.specs.Prelude.{◌≡◌, List, [], ◌∷◌, map, ℕ, ◌≤◌, ◌<◌, ℤ, pos, ◌+ℤ◌, ◌-ℤ◌, length, ◌≤ℤ◌, ◌<ℤ◌}
use Rattle.basics.specs.Lists.{All, Distinct}

-- x - y ≤ k
pub record Diff : Type 0 where
  pub x : ℕ
  pub y : ℕ
  pub k : ℤ

-- the times t keep d
abbrev pub Keeps : (ℕ → ℤ) → Diff → Type 0
Keeps t d = (t d.x -ℤ t d.y) ≤ℤ d.k

-- the times t keep each difference of S
abbrev pub KeepsAll : (ℕ → ℤ) → (Diff → Type 0) → Type 0
KeepsAll t S = (d : Diff) → S d → Keeps t d

-- times of zero or more, as integers
abbrev pub whole : (ℕ → ℕ) → ℕ → ℤ
whole u n = pos (u n)

-- u are the least times of zero or more that keep S, for all names at once
pub record Earliest (S : Diff → Type 0) (u : ℕ → ℕ) : Type 0 where
  pub keeps : KeepsAll (whole u) S
  pub least : (v : ℕ → ℕ) → KeepsAll (whole v) S → (n : ℕ) → u n ≤ v n

-- a is the first one's x, each one's y is the next one's x, and b is the last one's y
abbrev pub Path : ℕ → List Diff → ℕ → Type 0
Path a [] b = a ≡ b
Path a (d ∷ ds) b = (d.x ≡ a) × Path d.y ds b

-- the names x1, x2, .., xn
abbrev pub xs_of : List Diff → List ℕ
xs_of ds = map (λ (d : Diff). d.x) ds

-- the sum of the bounds
abbrev pub Sum : List Diff → ℤ
Sum [] = pos 0
Sum (d ∷ ds) = d.k +ℤ Sum ds

-- x1 - x2 ≤ k1, x2 - x3 ≤ k2, .., xn - x1 ≤ kn, at least one, the names x1 to xn all different
pub record Cycle (ds : List Diff) : Type 0 where
  pub some : 0 < length ds
  pub start : ℕ
  pub closed : Path start ds start
  pub different : Distinct (xs_of ds)

-- such a list of differences of S, whose bounds sum below zero
pub record NegCycle (S : Diff → Type 0) (ds : List Diff) : Type 0 where
  pub members : All S ds
  pub cycle : Cycle ds
  pub below : Sum ds <ℤ pos 0

-- no member is smaller than the first
abbrev pub LeastFirst : List ℕ → Type 0
LeastFirst [] = Unit {0}
LeastFirst (a ∷ l) = All (λ b. a ≤ b) l
