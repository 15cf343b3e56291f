-- Inner: what `decide` takes, differences in slices and two rooms, and what it gives: earliest times, or a negative cycle by its labels. Assumes nothing.
use Rattle.std.specs.Prelude.{◌≡◌, List, ◌++◌, map, ℕ, ◌≤◌, ◌<◌, length, get_or, drop, pos, Option, Some, None}
use Rattle.basics.specs.Lists.{All}
use Rattle.faults.specs.Limits.{last_atom, cycle_room}
use Rattle.faults.specs.inner.Places.{term_places}
use Rattle.diffs.specs.Diff.{Diff, Earliest, NegCycle, LeastFirst}
use Rattle.diffs.specs.declared.Difference.{Difference}

-- what a list as a table holds at n; 0 past its end
abbrev pub cell : List ℕ → ℕ → ℕ
cell l n = get_or l n 0

-- what a difference of the code says
abbrev pub said : Difference → Diff
said d = record { x = d.x.0; y = d.y.0; k = d.k }

-- 0 - 0 ≤ 0
abbrev pub zero_difference : Difference
zero_difference = record { x = record { 0 = 0 }; y = record { 0 = 0 }; k = pos 0 }

-- the difference that a slice holds at i; past its end 0 - 0 ≤ 0
abbrev pub diff_at : List Difference → ℕ → Diff
diff_at ds i = said (get_or ds i zero_difference)

-- d is one of c 0, .., c (m - 1)
pub record Among (m : ℕ) (c : ℕ → Diff) (d : Diff) : Type 0 where
  pub number : ℕ
  pub within : number < m
  pub is : c number ≡ d

-- a slice holds differences of names below n
pub record Slices (n : ℕ) (ds : List Difference) : Type 0 where
  pub few : length ds ≤ last_atom
  pub named : (j : ℕ) → j < length ds → ((diff_at ds j).x < n) × ((diff_at ds j).y < n)

-- what `decide` takes: differences with a key and a label each, times that are all 0, and a cycle room
pub record Given (ds : List Difference) (keys labels t room : List ℕ) : Type 0 where
  pub slices : Slices term_places ds
  pub keys_length : length keys ≡ length ds
  pub labels_length : length labels ≡ length ds
  pub times : length t ≡ term_places
  pub zeros : (a : ℕ) → cell t a ≡ 0
  pub places : cycle_room ≤ length room

-- a negative cycle of n differences, the smallest key first: their labels stand in the first n places of the room, and past these nothing changes
pub record Shown (m : ℕ) (c : ℕ → Diff) (keys labels room room' : List ℕ) (n : ℕ) : Type 0 where
  pub numbers : List ℕ
  pub within : All (λ i. i < m) numbers
  pub negative : NegCycle (Among m c) (map c numbers)
  pub count : n ≡ length numbers
  pub least : LeastFirst (map (cell keys) numbers)
  pub shown : room' ≡ map (cell labels) numbers ++ drop n room

-- what `decide` gives, of the differences c 0, .., c (m - 1): the earliest times stand in t and the room is as it was, or a negative cycle is shown
pub data Decided (o : Option ℕ) (m : ℕ) (c : ℕ → Diff) (keys labels t room room' : List ℕ) : Type 0 where
  timed : o ≡ None → Earliest (Among m c) (cell t) → room' ≡ room → Decided o m c keys labels t room room'
  cyclic : (n : ℕ) → o ≡ Some n → Shown m c keys labels room room' n → Decided o m c keys labels t room room'
