-- Inner: what the contracts of the functions below `decide` say. Assumes nothing.
use Rattle.std.specs.Prelude.{◌≡◌, Bool, true, false, List, ◌++◌, map, ◌⊎◌, ℕ, suc, ◌+◌, ◌-◌, ◌*◌, ◌≤◌, ◌<◌, min, set, length, take, drop, ℤ, pos, negsuc, Option, Some, None, All}
use Rattle.faults.specs.inner.Places.{term_places}
use Rattle.diffs.specs.Diff.{Diff, Earliest, NegCycle}
use Rattle.diffs.specs.inner.Answer.{cell, diff_at, Among, Slices}
use Rattle.faults.specs.declared.TermNo.{TermNo}
use Rattle.diffs.specs.declared.Difference.{Difference}

-- ---- a bound as two naturals: z is `up z` less `down z`, one of which is 0

-- what a bound adds
abbrev pub up : ℤ → ℕ
up (pos n) = n
up (negsuc n) = 0

-- what a bound takes away
abbrev pub down : ℤ → ℕ
down (pos n) = 0
down (negsuc n) = suc n

-- the most that a bound of 32 bits takes away; what it adds is less
abbrev pub most_down : ℕ
most_down = 2147483648

-- natural times keep x - y ≤ k
abbrev pub Holds : (ℕ → ℕ) → Diff → Type 0
Holds u d = u d.x + down d.k ≤ u d.y + up d.k

-- ---- relaxing

-- true: d was not kept, y is raised to x - k, and the parent of y is i; false: d is kept, and nothing changes
abbrev pub Relaxed : Bool → Diff → ℕ → List ℕ → List ℕ → List ℕ → List ℕ → Type 0
Relaxed true d i t p t' p' =
    (cell t d.y + up d.k < cell t d.x + down d.k)
    × (t' ≡ set t d.y (cell t d.x + down d.k - up d.k))
    × (p' ≡ set p d.y i)
Relaxed false d i t p t' p' = Holds (cell t) d × (t' ≡ t) × (p' ≡ p)

-- d raised the name a last; s are stamps: the step, counted from 1, that raised a name last, or 0
pub record Link (m : ℕ) (t s : ℕ → ℕ) (a : ℕ) (d : Diff) : Type 0 where
  pub ends : d.y ≡ a
  pub lag : s a ≤ s d.x + m
  pub tight : t a + up d.k ≤ t d.x + down d.k
  pub strict : s a ≤ s d.x → t a + up d.k < t d.x + down d.k

-- times t, parents p and stamps s after the differences below i of the round whose first step is b + 1
pub record Inv (m : ℕ) (c : ℕ → Diff) (b i : ℕ) (t p s : ℕ → ℕ) : Type 0 where
  pub low : (v : ℕ → ℕ) → ((j : ℕ) → j < m → Holds v (c j)) → (a : ℕ) → t a ≤ v a
  pub upto : (a : ℕ) → s a ≤ b + i
  pub index : (a : ℕ) → 0 < s a → p a < m
  pub link : (a : ℕ) → 0 < s a → Link m t s a (c (p a))
  pub done : (j : ℕ) → j < i → Holds t (c j) ⊎ (b + j < s (c j).x)
  pub todo : (j : ℕ) → i ≤ j → j < m → Holds t (c j) ⊎ (b + j < s (c j).x + m)

-- what the round before round r, counted from 0, raised last: nothing before the first round, else a name, in the last m steps
abbrev pub RaisedBefore : (m n r : ℕ) → (ℕ → ℕ) → Option TermNo → Type 0
RaisedBefore m n r s None = r ≡ 0
RaisedBefore m n r s (Some a) = (a.0 < n) × (r * m < s a.0 + m)

-- before round r; the round before it raised `last` last
pub record BeforeRound (m n : ℕ) (c : ℕ → Diff) (r : ℕ) (last : Option TermNo) (t p : List ℕ) : Type 0 where
  pub s : ℕ → ℕ
  pub inv : Inv m c (r * m) 0 (cell t) (cell p) s
  pub times : length t ≡ n
  pub parents : length p ≡ n
  pub bound : (a : ℕ) → cell t a ≤ (r * m) * most_down
  pub late : RaisedBefore m n r s last

-- what the differences below i raised last in the round whose first step is b + 1: nothing, then each is kept, or a name, in that round
abbrev pub RaisedIn : (n b i : ℕ) → (ℕ → Diff) → (t s : ℕ → ℕ) → Option TermNo → Type 0
RaisedIn n b i c t s None = (j : ℕ) → j < i → Holds t (c j)
RaisedIn n b i c t s (Some a) = (a.0 < n) × (b < s a.0)

-- in round r, before difference i; it has raised `last` last
pub record Mid (m n : ℕ) (c : ℕ → Diff) (r i : ℕ) (last : Option TermNo) (t p : List ℕ) : Type 0 where
  pub s : ℕ → ℕ
  pub inv : Inv m c (r * m) i (cell t) (cell p) s
  pub times : length t ≡ n
  pub parents : length p ≡ n
  pub bound : (a : ℕ) → cell t a ≤ (r * m + i) * most_down
  pub raised : RaisedIn n (r * m) i c (cell t) s last

-- what `round` starts from
pub record Underway (ds : List Difference) (t p : List ℕ) : Type 0 where
  pub slices : Slices term_places ds
  pub r : ℕ
  pub early : r ≤ term_places
  pub before : Option TermNo
  pub state : BeforeRound (length ds) term_places (diff_at ds) r before t p

-- the differences below i of a round, whichever round it is, make t' and p' of t and p, and raise `last` last
abbrev pub RoundUpTo : List Difference → ℕ → Option TermNo → List ℕ → List ℕ → List ℕ → List ℕ → Type 0
RoundUpTo ds i last t p t' p' = (r : ℕ) (before : Option TermNo)
    → BeforeRound (length ds) term_places (diff_at ds) r before t p → Mid (length ds) term_places (diff_at ds) r i last t' p'

-- what `settle` starts from
pub record Fresh (ds : List Difference) (t : List ℕ) : Type 0 where
  pub slices : Slices term_places ds
  pub zeros : (a : ℕ) → cell t a ≡ 0

-- after as many rounds as the fewer of names and differences, one more raised `last`
pub record Stuck (m n : ℕ) (c : ℕ → Diff) (last : ℕ) (p : List ℕ) : Type 0 where
  pub t : ℕ → ℕ
  pub s : ℕ → ℕ
  pub b : ℕ
  pub inv : Inv m c b 0 t (cell p) s
  pub name : last < n
  pub late : min n m * m < s last

-- nothing was raised: settled, with the earliest times; else stuck, with the name that was raised last
abbrev pub SettledOrStuck : List Difference → Option TermNo → List ℕ → List ℕ → Type 0
SettledOrStuck ds None t p = Earliest (Among (length ds) (diff_at ds)) (cell t)
SettledOrStuck ds (Some a) t p = Stuck (length ds) term_places (diff_at ds) a.0 p

-- ---- following the parents

-- the first place of a walk whose difference raises a; None where there is none
abbrev pub FoundPlace : List Difference → List ℕ → ℕ → Option ℕ → Type 0
FoundPlace ds w a None = (k : ℕ) → k < length w → (diff_at ds (cell w k)).y ≡ a → ⊥
FoundPlace ds w a (Some q) = (q < length w) × ((diff_at ds (cell w q)).y ≡ a) × ((k : ℕ) → k < q → (diff_at ds (cell w k)).y ≡ a → ⊥)

-- what following the parents starts from
pub record Traceable (ds : List Difference) (p : List ℕ) (last : ℕ) : Type 0 where
  pub stuck : Stuck (length ds) term_places (diff_at ds) last p
  pub slices : Slices term_places ds

-- a walk has something, at most as many entries as there are names, and numbers below m
pub record Numbers (m : ℕ) (w : List ℕ) : Type 0 where
  pub some : 0 < length w
  pub short : length w ≤ term_places
  pub numbers : All (λ i. i < m) w

-- a walk is a negative cycle
pub record Traced (ds : List Difference) (w : List ℕ) : Type 0 where
  pub numbers : Numbers (length ds) w
  pub negative : NegCycle (Among (length ds) (diff_at ds)) (map (diff_at ds) w)

-- ---- showing the cycle

-- q is a place of the walk, and the key there is the least of the walk
pub record LeastKey (keys w : List ℕ) (q : ℕ) : Type 0 where
  pub before : q < length w
  pub least : All (λ i. cell keys (cell w q) ≤ cell keys i) w

-- the walk, from its place q on and round to it
abbrev pub turned : List ℕ → ℕ → List ℕ
turned w q = drop q w ++ take q w

-- the walk's labels, from the least key on and round to it, stand in the room's first places
pub record Laid (keys labels w room room' : List ℕ) (r : ℕ) : Type 0 where
  pub first : ℕ
  pub least : LeastKey keys w first
  pub count : r ≡ length w
  pub shown : room' ≡ map (cell labels) (turned w first) ++ drop (length w) room
