-- Believed: demand 2 of docs/RULES.md, as one statement about what `Judged` allows. Assumes nothing.
use Rattle.std.specs.Prelude.{ℕ, ◌≡◌, ◌⊎◌, ◌↔◌, List, ℤ, take}
use Rattle.faults.specs.Answer.{got, refused}
use Rattle.diffs.specs.Diff.{KeepsAll, Earliest}
use Rattle.terms.specs.Says.{Name, Names}
use Rattle.terms.specs.Terms.{external}
use Rattle.stable.specs.Meaning.{unbroken, broken_at, first_broken, Founded, SmallestUnfounded, Stable}
use Rattle.timetable.specs.Table.{table_of, records_of}
use Rattle.timetable.specs.Times.{time_of}
use Rattle.judge.specs.Plan.{Asked, Rooms, Ready, holds, readable, InForce}
use Rattle.judge.specs.Judged.{acceptance, Result, refusing, showing, accepting, NegativeCycle, Judged}

-- ---- of a readable plan with its candidate

-- the candidate is a stable model, by the aspif standard
abbrev pub StableModel : Ready → Type 0
StableModel q = Stable (holds q) (external q.lines) q.lines

-- some whole-number times keep every difference rule that holds, by the non-strict reading
pub record Timeable (q : Ready) : Type 0 where
  pub times : ℕ → ℤ
  pub keep : KeepsAll times (InForce q)

-- no rule is broken
abbrev pub NoneBroken : Ready → Type 0
NoneBroken q = first_broken (holds q) q.lines ≡ unbroken

-- the first broken rule stands at the place p
abbrev pub BrokenAt : Ready → (p : ℕ) → Type 0
BrokenAt q p = first_broken (holds q) q.lines ≡ broken_at p

-- no atom is unfounded
abbrev pub NoneUnfounded : Ready → Type 0
NoneUnfounded q = Founded (holds q) (external q.lines) q.lines

-- a is the smallest unfounded atom
abbrev pub UnfoundedAt : Ready → (a : ℕ) → Type 0
UnfoundedAt q a = SmallestUnfounded (holds q) (external q.lines) q.lines a

-- ---- of the result

-- the verdict is an acceptance
pub record Accepted (r : Result) : Type 0 where
  pub length : ℕ
  pub is : r.verdict ≡ acceptance length

-- the timetable of an accepted plan, n bytes long: it holds the earliest times of zero or more, for all names, and reads back to them
pub record Timetable (q : Ready) (b : Rooms) (r : Result) (n : ℕ) : Type 0 where
  pub times : ℕ → ℕ
  pub earliest : Earliest (InForce q) times
  pub names : List ℕ
  pub all : Names q.lines names
  pub bytes : r ≡ accepting b (got (table_of (record { records = records_of names times; atoms = q.atoms })))
  pub reads : (m : ℕ) → Name q.lines m → time_of (take n r.rooms.room) m ≡ got (times m)
  pub others : (m : ℕ) → (Name q.lines m → ⊥) → time_of (take n r.rooms.room) m ≡ refused 21 m

-- a negative cycle is shown
pub record ShowsCycle (q : Ready) (b : Rooms) (r : Result) : Type 0 where
  pub list : List ℕ
  pub negative : NegativeCycle q list
  pub is : r ≡ showing b list

-- what is shown otherwise: a broken rule, an unfounded atom or a negative cycle
pub data Otherwise (q : Ready) (b : Rooms) (r : Result) : Type 0 where
  shown_broken : (p : ℕ) → r ≡ refusing b 8 p → Otherwise q b r
  shown_unfounded : (a : ℕ) → r ≡ refusing b 9 a → Otherwise q b r
  shown_cycle : ShowsCycle q b r → Otherwise q b r

-- ---- demand 2

-- what is said of a readable plan q, with the rooms b and the result r
pub record Demanded (q : Ready) (b : Rooms) (r : Result) : Type 0 where
  pub accepted : Accepted r ↔ (StableModel q × Timeable q)
  pub timetable : (n : ℕ) → r.verdict ≡ acceptance n → Timetable q b r n
  pub otherwise : Accepted r ⊎ Otherwise q b r
  pub first-broken : (p : ℕ) → (r ≡ refusing b 8 p) ↔ BrokenAt q p
  pub smallest_unfounded : (a : ℕ) → (r ≡ refusing b 9 a) ↔ (NoneBroken q × UnfoundedAt q a)
  pub negative-cycle : ShowsCycle q b r ↔ (NoneBroken q × NoneUnfounded q × (Timeable q → ⊥))

-- for whatever was asked that is readable, all rooms, and every result
abbrev pub Demand2 : Type 0
Demand2 = (a : Asked) (b : Rooms) (q : Ready) (r : Result) → readable a b ≡ got q → Judged a b r → Demanded q b r
