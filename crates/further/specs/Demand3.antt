-- Believed: demand 3 of docs/RULES.md, as one statement about what `Judged` allows: a further time rule makes nothing earlier. Assumes nothing.
use Rattle.std.specs.Prelude.{ℕ, ◌≤◌, ◌≡◌, true, ◌↔◌, List, take}
use Rattle.faults.specs.Answer.{Answer, got}
use Rattle.basics.specs.Lists.{among}
use Rattle.diffs.specs.Diff.{Diff, Keeps, whole}
use Rattle.timetable.specs.Times.{time_of}
use Rattle.terms.specs.Says.{Says, Name}
use Rattle.judge.specs.Plan.{Asked, Rooms, Ready, readable}
use Rattle.judge.specs.Judged.{refusal, Result, refusing, Judged}
use Rattle.judge.specs.Demand2.{Timeable, Accepted, ShowsCycle}
use Rattle.further.specs.Later.{Moved, Later}

-- the time that the timetable of an accepted plan gives a term number; 21 if it is no name
abbrev pub time_in : (r : Result) → Accepted r → ℕ → Answer ℕ
time_in r a n = time_of (take a.length r.rooms.room) n

-- the new rules speak of old names only, and the times u keep them
pub record Kept (q q' : Ready) (new : List ℕ) (u : ℕ → ℕ) : Type 0 where
  pub names : (a : ℕ) (d : Diff) → among a new ≡ true → Says q'.lines a d → Name q.lines d.x × Name q.lines d.y
  pub keeps : (a : ℕ) (d : Diff) → among a new ≡ true → Says q'.lines a d → Keeps (whole u) d

-- what holds of the result r of the old plan q, and of the result r' of the new plan q' with the rooms b'
pub record Further (q q' : Ready) (new : List ℕ) (l : Later q q' new) (b' : Rooms) (r r' : Result) : Type 0 where
  -- if the old plan was accepted, the new one is exactly when some whole-number times keep all the rules that hold
  pub accepted : Accepted r → (Accepted r' ↔ Timeable q')
  -- then no old name is earlier: both timetables give it a time, the new one none before the old
  pub later : (a : Accepted r) (a' : Accepted r') (n : ℕ) → Name q.lines n
      → (t t' : ℕ) × (time_in r a n ≡ got t) × (time_in r' a' n ≡ got t') × (t ≤ t')
  -- and none moves if the new rules speak of old names only and the old times u keep them; the new plan is then accepted
  pub still : (a : Accepted r) (u : ℕ → ℕ) → ((n : ℕ) → Name q.lines n → time_in r a n ≡ got (u n)) → Kept q q' new u
      → (a' : Accepted r') × ((n : ℕ) → Name q.lines n → time_in r' a' n ≡ got (u n))
  -- if the old plan was refused for a broken rule, the same rule refuses it again, at the place of its line now
  pub broken : (p : ℕ) → r.verdict ≡ refusal 8 p → (p' : ℕ) × Moved l.lines p p' × (r' ≡ refusing b' 8 p')
  -- if for an unfounded atom, the same atom
  pub unfounded : (a : ℕ) → r.verdict ≡ refusal 9 a → r' ≡ refusing b' 9 a
  -- if for a negative cycle, a negative cycle
  pub cyclic : (k : ℕ) → r.verdict ≡ refusal 10 k → ShowsCycle q' b' r'

-- of every two readable plans, each with rooms of its own, of which the second is the first with time rules added, and of every result of each
abbrev pub Demand3 : Type 0
Demand3 =
    (a a' : Asked) (b b' : Rooms) (q q' : Ready) (new : List ℕ)
    → readable a b ≡ got q → readable a' b' ≡ got q' → (l : Later q q' new)
    → (r r' : Result) → Judged a b r → Judged a' b' r' → Further q q' new l b' r r'
