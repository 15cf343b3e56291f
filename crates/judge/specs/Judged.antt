-- Believed: what the judge answers, and what both rooms hold then, for every input: docs/RULES.md, 'Verdicts'.
-- Four steps in the order of the refusals' numbers; each is left by a refusal or goes on to the next. Assumes nothing.
use Rattle.std.specs.Prelude.{ℕ, ◌≡◌, List, [], ◌∷◌, ◌++◌, ltb, pos, length, drop, ◌<ℤ◌}
use Rattle.basics.specs.Bools.{pick}
use Rattle.faults.specs.Answer.{Answer, got, refused, mapped}
use Rattle.diffs.specs.Diff.{Diff, Earliest, Sum, Cycle, LeastFirst}
use Rattle.timetable.specs.Table.{table_of, records_of}
use Rattle.terms.specs.Says.{Names}
use Rattle.terms.specs.Terms.{external}
use Rattle.stable.specs.Meaning.{unbroken, broken_at, first_broken, Founded, SmallestUnfounded}
use Rattle.judge.specs.Plan.{Asked, Rooms, Ready, holds, readable, Held, InForce}

-- a verdict by its numbers: accepted with the timetable's length, or refused with number and place
pub data Judgement : Type 0 where
  acceptance : (length : ℕ) → Judgement
  refusal : (number place : ℕ) → Judgement

pub record Result : Type 0 where
  pub verdict : Judgement
  pub rooms : Rooms

-- ---- what each ending leaves

-- the first places are new, the others are as they were
abbrev pub over : (new old : List ℕ) → List ℕ
over new old = new ++ drop (length new) old

-- number and place; both rooms are as they were
abbrev pub refusing : Rooms → (number place : ℕ) → Result
refusing b k p = record { verdict = refusal k p; rooms = b }

-- 10: the list stands in the first places of the cycle room
abbrev pub showing : Rooms → List ℕ → Result
showing b cs =
    record { verdict = refusal 10 (length cs); rooms = record { room = b.room; cycle = over cs b.cycle } }

-- the timetable's bytes stand in the first places of its room; or 11
abbrev pub accepting : Rooms → Answer (List ℕ) → Result
accepting b (got bytes) =
    record { verdict = acceptance (length bytes); rooms = record { room = over bytes b.room; cycle = b.cycle } }
accepting b (refused k p) = refusing b k p

-- ---- 10

-- each atom holds and says the difference beside it
abbrev pub Each : Ready → List ℕ → List Diff → Type 0
Each q [] [] = Unit {0}
Each q [] (d ∷ ds) = ⊥
Each q (a ∷ cs) [] = ⊥
Each q (a ∷ cs) (d ∷ ds) = Held q a d × Each q cs ds

-- a negative cycle, as the list of its atoms, which begins with the smallest
pub record NegativeCycle (q : Ready) (cs : List ℕ) : Type 0 where
  pub ds : List Diff
  pub each : Each q cs ds
  pub cycle : Cycle ds
  pub below : Sum ds <ℤ pos 0
  pub least : LeastFirst cs

-- ---- 11

-- the largest time that a timetable's field can hold
abbrev pub largest_time : ℕ
largest_time = 2147483647

-- nothing; or 11 with the first of the names whose time is above it
unfoldable pub in_time : List ℕ → (ℕ → ℕ) → Answer Unit
in_time [] u = got tt
in_time (n ∷ ns) u = pick (ltb largest_time (u n)) (refused 11 n) (in_time ns u)

-- the timetable of names with their times and of atoms, or 11
unfoldable pub table : List ℕ → (ℕ → ℕ) → List ℕ → Answer (List ℕ)
table ns u cs = mapped (λ (v : Unit {0}). table_of (record { records = records_of ns u; atoms = cs })) (in_time ns u)

-- ---- the steps

-- 10; or the earliest times, which are 11 or the timetable
pub data Timed (q : Ready) (b : Rooms) (r : Result) : Type 0 where
  impossible : (cs : List ℕ) → NegativeCycle q cs → r ≡ showing b cs → Timed q b r
  possible : (u : ℕ → ℕ) → Earliest (InForce q) u → (ns : List ℕ) → Names q.lines ns
      → r ≡ accepting b (table ns u q.atoms) → Timed q b r

-- 9; or all is founded
pub data Supported (q : Ready) (b : Rooms) (r : Result) : Type 0 where
  unsupported : (a : ℕ) → SmallestUnfounded (holds q) (external q.lines) q.lines a → r ≡ refusing b 9 a → Supported q b r
  supported : Founded (holds q) (external q.lines) q.lines → Timed q b r → Supported q b r

-- 8; or no rule is broken
pub data Weighed (q : Ready) (b : Rooms) (r : Result) : Type 0 where
  breaks : (p : ℕ) → first_broken (holds q) q.lines ≡ broken_at p → r ≡ refusing b 8 p → Weighed q b r
  sound : first_broken (holds q) q.lines ≡ unbroken → Supported q b r → Weighed q b r

-- 1 to 5, 61 to 64 or 7; or a readable plan
pub data Judges (a : Answer Ready) (b : Rooms) (r : Result) : Type 0 where
  unreadable : (k p : ℕ) → a ≡ refused k p → r ≡ refusing b k p → Judges a b r
  judgeable : (q : Ready) → a ≡ got q → Weighed q b r → Judges a b r

-- what the judge does with what was asked and both rooms
abbrev pub Judged : Asked → Rooms → Result → Type 0
Judged a b r = Judges (readable a b) b r
