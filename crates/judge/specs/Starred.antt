-- Believed: the starred cases of docs/RULES.md, 'Plan P and its neighbours', in one statement about what `Judged` allows. Assumes nothing.
use Rattle.std.specs.Prelude.{ℕ, ◌≤◌, ◌≡◌, List, [], ◌∷◌, ℤ, pos, negsuc, length, take}
use Rattle.faults.specs.Limits.{table_room, cycle_room}
use Rattle.faults.specs.Answer.{got}
use Rattle.diffs.specs.Diff.{Diff, Sum}
use Rattle.timetable.specs.Table.{Content, table_of}
use Rattle.timetable.specs.Times.{time_of}
use Rattle.judge.specs.Plan.{Asked, Rooms, Ready, asked, readable}
use Rattle.judge.specs.Judged.{acceptance, Result, refusing, showing, accepting, Each, Judged}
use Rattle.judge.specs.Texts.{bytes_of, plan_p, plan_q, plan_tight, plan_external, plan_loop, plan_odd}

-- what holds of every result that is allowed for what was asked, with rooms that are long enough
abbrev pub Always : Asked → (Rooms → Result → Type 0) → Type 0
Always a P =
    (b : Rooms) (r : Result) → table_room ≤ length b.room → cycle_room ≤ length b.cycle → Judged a b r → P b r

-- number and place; both rooms are as they were
abbrev pub Refuses : (number place : ℕ) → Rooms → Result → Type 0
Refuses k p b r = r ≡ refusing b k p

-- send is the term 3, recv the term 4
abbrev pub send_recv : (send recv : ℕ) → (atoms : List ℕ) → Content
send_recv send recv cs = record { records = record { name = 3; time = send } ∷ record { name = 4; time = recv } ∷ []; atoms = cs }

-- accepted with a timetable of n bytes, from which the times s of send and t of recv are read; the atoms are those of the candidate
pub record Accepts (n s t : ℕ) (cs : List ℕ) (b : Rooms) (r : Result) : Type 0 where
  pub verdict : r.verdict ≡ acceptance n
  pub send : time_of (take n r.rooms.room) 3 ≡ got s
  pub recv : time_of (take n r.rooms.room) 4 ≡ got t
  pub bytes : r ≡ accepting b (got (table_of (send_recv s t cs)))

-- the atoms cs hold, and the bounds of what they say have that sum
pub record Sums (a : Asked) (cs : List ℕ) (sum : ℤ) (b : Rooms) : Type 0 where
  pub plan : Ready
  pub read : readable a b ≡ got plan
  pub ds : List Diff
  pub each : Each plan cs ds
  pub is : Sum ds ≡ sum

-- 10 with the list cs, whose bounds have that sum
pub record Shows (a : Asked) (cs : List ℕ) (sum : ℤ) (b : Rooms) (r : Result) : Type 0 where
  pub list : r ≡ showing b cs
  pub sums : Sums a cs sum b

-- a sum of 0 is accepted
pub record Spares (b : Rooms) (r : Result) : Type 0 where
  pub sums : Sums (asked plan_tight (bytes_of "1 2 3\n")) (2 ∷ 3 ∷ []) (pos 0) b
  pub accepts : Accepts 44 0 5 (1 ∷ 2 ∷ 3 ∷ []) b r

-- the starred cases
pub record Starred : Type 0 where
  pub p_1_2_3 : Always (asked plan_p (bytes_of "1 2 3\n")) (Accepts 44 0 5 (1 ∷ 2 ∷ 3 ∷ []))
  pub p_3 : Always (asked plan_p (bytes_of "3\n")) (Accepts 36 0 5 (3 ∷ []))
  pub p_1_3 : Always (asked plan_p (bytes_of "1 3\n")) (Refuses 8 22)
  pub p_empty : Always (asked plan_p (bytes_of "\n")) (Refuses 8 36)
  pub p_2_3 : Always (asked plan_p (bytes_of "2 3\n")) (Refuses 9 2)
  pub q_1_2_3 : Always (asked plan_q (bytes_of "1 2 3\n")) (Shows (asked plan_q (bytes_of "1 2 3\n")) (2 ∷ 3 ∷ []) (negsuc 4))
  pub q_3 : Always (asked plan_q (bytes_of "3\n")) (Accepts 36 0 45 (3 ∷ []))
  pub tight_1_2_3 : Always (asked plan_tight (bytes_of "1 2 3\n")) Spares
  pub external_2_3 : Always (asked plan_external (bytes_of "2 3\n")) (Accepts 40 0 5 (2 ∷ 3 ∷ []))
  pub loop_1_2 : Always (asked plan_loop (bytes_of "1 2\n")) (Refuses 9 1)
  pub odd-empty : Always (asked plan_odd (bytes_of "\n")) (Refuses 8 10)
  pub odd_1 : Always (asked plan_odd (bytes_of "1\n")) (Refuses 9 1)
