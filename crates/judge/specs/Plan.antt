-- Believed: a readable plan with its candidate: refusals 1 to 5, 61 to 64 and 7 in the order of docs/RULES.md, 'Verdicts', and the rules that hold. Assumes nothing.
use Rattle.std.specs.Prelude.{ℕ, ◌≡◌, Bool, true, List, ltb, length}
use Rattle.faults.specs.Limits.{longest_text, table_room, cycle_room}
use Rattle.faults.specs.Answer.{Answer, got, refused, bind, mapped}
use Rattle.basics.specs.Bools.{pick}
use Rattle.basics.specs.Lists.{among}
use Rattle.aspif.specs.Statements.{Line}
use Rattle.aspif.specs.Grammar.{statements}
use Rattle.aspif.specs.Candidate.{candidate}
use Rattle.diffs.specs.Diff.{Diff}
use Rattle.terms.specs.Says.{Says}
use Rattle.terms.specs.Terms.{Stated}
use Rattle.terms.specs.Reasons.{differences}

-- what was asked: a plan text and a candidate
pub record Asked : Type 0 where
  pub text : List ℕ
  pub cand : List ℕ

-- what was lent: the timetable room and the cycle room
pub record Rooms : Type 0 where
  pub room : List ℕ
  pub cycle : List ℕ

-- the lines of a text, and the atoms of a candidate
pub record Ready : Type 0 where
  pub lines : List Line
  pub atoms : List ℕ

abbrev pub asked : (text cand : List ℕ) → Asked
asked text cand = record { text = text; cand = cand }

abbrev pub ready : List Line → (atoms : List ℕ) → Ready
ready ls cs = record { lines = ls; atoms = cs }

-- the candidate as a set
abbrev pub holds : Ready → ℕ → Bool
holds q a = among a q.atoms

-- ---- 1 to 5, 61 to 64 and 7, in three parts

-- what was lent, 1: a room too short, the timetable room first
unfoldable pub lent : Rooms → Answer Unit
lent b =
    pick (ltb (length b.room) table_room) (refused 1 table_room)
    (pick (ltb (length b.cycle) cycle_room) (refused 1 cycle_room)
    (got tt))

-- the text alone, 2 to 5 and 61 to 64: over 60,000 bytes; what it says; its terms
unfoldable pub legible : (text : List ℕ) → Answer (List Line)
legible text =
    pick (ltb longest_text (length text)) (refused 2 longest_text)
    (bind (statements text) (λ ls. mapped (λ (ds : List Stated). ls) (differences text ls)))

-- the candidate, 7: these lines with its atoms
unfoldable pub pair : List Line → (cand : List ℕ) → Answer Ready
pair ls cand = mapped (ready ls) (candidate cand)

-- one after the other
unfoldable pub readable : Asked → Rooms → Answer Ready
readable a b = bind (lent b) (λ (u : Unit {0}). bind (legible a.text) (λ ls. pair ls a.cand))

-- ---- the rules that hold

-- a is in the candidate, and says d
pub record Held (q : Ready) (a : ℕ) (d : Diff) : Type 0 where
  pub holds : among a q.atoms ≡ true
  pub says : Says q.lines a d

-- the differences of atoms in the candidate
pub record InForce (q : Ready) (d : Diff) : Type 0 where
  pub atom : ℕ
  pub held : Held q atom d
