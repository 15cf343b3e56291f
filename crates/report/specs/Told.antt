-- Believed: what the program prints of an acceptance and of a negative cycle, in the words of demand 2. Assumes nothing.
use Rattle.std.specs.Prelude.{ℕ, ◌≡◌, List, ◌++◌, length}
use Rattle.faults.specs.Answer.{got}
use Rattle.terms.specs.Says.{Names}
use Rattle.diffs.specs.Diff.{Earliest}
use Rattle.timetable.specs.Table.{records_of}
use Rattle.judge.specs.Plan.{Asked, Rooms, Ready, readable, InForce}
use Rattle.judge.specs.Judged.{acceptance, Result, Judged}
use Rattle.judge.specs.Demand2.{ShowsCycle}
use Rattle.report.specs.Report.{two, list_line, record_lines, accepted_word, refused_word, printed}

-- `accepted`, how many names and atoms there are, and each name with its earliest time
pub record Times (q : Ready) (bytes : List ℕ) : Type 0 where
  pub names : List ℕ
  pub all : Names q.lines names
  pub time : ℕ → ℕ
  pub earliest : Earliest (InForce q) time
  pub is : bytes ≡ accepted_word ++ two (length names) (length q.atoms) ++ record_lines (records_of names time)

-- an acceptance tells the earliest times; a negative cycle is told by its count and its atoms
pub record Told (a : Asked) (b : Rooms) (r : Result) : Type 0 where
  pub times : (n : ℕ) → r.verdict ≡ acceptance n → (q : Ready) × (readable a b ≡ got q) × Times q (printed r.verdict r.rooms)
  pub cycle : (q : Ready) (c : ShowsCycle q b r) → printed r.verdict r.rooms ≡ refused_word ++ two 10 (length c.list) ++ list_line c.list

-- for whatever was asked, all rooms, and every result
abbrev pub Tells : Type 0
Tells = (a : Asked) (b : Rooms) (r : Result) → Judged a b r → Told a b r
