-- Inner: what is known between the stages of the judge. Nothing here is needed to read what the judge promises.
use Rattle.std.specs.Prelude.{ℕ, ◌≤◌, ◌<◌, ◌≡◌, false, List, [], ◌∷◌, map, length, take, Result, Ok, Err}
use Rattle.faults.specs.Limits.{last_atom, table_room, cycle_room}
use Rattle.faults.specs.inner.Places.{atom_places}
use Rattle.faults.specs.Values.{number}
use Rattle.faults.specs.declared.AtomNo.{AtomNo}
use Rattle.faults.specs.declared.Refusal.{Refusal}
use Rattle.basics.specs.Bools.{pick}
use Rattle.basics.specs.inner.Bitmaps.{is_marked, marked_from}
use Rattle.basics.specs.Lists.{All, Distinct}
use Rattle.aspif.specs.Statements.{Line}
use Rattle.aspif.specs.inner.Kept.{AllInRange}
use Rattle.aspif.specs.inner.Bitmap.{atoms_of, EndsAt}
use Rattle.diffs.specs.Diff.{Earliest}
use Rattle.diffs.specs.declared.Difference.{Difference}
use Rattle.terms.specs.Terms.{Stated}
use Rattle.terms.specs.inner.Tables.{tabulated, held_at, SmallDiff, States}
use Rattle.terms.specs.inner.Values.{Within}
use Rattle.judge.specs.Plan.{Asked, Rooms, Ready, ready}
use Rattle.judge.specs.Judged.{Judgement, acceptance, refusal, refusing, accepting, table, Timed, Judged}
use Rattle.judge.specs.Values.{rooms}
use Rattle.judge.specs.Judged as judged
use Rattle.diffs.specs.inner.Answer as diffs
use Rattle.timetable.specs.inner.Given as timetable

-- the judgement that a result of the code stands for, and with what both rooms hold then
abbrev pub as_judgement : Result ℕ Refusal → Judgement
as_judgement (Ok n) = acceptance n
as_judgement (Err r) = refusal (number r.kind) r.place

abbrev pub as_judged : Result ℕ Refusal → (room cycle : List ℕ) → judged.Result
as_judged r room cycle = record { verdict = as_judgement r; rooms = rooms room cycle }

-- the differences of a slice, each with the atom beside it
abbrev pub stated : (atoms : List ℕ) → List Difference → List Stated
stated atoms ds = tabulated (length atoms) (held_at atoms ds)

-- the lines ls keep to their bounds, and two slices that are as long have the differences that they state
pub record Stating (ls : List Line) (atoms : List ℕ) (ds : List Difference) : Type 0 where
  pub small : AllInRange ls
  pub stated : States ls (stated atoms ds)
  pub alike : length ds ≡ length atoms

-- a bitmap of the atoms of a candidate, to its last or further
pub record Candidate (x : List ℕ) : Type 0 where
  pub places : length x ≤ atom_places
  pub none : is_marked x 0 ≡ false

-- rooms that are long enough
pub record Sized (room cycle : List ℕ) : Type 0 where
  pub bytes : table_room ≤ length room
  pub places : cycle_room ≤ length cycle

-- the plan of lines and of a candidate's bitmap
abbrev pub ready_at : List Line → (x : List ℕ) → Ready
ready_at ls x = ready ls (atoms_of x)

-- ---- before the times

-- what is known of a stable candidate: the lines state the first m differences in the slices, x has its atoms to the last, and the times decide what is left
pub record Upheld (a : Asked) (m last : ℕ) (x atoms : List ℕ) (ds : List Difference) : Type 0 where
  pub lines : List Line
  pub within : Within m atoms ds
  pub stating : Stating lines (take m atoms) (take m ds)
  pub candidate : Candidate x
  pub ends : EndsAt last x
  pub decides : (b : Rooms) (r : judged.Result) → Sized b.room b.cycle → Timed (ready_at lines x) b r → Judged a b r

-- a refusal in any rooms that are long enough, or that
abbrev pub BeforeTimes : Result (ℕ × AtomNo) Refusal → Asked → (x atoms : List ℕ) → List Difference → Type 0
BeforeTimes (Ok s) a x atoms ds = Upheld a s.0 s.1.0 x atoms ds
BeforeTimes (Err f) a x atoms ds = (b : Rooms) → Sized b.room b.cycle → Judged a b (refusing b (number f.kind) f.place)

-- ---- the differences in force

-- an atom to 4,096, and a difference within its bounds
abbrev pub SmallStated : Stated → Type 0
SmallStated s = SmallDiff s.says × (s.atom < atom_places)

-- two slices that are as long have differences within their bounds, of different atoms
pub record Filled (atoms : List ℕ) (ds : List Difference) : Type 0 where
  pub alike : length ds ≡ length atoms
  pub small : All SmallStated (stated atoms ds)
  pub differ : Distinct (map (λ (s : Stated). s.atom) (stated atoms ds))

-- those whose atom is marked
unfoldable pub in_force : (x : List ℕ) → List Stated → List Stated
in_force x [] = []
in_force x (s ∷ ds) = pick (is_marked x s.atom) (s ∷ in_force x ds) (in_force x ds)

-- the first n places of two slices have the differences es
pub record Gathered (es : List Stated) (n : ℕ) (labels : List ℕ) (ds : List Difference) : Type 0 where
  pub within : Within n labels ds
  pub is : stated (take n labels) (take n ds) ≡ es

-- ---- the times

-- what the writer of the timetable takes
pub record Writable (names times x room : List ℕ) : Type 0 where
  pub sized : timetable.WriterRooms names times x room
  pub timely : timetable.Timely names times

-- differences within their bounds with a label each, no more than there are atoms
pub record Labelled (labels : List ℕ) (ds : List Difference) : Type 0 where
  pub few : length ds ≤ last_atom
  pub labels_length : length labels ≡ length ds
  pub small : (j : ℕ) → j < length ds → SmallDiff (diffs.diff_at ds j)

-- of the differences ds: a negative cycle is shown, or the names' earliest times and the atoms are written, or 11
pub data Settled (ds : List Difference) (labels names x : List ℕ) (b : Rooms) (r : judged.Result) : Type 0 where
  cycle_shown : (k : ℕ) (cycle : List ℕ) → diffs.Shown (length ds) (diffs.diff_at ds) labels labels b.cycle cycle k
      → r ≡ record { verdict = refusal 10 k; rooms = record { room = b.room; cycle = cycle } } → Settled ds labels names x b r
  table_written : (u : ℕ → ℕ) → Earliest (diffs.Among (length ds) (diffs.diff_at ds)) u
      → r ≡ accepting b (table (marked_from 0 names) u (marked_from 1 x)) → Settled ds labels names x b r
