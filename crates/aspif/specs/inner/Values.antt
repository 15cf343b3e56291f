-- Inner: what each answer of the reader stands for. Assumes nothing.
use Rattle.std.specs.Prelude.{ℕ, List, length, Result, Ok, Err}
use Rattle.std.proofs.lemmas.List.Edits.{sets}
use Rattle.faults.specs.Answer.{Answer, got, refused}
use Rattle.faults.specs.Values.{number}
use Rattle.faults.specs.declared.AtomNo.{AtomNo}
use Rattle.faults.specs.declared.Refusal.{Refusal}
use Rattle.fields.specs.Reading.{Reading}
use Rattle.fields.specs.declared.Cursor.{Cursor}
use Rattle.fields.specs.inner.Values.{as_field}
use Rattle.aspif.specs.Statements.{Line}
use Rattle.aspif.specs.inner.Words.{all_words, lines_of, places_from}
use Rattle.aspif.specs.inner.Kept.{Ahead}
use Rattle.aspif.specs.inner.Bitmap.{atoms_of, EndsAt}
use Rattle.aspif.specs.declared.lines.Header.{Header}
use Rattle.aspif.specs.declared.walk.Lines.{Lines}
use Rattle.aspif.specs.declared.walk.Places.{Places}

abbrev pub as_header : Result (Header × Cursor) Refusal → Reading Header
as_header r = as_field r

-- what the tape holds, and how many lines it has
pub record Tape : Type 0 where
  pub tape : List ℕ
  pub lines : ℕ

-- with what the tape holds then
abbrev pub as_tape : Result ℕ Refusal → List ℕ → Answer Tape
as_tape (Ok n) t = got (record { tape = t; lines = n })
as_tape (Err r) t = refused (number r.kind) r.place

-- the words of the lines stand in the first places of the tape, and nothing else of it changes
unfoldable pub taped : List ℕ → Answer (List Line) → Answer Tape
taped t (got xs) = got (record { tape = sets t 0 (all_words xs); lines = length xs })
taped t (refused k p) = refused k p

-- a tape that was read can be walked
abbrev pub taped_if : Result ℕ Refusal → List ℕ → Type 0
taped_if (Ok n) t = Ahead t 0 n
taped_if (Err r) t = Unit {0}

-- what lines on a tape say
abbrev pub lines_in : Lines → List Line
lines_in l = lines_of l.tape.now l.count

-- the places that are left
abbrev pub places_left : Places → List ℕ
places_left s = places_from s.tape.now s.at s.left

-- with what the bitmap holds then
abbrev pub as_marked : Result AtomNo Refusal → List ℕ → Answer (List ℕ)
as_marked (Ok a) x = got (atoms_of x)
as_marked (Err r) x = refused (number r.kind) r.place

-- no atom above the last is marked
abbrev pub MarkedTo : Result AtomNo Refusal → List ℕ → Type 0
MarkedTo (Ok a) x = EndsAt a.0 x
MarkedTo (Err r) x = Unit {0}
