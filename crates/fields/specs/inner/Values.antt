-- Inner: the reading that each answer of the code stands for. Assumes nothing.
use Rattle.std.specs.Prelude.{ℕ, List, Result, Ok, Err}
use Rattle.faults.specs.Values.{number}
use Rattle.faults.specs.declared.AtomNo.{AtomNo}
use Rattle.faults.specs.declared.TermNo.{TermNo}
use Rattle.faults.specs.declared.ElementNo.{ElementNo}
use Rattle.faults.specs.declared.Refusal.{Refusal}
use Rattle.fields.specs.Reading.{Reading, found, fault}
use Rattle.fields.specs.inner.Tape.{Written, written}
use Rattle.fields.specs.declared.Cursor.{Cursor}
use Rattle.fields.specs.declared.LineEnd.{LineEnd}
use Rattle.fields.specs.declared.Progress.{Progress}

-- a refusal, as a fault
abbrev pub fault_of : {A : Type 0} → Refusal → Reading A
fault_of r = fault (number r.kind) r.place

-- no value, only the next cursor
abbrev pub as_passed : Result Cursor Refusal → Reading Unit
as_passed (Ok c) = found tt c.at
as_passed (Err r) = fault_of r

-- a value as it is, and the next cursor
abbrev pub as_field : {A : Type 0} → Result (A × Cursor) Refusal → Reading A
as_field (Ok f) = found f.0 f.1.at
as_field (Err r) = fault_of r

abbrev pub as_end : Result (LineEnd × Cursor) Refusal → Reading LineEnd
as_end r = as_field r

abbrev pub as_word : Result (ℕ × Cursor) Refusal → Reading ℕ
as_word r = as_field r

-- the number of an atom, of a term, of an element
abbrev pub as_atom : Result (AtomNo × Cursor) Refusal → Reading ℕ
as_atom (Ok f) = found f.0.0 f.1.at
as_atom (Err r) = fault_of r

abbrev pub as_term : Result (TermNo × Cursor) Refusal → Reading ℕ
as_term (Ok f) = found f.0.0 f.1.at
as_term (Err r) = fault_of r

abbrev pub as_element : Result (ElementNo × Cursor) Refusal → Reading ℕ
as_element (Ok f) = found f.0.0 f.1.at
as_element (Err r) = fault_of r

-- with what the tape holds then
abbrev pub as_wrote : Result Progress Refusal → List ℕ → Reading Written
as_wrote (Ok p) t = found (written t p.out) p.cursor.at
as_wrote (Err r) t = fault_of r
