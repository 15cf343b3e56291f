-- Believed: the number of each kind, docs/RULES.md, 'Verdicts', what a kind is found by, what is written of a refusal, and the answer that a result stands for. Assumes nothing.
use Rattle.std.specs.Prelude.{ℕ, ◌≡◌, ◌≢◌, List, ◌++◌, Result, Ok, Err, codes}
use Rattle.std.specs.Fmt.{decimal}
use Rattle.faults.specs.Answer.{Answer, got, refused}
use Rattle.faults.specs.declared.Kind.{Kind}
use Rattle.faults.specs.declared.Kind.TheVariants.{Room, Long, Grammar, Carried, Bounds, Twice, Unknown, Second, NoDifference, Candidate, Broken, Unfounded, Cycle, Late, NotTable, NotNamed}
use Rattle.faults.specs.declared.NoKind.{NoKind}
use Rattle.faults.specs.declared.Refusal.{Refusal}

abbrev pub number : Kind → ℕ
number Room = 1
number Long = 2
number Grammar = 3
number Carried = 4
number Bounds = 5
number Twice = 61
number Unknown = 62
number Second = 63
number NoDifference = 64
number Candidate = 7
number Broken = 8
number Unfounded = 9
number Cycle = 10
number Late = 11
number NotTable = 20
number NotNamed = 21

-- what is found of a number: the kind that has it, or that number where no kind has it
abbrev pub Numbered : ℕ → Result Kind NoKind → Type 0
Numbered n (Ok kind) = n ≡ number kind
Numbered n (Err e) = (e.0 ≡ n) × ((kind : Kind) → n ≢ number kind)

-- the answer that a result stands for
abbrev pub as_answer : {A : Type 0} → Result A Refusal → Answer A
as_answer (Ok a) = got a
as_answer (Err r) = refused (number r.kind) r.place

-- what is written of a refusal: `refused`, its number and its place, a space between
abbrev pub refusal_text : Refusal → List ℕ
refusal_text r = codes "refused " ++ decimal (number r.kind) ++ codes " " ++ decimal r.place
