-- Believed: how lines end where a part is shown: by the first byte 10, and as reading meets it. Assumes nothing.
use Rattle.std.specs.Prelude.{ℕ, ◌≤◌, ◌≡◌, List, ◌∷◌, ◌++◌, length, take}
use Rattle.basics.specs.Lists.{NotIn}
use Rattle.faults.specs.Answer.{got}
use Rattle.fields.specs.declared.LineEnd.TheVariants as by
use Rattle.fields.specs.Reading.{found}
use Rattle.fields.specs.Fields.{feed, return, line_end, first_end, ends_of}
use Rattle.aspif.specs.declared.lines.Header.{Header}
use Rattle.aspif.specs.Grammar.{first_line}
use Rattle.aspif.specs.Candidate.{candidate}

-- ---- where a part is shown

-- the first byte 10 has a 13 right before it
pub record ReturnFirst (s : List ℕ) : Type 0 where
  pub front : List ℕ
  pub back : List ℕ
  pub is : s ≡ front ++ (return ∷ feed ∷ back)
  pub none : NotIn feed front

-- lines end in 13 10 exactly then
abbrev pub ByFirstFeed : Type 0
ByFirstFeed = (s : List ℕ) → (ReturnFirst s → ends_of s ≡ by.Return) × (ends_of s ≡ by.Return → ReturnFirst s)

-- ---- where lines are read

-- of a text whose first line is read, whatever follows it
abbrev pub TextMet : Type 0
TextMet = (s : List ℕ) (first : Header) (n : ℕ) → first_line s 0 ≡ found first n → ends_of s ≡ first.ends

-- of a candidate whose first p bytes are one that is read, whatever follows them: its first line end is the one that ends these
abbrev pub CandidateMet : Type 0
CandidateMet = (s vs : List ℕ) (p : ℕ) → p ≤ length s → candidate (take p s) ≡ got vs → line_end s (first_end s) ≡ found (ends_of s) p
