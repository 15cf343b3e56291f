-- Believed: showing a fault: docs/RULES.md, the end of 'Verdicts'. Assumes nothing.
use Rattle.std.specs.Prelude.{ℕ, ◌+◌, min, ◌≡◌, Bool, true, List, [], ◌∷◌, eqb, length}
use Rattle.std.specs.Borrow.{Bor}
use Rattle.basics.specs.Bools.{pick}
use Rattle.basics.specs.Lists.{among}
use Rattle.fields.specs.Fields.{part_from}

-- the numbers whose place is in the text
abbrev pub text_numbers : List ℕ
text_numbers = 3 ∷ 4 ∷ 5 ∷ 61 ∷ 62 ∷ 63 ∷ 64 ∷ 8 ∷ []

abbrev pub in_text : (number : ℕ) → Bool
in_text k = among k text_numbers

-- the part that is shown: of the text, for 7 of the candidate, for every other number nothing
unfoldable pub shown : (number place : ℕ) → (text cand : List ℕ) → List ℕ
shown k place text cand = pick (in_text k) (part_from text place) (pick (eqb k 7) (part_from cand place) [])

-- r is the part of the slice s from the place on: these bytes, in the memory of s itself, at the place or at the end if that comes first
pub record Part (r s : Bor (List ℕ)) (place : ℕ) : Type 0 where
  pub bytes : r.now ≡ part_from s.now place
  pub block : r.ref_ptr.0 ≡ s.ref_ptr.0
  pub offset : r.ref_ptr.1 ≡ s.ref_ptr.1 + min place (length s.now)

-- what `show` gives: the bytes that are shown, as a part of the text, for 7 of the candidate
pub record IsShown (r text cand : Bor (List ℕ)) (number place : ℕ) : Type 0 where
  pub bytes : r.now ≡ shown number place text.now cand.now
  pub of_text : in_text number ≡ true → Part r text place
  pub of_candidate : eqb number 7 ≡ true → Part r cand place
