-- Believed: reading as it was when every line was ended by byte 10 alone: each definition that line ends of two kinds changed, as it stood.
-- What is not here is the same definition still: integers, atoms, lists, strings and all statements but the comment, over naturals. Assumes nothing.
use Rattle.std.specs.Prelude.{ℕ, zero, suc, ◌+◌, min, ◌≡◌, Bool, ◌||◌, List, [], ◌∷◌, eqb, leb, length, drop}
use Rattle.basics.specs.Bools.{pick}
use Rattle.basics.specs.Lists.{NotIn}
use Rattle.faults.specs.Limits.{last_atom}
use Rattle.faults.specs.Answer.{Answer}
use Rattle.fields.specs.declared.Item.TheVariants as of
use Rattle.fields.specs.Reading.{found, fault, Reader, is_found, and_then, ◌>>=◌, ◌>>◌, pure}
use Rattle.fields.specs.Fields.{space, feed, return, byte_at, byte, bytes, text_end, field, field_place, is_natural, value, natural, is_forbidden, items, part_from}
use Rattle.aspif.specs.Statements.{Statement, comment, Line}
use Rattle.aspif.specs.Grammar.{opening, rule_line, output_line, theory_part, answer, statements}
use Rattle.aspif.specs.Candidate.{sevenfold, atom_above, candidate}

-- the bytes before the first that ends them, or all
unfoldable pub up_to : (ℕ → Bool) → List ℕ → List ℕ
up_to ends [] = []
up_to ends (b ∷ bs) = pick (ends b) [] (b ∷ up_to ends bs)

-- ---- fields

-- a space or a feed
abbrev pub is_separator : ℕ → Bool
is_separator b = eqb b space || eqb b feed

abbrev pub field_before : List ℕ → ℕ → List ℕ
field_before s at = up_to is_separator (drop at s)

-- of all readers only this one looks at a field as such
abbrev pub natural_before : (k most : ℕ) → Reader ℕ
natural_before k most s at =
    let f = field_before s at in
    pick (is_natural f)
    (pick (leb (value 0 f) most) (found (value 0 f) (at + length f)) (fault k at))
    (fault 3 at)

abbrev pub behind_before : List ℕ → ℕ → ℕ
behind_before s at = min (at + length (up_to (λ b. eqb b space) (drop at s)) + 1) (length s)

abbrev pub field_place_before : List ℕ → (k at : ℕ) → ℕ
field_place_before s zero at = at
field_place_before s (suc k) at = field_place_before s k (behind_before s at)

-- ---- the text

abbrev pub rest_before : Reader (List ℕ)
rest_before s at = items of.Char (length (up_to is_forbidden (drop at s))) s at

abbrev pub comment_before : Reader Statement
comment_before = do
  byte space
  bs ← rest_before
  pure (comment bs)

abbrev pub statement_before : (k place : ℕ) → Reader Statement
statement_before k place =
    pick (eqb k 1) rule_line
    (pick (eqb k 4) output_line
    (pick (eqb k 9) theory_part
    (pick (eqb k 10) comment_before (λ s at. fault 4 place))))

abbrev pub line_before : (k place : ℕ) → Reader Line
line_before k place = do
  x ← statement_before k place
  byte feed
  pure (record { place = place; says = x })

abbrev pub last_before : Reader Unit
last_before = do
  byte feed
  text_end

unfoldable pub lines_before : (n : ℕ) → Reader (List Line)
lines_before zero s at = fault 3 at
lines_before (suc n) s at =
    and_then (natural 3 10 s at) (λ k m.
    (pick (eqb k 0)
    (last_before >> pure [])
    (line_before k at >>= (λ x. lines_before n >>= (λ xs. pure (x ∷ xs))))) s m)

abbrev pub no_tag_before : Reader Unit
no_tag_before s at = pick (eqb (byte_at s at) space) (fault 4 at) (byte feed s at)

abbrev pub first_before : Reader Unit
first_before = do
  bytes opening
  no_tag_before

abbrev pub plan_before : Reader (List Line)
plan_before s at = and_then (first_before s at) (λ u n. lines_before (length s) s n)

abbrev pub statements_before : List ℕ → Answer (List Line)
statements_before s = answer (plan_before s 0)

-- ---- the candidate

abbrev pub ending_before : Reader Unit
ending_before s at = sevenfold (last_before s at)

unfoldable pub ascending_before : (n low : ℕ) → Reader (List ℕ)
ascending_before zero low s at = fault 7 at
ascending_before (suc n) low s at =
    and_then (atom_above low s at) (λ v m.
    pick (eqb (byte_at s m) space)
    (and_then (ascending_before n v s (m + 1)) (λ vs l. found (v ∷ vs) l))
    (and_then (ending_before s m) (λ u l. found (v ∷ []) l)))

abbrev pub candidate_line_before : Reader (List ℕ)
candidate_line_before s at = pick (is_found (byte feed s at)) (and_then (ending_before s at) (λ u n. found [] n)) (ascending_before last_atom 0 s at)

abbrev pub candidate_before : List ℕ → Answer (List ℕ)
candidate_before s = answer (candidate_line_before s 0)

-- ---- what is shown

abbrev pub part_before : List ℕ → (place : ℕ) → List ℕ
part_before s place = up_to (λ b. eqb b feed) (drop place s)

-- ---- nothing has changed for a text, or a candidate, without byte 13

-- its fields and where they stand, its naturals, what it says as a text and as a candidate, and what is shown of it are what they were
pub record AsBefore (s : List ℕ) : Type 0 where
  pub fields : (at : ℕ) → field s at ≡ field_before s at
  pub places : (k at : ℕ) → field_place s k at ≡ field_place_before s k at
  pub naturals : (k most at : ℕ) → natural k most s at ≡ natural_before k most s at
  pub text : statements s ≡ statements_before s
  pub atoms : candidate s ≡ candidate_before s
  pub part : (place : ℕ) → part_from s place ≡ part_before s place

abbrev pub NothingElse : Type 0
NothingElse = (s : List ℕ) → NotIn return s → AsBefore s
