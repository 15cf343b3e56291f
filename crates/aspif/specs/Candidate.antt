-- Believed: the candidate: docs/RULES.md, 'The candidate'. Any fault is 7. Assumes nothing.
use Rattle.std.specs.Prelude.{ℕ, zero, suc, ◌+◌, List, [], ◌∷◌, eqb, leb}
use Rattle.faults.specs.Limits.{last_atom}
use Rattle.faults.specs.Answer.{Answer}
use Rattle.basics.specs.Bools.{pick}
use Rattle.fields.specs.Reading.{Reading, found, fault, Reader, is_found, and_then, ◌>>◌}
use Rattle.fields.specs.Fields.{space, byte_at, line_end, text_end, natural}
use Rattle.aspif.specs.Grammar.{answer}

-- the same answer, with any fault as 7
abbrev pub sevenfold : {A : Type 0} → Reading A → Reading A
sevenfold (found x n) = found x n
sevenfold (fault k p) = fault 7 p

-- an atom to 4,096 that is above the one before it
unfoldable pub atom_above : (low : ℕ) → Reader ℕ
atom_above low s at = and_then (sevenfold (natural 7 last_atom s at)) (λ v n. pick (leb v low) (fault 7 at) (found v n))

-- a line end of either kind, and nothing after it
unfoldable pub ending : Reader Unit
ending s at = sevenfold ((line_end >> text_end) s at)

-- at most n atoms, strictly ascending above low, one space between
unfoldable pub ascending : (n low : ℕ) → Reader (List ℕ)
ascending zero low s at = fault 7 at
ascending (suc n) low s at =
    and_then (atom_above low s at) (λ v m.
    pick (eqb (byte_at s m) space)
    (and_then (ascending n v s (m + 1)) (λ vs l. found (v ∷ vs) l))
    (and_then (ending s m) (λ u l. found (v ∷ []) l)))

-- a line end alone is the empty candidate
unfoldable pub candidate_line : Reader (List ℕ)
candidate_line s at = pick (is_found (line_end s at)) (and_then (ending s at) (λ u n. found [] n)) (ascending last_atom 0 s at)

-- the atoms of a candidate, or 7
unfoldable pub candidate : List ℕ → Answer (List ℕ)
candidate s = answer (candidate_line s 0)
