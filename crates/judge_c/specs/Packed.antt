-- Believed: an answer as one number: one part above 2 ^ 32, the other below. Assumes nothing.
use Rattle.std.specs.Prelude.{ℕ, ◌+◌, ◌*◌, ◌/◌, ◌%◌, ◌<◌, min, ◌≡◌, List, eqb}
use Rattle.basics.specs.Bools.{pick}
use Rattle.faults.specs.Answer.{Answer, got, refused}
use Rattle.timetable.specs.Times.{time_of}
use Rattle.judge.specs.Plan.{Asked, Rooms}
use Rattle.judge.specs.Judged.{Judgement, acceptance, refusal, Judged}
use Rattle.judge.specs.Values.{as_verdict}
use Rattle.judge.specs.declared.Verdict.{Verdict}

-- a half holds the numbers below this
abbrev pub half : ℕ
half = 4294967296

-- the largest of them
abbrev pub largest_half : ℕ
largest_half = 4294967295

-- an acceptance: 0 above, the timetable's length below; a refusal: its number above, its place below
abbrev pub packed : Judgement → ℕ
packed (acceptance n) = n
packed (refusal k p) = k * half + p

-- 0 above, the time below; or the refusal's number above, its place below, which is 0 or the term asked for
abbrev pub packed_time : Answer ℕ → ℕ
packed_time (got t) = t
packed_time (refused k p) = k * half + p

-- a part by its start and length: the start above, the length below; 0 for an empty part.
-- A length that no half holds is given as the largest: a candidate may be of any length, and a part of it is as long where it has no byte 10
abbrev pub packed_part : (start length : ℕ) → ℕ
packed_part p n = pick (eqb n 0) 0 (p * half + min n largest_half)

-- r is a verdict, packed, that the judge may give of what was asked, with both rooms as they are after it
pub record Answers (a : Asked) (before after : Rooms) (r : ℕ) : Type 0 where
  pub verdict : Verdict
  pub judged : Judged a before (record { verdict = as_verdict verdict; rooms = after })
  pub value : r ≡ packed (as_verdict verdict)

-- ---- the halves give back what was packed

abbrev pub above : ℕ → ℕ
above r = r / half

abbrev pub below : ℕ → ℕ
below r = r % half

-- what the halves say: where 0 stands above, the value below; else the number above with the place below
abbrev pub unpacked : {A : Type 0} → (ℕ → A) → ((number place : ℕ) → A) → ℕ → A
unpacked value fault r = pick (eqb (above r) 0) (value (below r)) (fault (above r) (below r))

-- of every answer the verdict, with the timetable's length or the number and the place;
-- the time of a term number that a half holds, or 20 or 21 with its place;
-- the length of a part, the largest half where it is longer, and the start of a part that is not empty
pub record Halves : Type 0 where
  pub verdict : (a : Asked) (before after : Rooms) (r : ℕ) (h : Answers a before after r) → unpacked acceptance refusal r ≡ as_verdict h.verdict
  pub time : (table : List ℕ) (term : ℕ) → term < half → unpacked got refused (packed_time (time_of table term)) ≡ time_of table term
  pub length : (p n : ℕ) → below (packed_part p n) ≡ min n largest_half
  pub start : (p n : ℕ) → (n ≡ 0 → ⊥) → above (packed_part p n) ≡ p
