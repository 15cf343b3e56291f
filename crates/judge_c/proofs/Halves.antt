-- The halves of an answer give back what was packed. Assumes nothing.
use Prim.Native.Nat.{ℕ, ◌+◌, ◌*◌, ◌<◌, min}
use mathlib.Core.Path.{◌≡◌, refl, ap}
use mathlib.Core.Bool.{Bool, true, false}
use native.Mathlib.Omega.{arith}
use borrow.Author.Tests.{eq-eqb, ne_eqb, eqb-true}
use lib.Dec.{eqb}
use Rattle.basics.specs.Bools.{pick}
use Rattle.faults.specs.Answer.{Answer, got, refused}
use Rattle.faults.specs.Values.{number}
use Rattle.faults.proofs.Numbers.{numbered}
use Rattle.timetable.specs.Times.{time_of}
use Rattle.judge.specs.Plan.{Asked, Rooms}
use Rattle.judge.specs.Judged.{acceptance, refusal, Judged}
use Rattle.judge.specs.Values.{as_verdict}
use Rattle.judge.specs.declared.Verdict.{Verdict}
use Rattle.judge.specs.declared.Verdict.TheVariants.{Accepted, Refused}
use Rattle.judge_c.specs.Packed.{half, largest_half, packed, packed_time, packed_part, above, below, unpacked, Halves}
use Rattle.judge_c.proofs.Packing.{fits, TimeFits, time-fits}

module _ {A : Type 0} (value : ℕ → A) (fault : (number place : ℕ) → A) where
  -- a value that a half holds
  unpacked-value : (n : ℕ) → n < half → unpacked value fault n ≡ value n
  unpacked-value n l = rw (eq-eqb (above n) 0 (omega arith)) (ap value (omega arith))

  -- a number other than 0, and a place that a half holds
  unpacked-fault : (k p : ℕ) → 0 < k → p < half → unpacked value fault (k * half + p) ≡ fault k p
  unpacked-fault k p m l =
      let a : above (k * half + p) ≡ k = omega arith in
      let b : below (k * half + p) ≡ p = omega arith in
      rw (a, b, ne_eqb k 0 (λ (e : k ≡ 0). omega arith))

-- a verdict that the judge may give
verdict-back : (i : Asked) (b a : Rooms) (v : Verdict) → Judged i b (record { verdict = as_verdict v; rooms = a })
    → unpacked acceptance refusal (packed (as_verdict v)) ≡ as_verdict v
verdict-back i b a (Accepted n) j = unpacked-value acceptance refusal n (fits i (Accepted n) j)
verdict-back i b a (Refused f) j = unpacked-fault acceptance refusal (number f.kind) f.place (numbered f.kind) (fits i (Refused f) j)

-- what the reader of a time answers
time-back : (u : ℕ) (a : Answer ℕ) → u < half → TimeFits u a → unpacked got refused (packed_time a) ≡ a
time-back u (got t) l h = unpacked-value got refused t h
time-back u (refused k p) l h = unpacked-fault got refused k p h.0 (omega (arith, h.1))

-- a part
length_back : (p n : ℕ) → below (packed_part p n) ≡ min n largest_half
length_back p n = go (eqb n 0) refl
  where
    go : (t : Bool) → eqb n 0 ≡ t → below (pick t 0 (p * half + min n largest_half)) ≡ min n largest_half
    go true e = omega (arith, eqb-true n 0 e)
    go false e = omega arith

start_back : (p n : ℕ) → (n ≡ 0 → ⊥) → above (packed_part p n) ≡ p
start_back p n any = rw (ne_eqb n 0 any) (omega arith)

pub halves : Halves
halves =
    record {
      verdict = λ a before after r h. rw h.value (verdict-back a before after h.verdict h.judged);
      time = λ table term l. time-back term (time_of table term) l (time-fits table term);
      length = length_back;
      start = start_back;
    }
