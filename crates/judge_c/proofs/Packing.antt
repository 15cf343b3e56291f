-- What a packed number stands for, by cases. Assumes nothing.
use Prim.Native.Nat.{ℕ, ◌≤◌, ◌<◌}
use mathlib.Core.Path.{◌≡◌, refl, sym, ap}
use Rattle.std.specs.Prelude.{◌≢◌}
use mathlib.Core.Bool.{Bool, true, false}
use mathlib.Core.List.{List, [], ◌∷◌}
use native.Mathlib.Omega.{arith}
use lib.Dec.{eqb}
use lib.ListN.{length}
use Rattle.basics.specs.Bools.{pick}
use Rattle.faults.specs.Answer.{Answer, got, refused}
use Rattle.faults.specs.Values.{number}
use Rattle.faults.specs.declared.Kind.{Kind}
use Rattle.faults.specs.declared.Kind.TheVariants.{Candidate}
use Rattle.faults.proofs.Numbers.{no_number, among_none}
use Rattle.timetable.specs.Table.{Record, times_fit, is_table, content_of as shown_in}
use Rattle.timetable.specs.Times.{time_among, time_of}
use Rattle.timetable.proofs.Bounds.{first-time, is_within}
use Rattle.timetable.proofs.Reading.{passed}
use Rattle.judge.specs.Plan.{Asked, Rooms}
use Rattle.judge.specs.Judged.{Judged}
use Rattle.judge.specs.Values.{as_verdict}
use Rattle.judge.specs.declared.Verdict.{Verdict}
use Rattle.judge.specs.declared.Verdict.TheVariants.{Accepted, Refused}
use Rattle.judge.specs.Shown.{text_numbers, in_text, shown}
use Rattle.judge.proofs.Parts.{shown-none}
use Rattle.judge.proofs.Places.{places-bounded}
use Rattle.judge_c.specs.Packed.{half}
use Rattle.judge_c.specs.inner.Steps.{Fitting}

-- what the judge may give fits the lower half
pub fits : (i : Asked) (v : Verdict) {b a : Rooms} → Judged i b (record { verdict = as_verdict v; rooms = a }) → Fitting v
fits i (Accepted n) {b} j = let h = places-bounded i b _ j in omega arith
fits i (Refused f) {b} j = let h = places-bounded i b _ j in omega arith

-- a time fits the lower half; a refusal has a number, and its place is at most the term asked for
abbrev pub TimeFits : (term : ℕ) → Answer ℕ → Type 0
TimeFits u (got t) = t < half
TimeFits u (refused k p) = (0 < k) × (p ≤ u)

-- among records whose times are within their bound
among-fits : (u : ℕ) (rs : List Record) → times_fit rs ≡ true → TimeFits u (time_among u rs)
unfolding time_among
among-fits u [] h = (omega arith, omega arith)
among-fits u (r ∷ rs) h = go (eqb r.name u) (among-fits u rs (first-time r rs h).others)
  where
    go : (t : Bool) → TimeFits u (time_among u rs) → TimeFits u (pick t (got r.time) (time_among u rs))
    go true f = omega (arith, (first-time r rs h).timely)
    go false f = f

-- of every slice
pub time-fits : (s : List ℕ) (u : ℕ) → TimeFits u (time_of s u)
unfolding time_of
time-fits s u = go (is_table s) refl
  where
    go : (t : Bool) → is_table s ≡ t → TimeFits u (pick t (time_among u (shown_in s).records) (refused 20 0))
    go true e = among-fits u (shown_in s).records (is_within (shown_in s) (passed s e).bounds).times
    go false e = (omega arith, omega arith)

-- the place of 20 is 0, that of 21 the term asked for
pub time-place : (s : List ℕ) (u k p : ℕ) → refused k p ≡ time_of s u → p ≤ u
time-place s u k p e = let h : TimeFits u (refused k p) = rw (← e) at (time-fits s u) in h.1

-- a number that no kind has shows nothing
module _ (n : ℕ) (none : (k : Kind) → n ≢ number k) where
  not-in_text : in_text n ≡ false
  not-in_text = among_none n (λ k e. none k (sym e)) text_numbers refl

  pub nothing_shown : (p : ℕ) (text cand : List ℕ) → 0 ≡ length (shown n p text cand)
  nothing_shown p text cand = ap length (shown-none n p text cand not-in_text (no_number n (λ k e. none k (sym e)) Candidate))
