-- Late names: those from i on decide whether one is late; and no earliest time ever is, since it is at most 1,023,000,000.
use Prim.Native.Nat.{ℕ, ◌+◌, ◌≤◌, ◌<◌}
use mathlib.Core.Path.{◌≡◌, subst}
use mathlib.Core.List.{List}
use native.Mathlib.Omega.{arith}
use borrow.Author.Tests.{lt-ltb, le-ltb}
use lib.ListN.{length, get_or}
use Rattle.faults.specs.Limits.{largest_number, table_room}
use Rattle.faults.specs.inner.Places.{term_places}
use Rattle.faults.specs.Answer.{got, refused}
use Rattle.basics.specs.inner.Bitmaps.{marked_from}
use Rattle.diffs.specs.Diff.{Diff, Earliest}
use Rattle.diffs.specs.inner.Answer.{cell, diff_at, Among}
use Rattle.diffs.specs.declared.Difference.{Difference}
use Rattle.diffs.proofs.Latest.{latest-time}
use Rattle.timetable.specs.inner.Given.{time_at}
use Rattle.timetable.proofs.Marks.{marked-none, marked_pass, marked-take}
use Rattle.terms.specs.inner.Tables.{SmallDiff}
use Rattle.judge.specs.Judged.{largest_time, in_time}
use Rattle.judge.proofs.Small.{bound-low}
use Rattle.judge.specs.inner.Stages.{Labelled, Candidate, Writable}

module _ (names times : List ℕ) (i : ℕ) where
  -- i is not marked
  pub late_pass : i < length names → (get_or names i 0 ≡ 1 → ⊥) → in_time (marked_from (i + 1) names) (time_at times) ≡ in_time (marked_from i names) (time_at times)
  late_pass h n = rw (marked_pass names i h n)

  -- i is a name, and in time
  pub late-time : i < length names → get_or names i 0 ≡ 1 → get_or times i 0 ≤ largest_time → in_time (marked_from (i + 1) names) (time_at times) ≡ in_time (marked_from i names) (time_at times)
  unfolding in_time
  late-time h n l = rw (← marked-take names i h n, le-ltb _ _ l)

  -- i is a name, and late
  pub late-found : i < length names → get_or names i 0 ≡ 1 → largest_time < get_or times i 0 → refused 11 i ≡ in_time (marked_from i names) (time_at times)
  unfolding in_time
  late-found h n l = rw (← marked-take names i h n, lt-ltb _ _ l)

  -- no name is left
  pub late_end : length names ≤ i → got tt ≡ in_time (marked_from i names) (time_at times)
  unfolding in_time
  late_end h = rw (marked-none names i h)

-- the turns of the loop
pub ruleset late_steps = (late_pass, late-time, late-found, late_end)

-- ---- no time is late

module _ (labels : List ℕ) (ds : List Difference) (w : Labelled labels ds) (u : ℕ → ℕ) (e : Earliest (Among (length ds) (diff_at ds)) u) where
  -- the differences are within their bounds
  small : (d : Diff) → Among (length ds) (diff_at ds) d → SmallDiff d
  small d q = subst SmallDiff q.is (w.small q.number q.within)

  -- no earliest time is above 1,023,000,000
  pub never_late : (v : ℕ) → u v ≤ 1023000000
  never_late v =
      latest-time (Among (length ds) (diff_at ds)) term_places largest_number (λ d q. let s = small d q in (s.x-small, s.y-small)) (λ d q. bound-low d (small d q)) u e v

-- times that are the earliest can be written
pub earliest_writable : (labels : List ℕ) (ds : List Difference) → Labelled labels ds → (names times x room : List ℕ)
    → Earliest (Among (length ds) (diff_at ds)) (cell times)
    → length names ≡ term_places → length times ≡ term_places → Candidate x → table_room ≤ length room → Writable names times x room
earliest_writable labels ds w names times x room e n t c r =
    record {
      sized = record { names-long = omega arith; times_long = omega arith; atoms-long = c.places; room-long = r };
      timely = record { each = λ v m. never_late labels ds w (cell times) e v };
    }
