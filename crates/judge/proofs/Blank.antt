-- Rooms of zeros: what each is the start of.
use Prim.Native.Nat.{ℕ, ◌*◌, ◌≤◌}
use mathlib.Core.List.{List}
use lib.ListN.{length, replicate, length-replicate}
use Rattle.faults.specs.Limits.{cycle_room}
use Rattle.faults.specs.inner.Places.{term_places}
use Rattle.basics.proofs.Lists.{zeros}
use Rattle.diffs.specs.inner.Answer.{Given, zero_difference}
use Rattle.diffs.specs.declared.Difference.{Difference}
use Rattle.terms.specs.inner.Values.{difference_words, Roomy}
use Rattle.judge.specs.inner.Stages.{Labelled}

-- two new slices are room for the differences of a tape
pub new_room : (tape n : ℕ) → tape ≤ difference_words * n → Roomy tape (replicate n 0) (replicate n zero_difference)
new_room tape n h = record { for_atoms = rw (length-replicate {A = ℕ} n 0) h; for_differences = rw (length-replicate {A = Difference} n zero_difference) h }

-- differences, with times that are all 0 and a cycle room
pub labelled_given : {labels cycle : List ℕ} {ds : List Difference} → Labelled labels ds → cycle_room ≤ length cycle → Given ds labels labels (replicate term_places 0) cycle
labelled_given w h =
    record {
      slices = record { few = w.few; named = λ j l. let s = w.small j l in (s.x-small, s.y-small) };
      keys_length = w.labels_length;
      labels_length = w.labels_length;
      times = length-replicate {A = ℕ} term_places 0;
      zeros = zeros term_places;
      places = h;
    }
