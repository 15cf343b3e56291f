-- 10, or 11 or the timetable: what the cycle or the earliest times of the differences gathered say of the plan.
use Prim.Native.Nat.{ℕ, ◌<◌}
use mathlib.Core.Path.{◌≡◌, refl, ap, ◌∙◌}
use mathlib.Core.Bool.{◌||◌}
use mathlib.Core.List.{List, [], ◌∷◌, map}
use native.Mathlib.Omega.{arith}
use lib.ListN.{length, length-map}
use lib.Seq.{take-length}
use Rattle.faults.specs.inner.Places.{term_places}
use Rattle.basics.specs.Lists.{among, All}
use Rattle.basics.specs.inner.Bitmaps.{marked_from}
use Rattle.aspif.specs.Statements.{Line}
use Rattle.diffs.specs.Diff.{Diff, Earliest}
use Rattle.diffs.specs.inner.Answer.{cell, diff_at, Among, Shown, Decided}
use Rattle.diffs.specs.declared.Difference.{Difference}
use Rattle.faults.specs.declared.Refusal.{Refusal}
use Rattle.std.specs.Prelude.{Option, Some, None, Result}
use Rattle.timetable.specs.inner.Given.{time_at}
use Rattle.judge.specs.Plan.{Rooms, Ready, Held, InForce}
use Rattle.judge.specs.Judged.{accepting, showing, table, Each, NegativeCycle, Timed}
use Rattle.judge.specs.Values.{rooms}
use Rattle.terms.specs.inner.Marks.{MarksThose, x_numbers, y_numbers}
use Rattle.terms.proofs.Naming.{names-are}
use Rattle.judge.specs.inner.Stages.{stated, Stating, Candidate, ready_at, in_force, Settled, cycle_shown, table_written, as_judged}
use Rattle.judge.proofs.Bitmaps.{marked-atoms}
use Rattle.judge.proofs.Forced.{label_held, among_force, force_among}
use Rattle.judge.specs.Judged as judged

-- ---- what was decided

module _ (ds : List Difference) (labels t cycle cycle' : List ℕ) where
  -- the times are the earliest, and the cycle room is as it was
  pub record Quiet : Type 0 where
    pub earliest : Earliest (Among (length ds) (diff_at ds)) (cell t)
    pub kept : cycle' ≡ cycle

  -- times were found
  pub times_of : (o : Option ℕ) → Decided o (length ds) (diff_at ds) labels labels t cycle cycle' → o ≡ None → Quiet
  times_of o (Decided.timed e q k) f = record { earliest = q; kept = k }
  times_of o (Decided.cyclic n e s) f = let z : ◌≡◌ {A = ℕ} 0 1 = cc (e, f) in absurd (omega arith)

  -- a cycle was found
  pub cycle_of : (o : Option ℕ) (k : ℕ) → Decided o (length ds) (diff_at ds) labels labels t cycle cycle' → o ≡ Some k → Shown (length ds) (diff_at ds) labels labels cycle cycle' k
  cycle_of o k (Decided.timed e q g) f = let z : ◌≡◌ {A = ℕ} 0 1 = cc (e, f) in absurd (omega arith)
  cycle_of o k (Decided.cyclic n e s) f = let g : n ≡ k = cc (e, f) in rw g at s

module _ (ds : List Difference) (labels names x room cycle t cycle' : List ℕ) (o : Option ℕ) (d : Decided o (length ds) (diff_at ds) labels labels t cycle cycle') where
  -- the earliest times, and what was written of them
  pub settled-times : o ≡ None → (v : Result ℕ Refusal) (room' : List ℕ)
      → ((cs : List ℕ) → as_judged v room' cs ≡ accepting (rooms room cs) (table (marked_from 0 names) (time_at t) (marked_from 1 x)))
      → Settled ds labels names x (rooms room cycle) (as_judged v room' cycle')
  settled-times e v room' w =
      let q = times_of ds labels t cycle cycle' o d e in
      table_written (cell t) q.earliest (ap (λ (cs : List ℕ). as_judged v room' cs) q.kept ∙ w cycle)

  -- the cycle of k differences
  pub settled-cycle : (k : ℕ) → o ≡ Some k → Settled ds labels names x (rooms room cycle) (record { verdict = judged.refusal 10 k; rooms = rooms room cycle' })
  settled-cycle k e = cycle_shown k cycle' (cycle_of ds labels t cycle cycle' o k d e) refl

-- ---- what it says of the plan

-- the earliest times of a set are those of the same set
earliest-same : (S T : Diff → Type 0) (u : ℕ → ℕ) → ((d : Diff) → S d → T d) → ((d : Diff) → T d → S d) → Earliest S u → Earliest T u
earliest-same S T u f g e = record { keeps = λ d q. e.keeps d (g d q); least = λ v k n. e.least v (λ d q. k d (f d q)) n }

-- each label holds and says its difference
each-held : (q : Ready) (n : ℕ) (f : ℕ → ℕ) (c : ℕ → Diff) → ((i : ℕ) → i < n → Held q (f i) (c i)) → (is : List ℕ) → All (λ i. i < n) is → Each q (map f is) (map c is)
each-held q n f c h [] w = tt
each-held q n f c h (i ∷ is) w = (h i w.0, each-held q n f c h is w.1)

-- what is shown is a negative cycle of the plan
shown-cycle : (q : Ready) (n : ℕ) (c : ℕ → Diff) (labels room room' : List ℕ) (k : ℕ) → ((i : ℕ) → i < n → Held q (cell labels i) (c i))
    → (s : Shown n c labels labels room room' k) → NegativeCycle q (map (cell labels) s.numbers)
shown-cycle q n c labels room room' k h s =
    record {
      ds = map c s.numbers;
      each = each-held q n (cell labels) c h s.numbers s.within;
      cycle = s.negative.cycle;
      below = s.negative.below;
      least = s.least;
    }

-- the list stands in the cycle room
shown-room : (b : Rooms) (n : ℕ) (c : ℕ → Diff) (labels cycle : List ℕ) (k : ℕ) (s : Shown n c labels labels b.cycle cycle k)
    → record { verdict = judged.refusal 10 k; rooms = record { room = b.room; cycle = cycle } } ≡ showing b (map (cell labels) s.numbers)
shown-room b n c labels cycle k s = rw (length-map s.numbers (cell labels), s.shown, s.count)

module _ (ls : List Line) (atoms : List ℕ) (ds : List Difference) (h : Stating ls atoms ds)
    (x : List ℕ) (cand : Candidate x) (labels : List ℕ) (gathered : List Difference) (alike : length labels ≡ length gathered)
    (g : stated labels gathered ≡ in_force x (stated atoms ds))
    (names : List ℕ) (e : MarksThose term_places names (λ i. among i (x_numbers ds) || among i (y_numbers ds))) (b : Rooms) (r : judged.Result) where
  -- 10, 11 or the timetable of the plan
  pub settled-timed : Settled gathered labels names x b r → Timed (ready_at ls x) b r
  unfolding marked_from
  settled-timed (cycle_shown j cycle s q) =
      judged.impossible (map (cell labels) s.numbers)
      (shown-cycle (ready_at ls x) (length gathered) _ _ _ _ _ (label_held ls atoms ds h x labels gathered alike g) s)
      (q ∙ shown-room b (length gathered) _ _ _ _ s)
  settled-timed (table_written u t q) =
      judged.possible u
      (earliest-same (Among (length gathered) _) (InForce (ready_at ls x)) u
      (among_force ls atoms ds h x labels gathered alike g)
      (force_among ls atoms ds h x labels gathered alike g) t)
      (marked_from 0 names) (names-are ls atoms ds (length atoms) h.stated names h.small (omega (arith, h.alike)) (rw (← h.alike, take-length) e)) (rw (marked-atoms x cand.none) at q)
