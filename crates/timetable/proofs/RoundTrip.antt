-- What is written from bitmaps and times is a table, and each time is read back from it.
use Prim.Native.Nat.{ℕ, zero, suc, ◌+◌, ◌≤◌, ◌<◌}
use mathlib.Core.Path.{◌≡◌, refl, ap, ◌∙◌}
use mathlib.Core.Bool.{Bool, true, false}
use mathlib.Core.List.{List, [], ◌∷◌}
use native.Mathlib.Omega.{arith}
use native.Mathlib.Nat.{add-zero, zero-add}
use borrow.Author.Tests.{eq-eqb, ne_eqb, le-leb}
use lib.Dec.{eqb}
use lib.ListN.{length}
use Rattle.basics.specs.Bools.{pick}
use Rattle.basics.specs.inner.Bitmaps.{is_marked, marks, marked_from}
use Rattle.faults.specs.Answer.{got, refused}
use Rattle.faults.specs.Limits.{last_atom, last_term, table_room}
use Rattle.faults.specs.inner.Places.{atom_places, term_places}
use Rattle.timetable.specs.Table.{Content, records_of, table_of, latest, times_fit, names_of, within}
use Rattle.timetable.specs.Times.{time_among, time_of}
use Rattle.timetable.specs.inner.Given.{time_at, given, Timely}
use Rattle.timetable.proofs.Marks.{marked_ascend}
use Rattle.timetable.proofs.Bounds.{few, names-few, is_within, from-within}
use Rattle.timetable.proofs.Writing.{length-table}
use Rattle.timetable.proofs.Content.{read_back}

-- ---- what is written is within the bounds

names_recorded : (names : List ℕ) (time : ℕ → ℕ) → names_of (records_of names time) ≡ names
unfolding records_of
names_recorded [] time = refl
names_recorded (u ∷ names) time = ap (λ (l : List ℕ). u ∷ l) (names_recorded names time)

marks-in_time : (i : ℕ) (bs : List ℕ) (time : ℕ → ℕ) → ((k : ℕ) → is_marked bs k ≡ true → time (i + k) ≤ latest)
    → times_fit (records_of (marks i bs) time) ≡ true
unfolding times_fit records_of marks
marks-in_time i [] time h = refl
marks-in_time i (b ∷ bs) time h =
    go (eqb b 1) (λ e. rw add-zero at (h 0 e)) (marks-in_time (i + 1) bs time (λ k e. later k (h (suc k) e)))
  where
    later : (k : ℕ) → time (i + suc k) ≤ latest → time (i + 1 + k) ≤ latest
    later k l = let e : i + suc k ≡ i + 1 + k = omega arith in rw e at l

    go : (t : Bool) → (t ≡ true → time i ≤ latest) → times_fit (records_of (marks (i + 1) bs) time) ≡ true
        → times_fit (records_of (pick t (i ∷ marks (i + 1) bs) (marks (i + 1) bs)) time) ≡ true
    go true l r = rw (le-leb (time i) latest (l refl)) r
    go false l r = r

-- marked names with timely times, and marked atoms, are a content within the bounds
given-within : (names times atoms : List ℕ) → Timely names times → length names ≤ term_places → length atoms ≤ atom_places
    → within (given names times atoms) ≡ true
unfolding given marked_from
given-within names times atoms q n m =
    from-within (given names times atoms)
    (record {
      names = rw names_recorded (marked_ascend names 0 last_term n (omega arith));
      times = marks-in_time 0 names (time_at times) (λ k e. rw zero-add (q.each k e));
      atoms = marked_ascend atoms 1 last_atom m (omega arith);
    })

-- a table is at most 24,592 bytes long
pub longest : (c : Content) → within c ≡ true → length (table_of c) ≤ table_room
longest c h =
    let g = is_within c h in
    omega (
      arith,
      length-table c,
      names-few c h,
      few 1 last_atom c.atoms (omega arith) g.atoms,
    )

-- ---- each time is read back

below_none : (u i : ℕ) (bs : List ℕ) (time : ℕ → ℕ) → u < i → time_among u (records_of (marks i bs) time) ≡ refused 21 u
unfolding time_among records_of marks
below_none u i [] time h = refl
below_none u i (b ∷ bs) time h = go (eqb b 1) (below_none u (i + 1) bs time (omega arith))
  where
    go : (t : Bool) → time_among u (records_of (marks (i + 1) bs) time) ≡ refused 21 u
        → time_among u (records_of (pick t (i ∷ marks (i + 1) bs) (marks (i + 1) bs)) time) ≡ refused 21 u
    go true r = rw (ne_eqb i u (λ e. omega arith)) r
    go false r = r

-- the time of a number among the records of the marked ones: its own if it is marked, else 21
time-marked : (k i : ℕ) (bs : List ℕ) (time : ℕ → ℕ)
    → time_among (i + k) (records_of (marks i bs) time) ≡ pick (is_marked bs k) (got (time (i + k))) (refused 21 (i + k))
unfolding time_among records_of marks
time-marked k i [] time = refl
time-marked zero i (b ∷ bs) time = rw add-zero (go (eqb b 1) (below_none i (i + 1) bs time (omega arith)))
  where
    go : (t : Bool) → time_among i (records_of (marks (i + 1) bs) time) ≡ refused 21 i
        → time_among i (records_of (pick t (i ∷ marks (i + 1) bs) (marks (i + 1) bs)) time) ≡ pick t (got (time i)) (refused 21 i)
    go true r = rw (eq-eqb i i refl)
    go false r = r
time-marked (suc k) i (b ∷ bs) time =
    let e : i + suc k ≡ i + 1 + k = omega arith in
    rw e (go (eqb b 1) (time-marked k (i + 1) bs time))
  where
    go : (t : Bool)
        → time_among (i + 1 + k) (records_of (marks (i + 1) bs) time) ≡ pick (is_marked bs k) (got (time (i + 1 + k))) (refused 21 (i + 1 + k))
        → time_among (i + 1 + k) (records_of (pick t (i ∷ marks (i + 1) bs) (marks (i + 1) bs)) time)
        ≡ pick (is_marked bs k) (got (time (i + 1 + k))) (refused 21 (i + 1 + k))
    go true r = rw (ne_eqb i (i + 1 + k) (λ e. omega arith)) r
    go false r = r

-- a table read is its content searched
pub read_table : (c : Content) → within c ≡ true → (u : ℕ) → time_of (table_of c) u ≡ time_among u c.records
unfolding time_of
read_table c h u = let r = read_back c h in rw r.is (ap (λ (d : Content). time_among u d.records) r.content)

-- the round trip: from a written table the time of each marked name is read back, and for every other number 21
pub round_trip : (names times atoms : List ℕ) → Timely names times → length names ≤ term_places → length atoms ≤ atom_places
    → (u : ℕ) → time_of (table_of (given names times atoms)) u ≡ pick (is_marked names u) (got (time_at times u)) (refused 21 u)
unfolding given marked_from
round_trip names times atoms q n m u =
    read_table (given names times atoms) (given-within names times atoms q n m) u
    ∙ (rw zero-add at (time-marked u 0 names (time_at times)))
