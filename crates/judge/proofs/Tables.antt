-- The timetable of a readable plan: no time is too late, so it is never 11; it is within the bounds of a timetable, fits the room and reads back. Assumes nothing.
use Prim.Native.Nat.{ℕ, ◌+◌, ◌≤◌, ◌<◌}
use mathlib.Core.Path.{◌≡◌, refl, sym, ap, ◌∙◌}
use mathlib.Core.Bool.{Bool, true, false}
use mathlib.Core.List.{List, [], ◌∷◌}
use mathlib.Core.Logic.{◌⊎◌, inl, inr}
use native.Mathlib.Omega.{arith}
use borrow.Author.Tests.{eqb-true, eqb-false, eq-eqb, ne_eqb, le-leb, le-ltb}
use lib.Dec.{eqb}
use lib.ListN.{length, take}
use lib.Seq.{take-append_seam}
use Rattle.faults.specs.inner.Places.{term_places}
use Rattle.faults.specs.Answer.{got, refused}
use Rattle.basics.specs.Bools.{pick}
use Rattle.basics.specs.Lists.{among, All, Ascending}
use Rattle.aspif.specs.inner.Kept.{AllInRange}
use Rattle.aspif.proofs.Kept.{statements-small}
use Rattle.aspif.proofs.Candidates.{AscendingFrom, candidate-ascending}
use Rattle.diffs.specs.Diff.{Diff, Earliest}
use Rattle.diffs.proofs.Latest.{latest-time}
use Rattle.diffs.proofs.Names.{all_map}
use Rattle.terms.specs.Says.{Name, Names}
use Rattle.terms.specs.inner.Tables.{SmallDiff}
use Rattle.timetable.specs.Table.{Content, table_of, latest, ascends, times_fit, names_of, within, records_of}
use Rattle.faults.specs.Limits.{last_term, last_atom, largest_number}
use Rattle.timetable.specs.Times.{time_among, time_of}
use Rattle.timetable.proofs.Bounds.{from-within}
use Rattle.timetable.proofs.RoundTrip.{read_table}
use Rattle.judge.specs.Plan.{Asked, Rooms, Ready, readable, InForce}
use Rattle.judge.specs.Judged.{largest_time, over, in_time as timely, table}
use Rattle.judge.proofs.Small.{said_small, bound-low}
use Rattle.judge.proofs.Readable.{read}

-- ---- names, times and atoms within the bounds

-- names with their times, and atoms
abbrev pub content : List ℕ → (ℕ → ℕ) → List ℕ → Content
content ns u cs = record { records = records_of ns u; atoms = cs }

names_ascend : (low : ℕ) (ns : List ℕ) (u : ℕ → ℕ) → Ascending ns → All (λ n. n < term_places) ns → All (λ n. low ≤ n) ns
    → ascends low last_term (names_of (records_of ns u)) ≡ true
unfolding ascends records_of
names_ascend low [] u a b l = refl
names_ascend low (n ∷ ns) u a b l =
    rw (le-leb low n l.0, le-leb n last_term (omega (arith, b.0)))
    (names_ascend (n + 1) ns u a.1 b.1 (all_map (λ m. n < m) (λ m. n + 1 ≤ m) (λ m h. omega arith) ns a.0))

atoms_ascend : (low : ℕ) (cs : List ℕ) → AscendingFrom low cs → ascends (low + 1) last_atom cs ≡ true
unfolding ascends
atoms_ascend low [] h = refl
atoms_ascend low (c ∷ cs) h = rw (le-leb (low + 1) c (omega (arith, h.0)), le-leb c last_atom h.1) (atoms_ascend c cs h.2)

times-within : (ns : List ℕ) (u : ℕ → ℕ) → ((n : ℕ) → u n ≤ latest) → times_fit (records_of ns u) ≡ true
unfolding times_fit records_of
times-within [] u h = refl
times-within (n ∷ ns) u h = rw (le-leb (u n) latest (h n)) (times-within ns u h)

none-late : (ns : List ℕ) (u : ℕ → ℕ) → ((n : ℕ) → u n ≤ latest) → timely ns u ≡ got tt
unfolding timely
none-late [] u h = refl
none-late (n ∷ ns) u h = rw (le-ltb largest_time (u n) (omega (arith, h n))) (none-late ns u h)

-- the time of a number among records: its own if it is one of the names, else 21
among-records : (m : ℕ) (ns : List ℕ) (u : ℕ → ℕ) → time_among m (records_of ns u) ≡ pick (among m ns) (got (u m)) (refused 21 m)
unfolding time_among records_of
among-records m [] u = refl
among-records m (n ∷ ns) u = go (eqb m n) refl (among-records m ns u)
  where
    go : (t : Bool) → eqb m n ≡ t → time_among m (records_of ns u) ≡ pick (among m ns) (got (u m)) (refused 21 m)
        → time_among m (records_of (n ∷ ns) u) ≡ pick (among m (n ∷ ns)) (got (u m)) (refused 21 m)
    go true e r = let z : m ≡ n = eqb-true m n e in rw (eq-eqb n m (sym z), e, z)
    go false e r = rw (ne_eqb n m (λ p. eqb-false m n e (sym p)), e) r

module _ (a : Asked) (b : Rooms) (q : Ready) (e : readable a b ≡ got q) where
  lines-small : AllInRange q.lines
  lines-small = statements-small a.text q.lines (read a b q e).lines

  -- a difference in force is within the bounds
  pub in_force-small : (d : Diff) → InForce q d → SmallDiff d
  in_force-small d f = said_small q.lines lines-small f.atom d f.held.says

  -- a name is below 1,024
  pub name-small : (n : ℕ) → Name q.lines n → n < term_places
  name-small n h = go (said_small q.lines lines-small h.atom h.diff h.says) h.side
    where
      go : SmallDiff h.diff → ((h.diff.x ≡ n) ⊎ (h.diff.y ≡ n)) → n < term_places
      go s (inl p) = omega (arith, s.x-small)
      go s (inr p) = omega (arith, s.y-small)

  -- an earliest time is at most 1,023,000,000
  pub earliest-small : (u : ℕ → ℕ) → Earliest (InForce q) u → (n : ℕ) → u n ≤ latest
  earliest-small u h n =
      latest-time (InForce q) term_places largest_number (λ d f. let s = in_force-small d f in (s.x-small, s.y-small)) (λ d f. bound-low d (in_force-small d f)) u h n

  module _ (u : ℕ → ℕ) (h : Earliest (InForce q) u) (ns : List ℕ) (all : Names q.lines ns) where
    -- names, earliest times and atoms are within the bounds of a timetable
    pub content_within : within (content ns u q.atoms) ≡ true
    content_within =
        from-within (content ns u q.atoms)
        (record {
          names = names_ascend 0 ns u all.ascending (all_map (Name q.lines) (λ n. n < term_places) name-small ns all.only) (all_map (Name q.lines) (λ n. 0 ≤ n) (λ n i. omega arith) ns all.only);
          times = times-within ns u (earliest-small u h);
          atoms = atoms_ascend 0 q.atoms (candidate-ascending a.cand q.atoms (read a b q e).atoms);
        })

    -- the timetable is never 11
    pub table_got : table ns u q.atoms ≡ got (table_of (content ns u q.atoms))
    unfolding table
    table_got = rw (none-late ns u (earliest-small u h))

    -- and what is read from the room's first bytes is the time of a name, and 21 for every other number
    pub reads-back : (m : ℕ) → time_of (take (length (table_of (content ns u q.atoms))) (over (table_of (content ns u q.atoms)) b.room)) m ≡ pick (among m ns) (got (u m)) (refused 21 m)
    reads-back m =
        ap (λ (s : List ℕ). time_of s m) (take-append_seam (table_of (content ns u q.atoms)) _)
        ∙ read_table (content ns u q.atoms) content_within m
        ∙ among-records m ns u
