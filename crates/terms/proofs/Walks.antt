-- The walk over all lines of the tape: what holds before each turn, at the start, and at the end.
use Prim.Native.Nat.{ℕ, ◌+◌, ◌-◌, ◌*◌, ◌≤◌, ◌<◌}
use mathlib.Core.Path.{◌≡◌, sym, ap, ◌∙◌}
use mathlib.Core.List.{List, append-nil}
use mathlib.Core.Bool.{Bool, false}
use native.Mathlib.Omega.{arith}
use lib.ListN.{length, set, replicate}
use Rattle.std.specs.Prelude.{Ok, Err, None, Some}
use Rattle.std.proofs.Math.Nat.{sub-zero}
use Rattle.faults.specs.inner.Places.{atom_places, term_places, element_places}
use Rattle.faults.specs.Answer.{got, bind}
use Rattle.faults.specs.declared.AtomNo.{AtomNo}
use Rattle.faults.specs.declared.Refusal.{Refusal}
use Rattle.aspif.specs.inner.Words.{after, lines_from, lines_of}
use Rattle.aspif.specs.inner.Kept.{LineOn, Ahead}
use Rattle.aspif.proofs.Walking.{ahead-next, after-inside, lines_next}
use Rattle.diffs.specs.declared.Difference.{Difference}
use Rattle.terms.specs.Reasons.{differences}
use Rattle.terms.specs.inner.Tables.{env_of, walk, held_at, tabulated, gather}
use Rattle.terms.specs.inner.Values.{difference_words, as_differences, Roomy, Within, Turn, as_turn, Turned}
use Rattle.terms.specs.Terms.{more}
use Rattle.terms.proofs.Turns.{gather_none, gather-more, others, this}
use Rattle.terms.proofs.Known.{start_is}

-- slices that keep their lengths keep their room
pub room-kept : {as' as'' : List ℕ} {ds ds' : List Difference} → length as'' ≡ length as' → length ds' ≡ length ds → {w : ℕ} → Roomy w as' ds → Roomy w as'' ds'
room-kept h k r = record { for_atoms = omega (arith, r.for_atoms); for_differences = omega (arith, r.for_differences) }

-- ---- what holds before each turn

pub record Underway (text t : List ℕ) (n p i m : ℕ) (ts es : List ℕ) (ss : List Bool) (as' : List ℕ) (ds : List Difference) : Type 0 where
  pub answer : gather m (held_at as' ds) (walk text (env_of t ts es ss) (lines_from t p (n - i))) ≡ differences text (lines_of t n)
  pub ahead : Ahead t p (n - i)
  pub counted : difference_words * m ≤ p
  pub within : p ≤ length t

pub at_first : (text t : List ℕ) (n : ℕ) (as' : List ℕ) (ds : List Difference) → Ahead t 0 n
    → Underway text t n 0 0 0 (replicate {A = ℕ} term_places 0) (replicate {A = ℕ} element_places 0) (replicate {A = Bool} atom_places false) as' ds
at_first text t n as' ds q =
    record {
      answer = gather_none (held_at as' ds) _ ∙ rw (sub-zero n) (start_is text t term_places element_places atom_places (lines_of t n));
      ahead = rw (sub-zero n) q;
      counted = omega arith;
      within = omega arith;
    }

module _ {text t : List ℕ} {n p i m : ℕ} {ts es as' : List ℕ} {ss : List Bool} {ds : List Difference} (h : i < n) (u : Underway text t n p i m ts es ss as' ds) where
  -- the line is within the tape
  pub at_line : LineOn t p
  at_line = (ahead-next t p (n - i) (omega arith) u.ahead).0

  behind : Ahead t (after t p) (n - (i + 1))
  behind =
      let d : n - i - 1 ≡ n - (i + 1) = omega arith in
      rw d at (ahead-next t p (n - i) (omega arith) u.ahead).1

module _ {text t : List ℕ} {n p i m : ℕ} {ts es as' : List ℕ} {ss : List Bool} {ds : List Difference} (h : i < n) (u : Underway text t n p i m ts es ss as' ds)
    {s : Turn} {ts' es' : List ℕ} {ss' : List Bool} (took : Turned text t p ts es ss s ts' es' ss') where
  turned : gather m (held_at as' ds) (bind (as_turn s) (λ d. more d (walk text (env_of t ts' es' ss') (lines_from t (after t p) (n - (i + 1)))))) ≡ differences text (lines_of t n)
  turned =
      let left : 0 < n - i = omega arith in
      let d : n - i - 1 ≡ n - (i + 1) = omega arith in
      ap (gather m (held_at as' ds)) (took.goes (lines_from t (after t p) (n - (i + 1)))) ∙ (rw (lines_next t p (n - i) left, d) at u.answer)

  -- a refusal is the answer
  pub at_refusal : (x : Refusal) → s ≡ Err x → as_differences (Err x) as' ds ≡ differences text (lines_of t n)
  unfolding gather
  at_refusal x e = rw e at turned

  module _ (next : ℕ) (en : next ≡ after t p) where
    -- a line that states no difference
    pub at_none : s ≡ Ok None → Underway text t n next (i + 1) m ts' es' ss' as' ds
    at_none e =
        record {
          answer = rw en (rw e at turned);
          ahead = rw en (behind h u);
          counted = omega (arith, u.counted, after-inside (at_line h u));
          within = rw en (after-inside (at_line h u));
        }

    -- a line that states one: there is room for it
    module _ (a : AtomNo) (d : Difference) (e : s ≡ Ok (Some (a, d))) where
      words : p + difference_words ≤ after t p
      words = rw e at took.lasts

      module _ (room : Roomy (length t) as' ds) where
        pub in-atoms : m < length as'
        in-atoms = omega (arith, words, u.counted, room.for_atoms, after-inside (at_line h u))

        pub in_found : m < length ds
        in_found = omega (arith, words, u.counted, room.for_differences, after-inside (at_line h u))

        pub at_stated : Underway text t n next (i + 1) (m + 1) ts' es' ss' (set as' m a.0) (set ds m d)
        at_stated =
            record {
              answer = rw en (gather-more m (held_at as' ds) _ _ (λ j k. others as' ds m a.0 d in-atoms in_found j (λ z. omega arith)) (this as' ds m a.0 d in-atoms in_found) _ ∙ rw e at turned);
              ahead = rw en (behind h u);
              counted = omega (arith, words, u.counted);
              within = rw en (after-inside (at_line h u));
            }

pub at_last : (text t : List ℕ) (n p i m : ℕ) (ts es : List ℕ) (ss : List Bool) (as' : List ℕ) (ds : List Difference) → n ≤ i → Underway text t n p i m ts es ss as' ds
    → got (tabulated m (held_at as' ds)) ≡ differences text (lines_of t n)
unfolding gather walk lines_from
at_last text t n p i m ts es ss as' ds h u = let e : n - i ≡ 0 = omega arith in sym (ap got (append-nil _)) ∙ (rw e at u.answer)

-- what was found stands within the slices
pub at_end : {text t : List ℕ} {n p i m : ℕ} {ts es as' : List ℕ} {ss : List Bool} {ds : List Difference} → Underway text t n p i m ts es ss as' ds
    → Roomy (length t) as' ds → Within m as' ds
at_end u r = record { in_atoms = omega (arith, u.within, u.counted, r.for_atoms); in_differences = omega (arith, u.within, u.counted, r.for_differences) }
