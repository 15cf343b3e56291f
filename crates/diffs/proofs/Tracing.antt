-- Following the parents as the code does: the numbers of the differences stand in a list l, the newest first, which is what w has from a place on.
use mathlib.Core.Path.{◌≡◌, refl, ap, subst, sym, ◌∙◌}
use mathlib.Core.List.{List, [], ◌∷◌, map}
use Prim.Native.Nat.{ℕ, zero, suc, ◌+◌, ◌-◌, ◌≤◌, ◌<◌}
use native.Mathlib.Omega.{arith}
use lib.ListN.{length, set, take, drop, length-take, length-drop, length-map}
use lib.Seq.{take_all, get_or-take}
use borrow.Rule.Slice.PartMut.{mid_of}
use Rattle.std.proofs.lemmas.List.{drop_all}
use Rattle.faults.specs.inner.Places.{term_places}
use Rattle.std.specs.Prelude.{All, Some, None}
use Rattle.basics.specs.Lists.{NotIn}
use Rattle.diffs.specs.Diff.{Diff, Path, NegCycle}
use Rattle.diffs.specs.inner.Answer.{cell, diff_at, Among}
use Rattle.diffs.specs.declared.Difference.{Difference}
use Rattle.diffs.specs.inner.Steps.{FoundPlace, Traced, Stuck}
use Rattle.diffs.proofs.Names.{ys_of}
use Rattle.diffs.proofs.Parents.{Back, begins, short, high, more, found}

drop-set : (w : List ℕ) (j e : ℕ) → j < length w → drop j (set w j e) ≡ e ∷ drop (suc j) w
drop-set [] j e h = let z : ⊥ = omega arith in absurd z
drop-set (x ∷ w) zero e h = refl
drop-set (x ∷ w) (suc j) e h = drop-set w j e (omega arith)

module _ (c : ℕ → Diff) where
  map-take : (k : ℕ) (l : List ℕ) → map c (take k l) ≡ take k (map c l)
  map-take zero l = refl
  map-take (suc k) [] = refl
  map-take (suc k) (i ∷ l) = ap (λ (r : List Diff). c i ∷ r) (map-take k l)

  front_at : (v a b : ℕ) (l : List ℕ) (k : ℕ) → k < length l → (c (cell l k)).y ≡ a → Path v (map c l) b → Path v (take (suc k) (map c l)) a
  front_at v a b [] k h e p = let z : ⊥ = omega arith in absurd z
  front_at v a b (i ∷ l) zero h e p = (p.0, e)
  front_at v a b (i ∷ l) (suc k) h e p = (p.0, front_at (c i).y a b l k (omega arith) e p.1)

  notin_at : (a : ℕ) (l : List ℕ) → ((k : ℕ) → k < length l → (c (cell l k)).y ≡ a → ⊥) → NotIn a (ys_of (map c l))
  notin_at a [] f = tt
  notin_at a (i ∷ l) f = (λ e. f 0 (omega arith) (sym e), notin_at a l (λ k h. f (suc k) (omega arith)))

-- the parents from `last` back to a are those of l
pub record Tracing (m n : ℕ) (c : ℕ → Diff) (last : ℕ) (p : List ℕ) (a : ℕ) (l : List ℕ) : Type 0 where
  pub st : Stuck m n c last p
  pub named : (j : ℕ) → j < m → ((c j).x < n) × ((c j).y < n)
  pub back : Back m c st.b 0 st.t (cell p) st.s st.inv n last named a (map c l)
  pub numbers : All (λ i. i < m) l

module _ (m n : ℕ) (c : ℕ → Diff) (last : ℕ) (p : List ℕ) where
  started : Stuck m n c last p → ((j : ℕ) → j < m → ((c j).x < n) × ((c j).y < n)) → Tracing m n c last p last []
  started st nm = record {
    st = st;
    named = nm;
    back = begins m c st.b 0 st.t (cell p) st.s st.inv n last nm st.name st.late;
    numbers = λ k d h. let z : ⊥ = omega arith in absurd z;
  }

  -- nothing stands in w yet
  pub started_at : (w : List ℕ) (k : ℕ) → length w ≤ k → Stuck m n c last p → ((j : ℕ) → j < m → ((c j).x < n) × ((c j).y < n)) → Tracing m n c last p last (drop k w)
  started_at w k h st nm = subst (λ (l : List ℕ). Tracing m n c last p last l) (sym (drop_all k w h)) (started st nm)

  module _ (a : ℕ) (l : List ℕ) (g : Tracing m n c last p a l) where
    -- a was seen at place k
    pub twice : (k : ℕ) → k < length l → (c (cell l k)).y ≡ a → NegCycle (Among m c) (map c (take (suc k) l))
    twice k h e =
        let st = g.st in
        subst (λ (ds : List Diff). NegCycle (Among m c) ds) (sym (map-take c (suc k) l))
        (found m c st.b 0 st.t (cell p) st.s st.inv n last g.named a (map c l) g.back
        (suc k) (omega arith) (omega (arith, length-map l c)) (front_at c a a last l k h e g.back.path))

    module _ (unseen : (k : ℕ) → k < length l → (c (cell l k)).y ≡ a → ⊥) where
      pub fewer : length l < n
      fewer =
          let st = g.st in
          omega (arith, length-map l c, short m c st.b 0 st.t (cell p) st.s st.inv n last g.named a (map c l) g.back (notin_at c a l unseen))

      pub parent : cell p a < m
      parent =
          let st = g.st in
          st.inv.index a (high m c st.b 0 st.t (cell p) st.s st.inv n last g.named a (map c l) g.back (notin_at c a l unseen))

      pub onward : Tracing m n c last p (c (cell p a)).x (cell p a ∷ l)
      onward =
          let st = g.st in
          record {
            st = st;
            named = g.named;
            back = more m c st.b 0 st.t (cell p) st.s st.inv n last g.named a (map c l) g.back (notin_at c a l unseen);
            numbers = numbers';
          }
        where
          numbers' : All (λ i. i < m) (cell p a ∷ l)
          numbers' zero d h = parent
          numbers' (suc k) d h = g.numbers k d (omega arith)

-- ---- l as what stands in w from place s on

module _ (ds : List Difference) (last : ℕ) (p w : List ℕ) (a s : ℕ) (long : length w ≡ term_places) (g : Tracing (length ds) term_places (diff_at ds) last p a (drop s w)) where
  -- w from place s on, as the code reads it
  abbrev read : List ℕ
  read = mid_of s (term_places - s) w

  read_is : read ≡ drop s w
  read_is = take_all (term_places - s) (drop s w) (omega (arith, length-drop s w))

  -- a name came twice: the walk up to behind its place
  pub walked : (q : ℕ) → FoundPlace ds read a (Some q) → Traced ds (mid_of s (s + q + 1 - s) w)
  walked q f =
      let h : FoundPlace ds (drop s w) a (Some q) = subst (λ (l : List ℕ). FoundPlace ds l a (Some q)) read_is f in
      let e : suc q ≡ s + q + 1 - s = omega arith in
      subst (λ (i : ℕ). Traced ds (mid_of s i w)) e
      (record {
        numbers = record {
          some = omega (arith, h.0, length-take (suc q) (drop s w));
          short = omega (arith, length-take (suc q) (drop s w), length-drop s w);
          numbers = λ k d j. let b : k < suc q = omega (arith, length-take (suc q) (drop s w)) in
              rw (get_or-take (suc q) (drop s w) k d b) (g.numbers k d (omega (arith, h.0)));
        };
        negative = twice (length ds) term_places (diff_at ds) last p a (drop s w) g q h.0 h.1;
      })

  module _ (f : FoundPlace ds read a None) where
    unseen : (k : ℕ) → k < length (drop s w) → (diff_at ds (cell (drop s w) k)).y ≡ a → ⊥
    unseen = subst (λ (l : List ℕ). FoundPlace ds l a None) read_is f

    pub room_left : s ≤ term_places → 0 < s
    room_left h = omega (arith, length-drop s w, fewer (length ds) term_places (diff_at ds) last p a (drop s w) g unseen)

    pub parent_at : cell p a < length ds
    parent_at = parent (length ds) term_places (diff_at ds) last p a (drop s w) g unseen

    pub onward_at : 0 < s → s ≤ term_places → Tracing (length ds) term_places (diff_at ds) last p (diff_at ds (cell p a)).x (drop (s - 1) (set w (s - 1) (cell p a)))
    onward_at h r =
        let e : suc (s - 1) ≡ s = omega arith in
        subst (λ (l : List ℕ). Tracing (length ds) term_places (diff_at ds) last p (diff_at ds (cell p a)).x l)
        (sym (drop-set w (s - 1) (cell p a) (omega arith) ∙ ap (λ (i : ℕ). cell p a ∷ drop i w) e))
        (onward (length ds) term_places (diff_at ds) last p a (drop s w) g unseen)
