-- Plans whose atoms 2 and 3 say recv - send ≤ k and send - recv ≤ - j, of the terms 3 (send) and 4 (recv): their names, earliest times and negative cycles.
-- Assumes nothing.
use Prim.Native.Nat.{ℕ, ◌≤◌, ◌<◌}
use mathlib.Core.Path.{◌≡◌, refl, sym, ap, subst, ◌∙◌}
use mathlib.Core.Bool.{Bool, true, false, true≢false}
use mathlib.Core.List.{List, [], ◌∷◌}
use mathlib.Core.Logic.{◌⊎◌, inl, inr, ⊎_elim}
use native.Mathlib.Omega.{arith}
use borrow.Author.Tests.{eqb-true}
use lib.Dec.{eqb, lit<}
use lib.IntN.{ℤ, pos, neg_ℤ, ◌+ℤ◌}
use lib.Signed.{◌<ℤ◌}
use Rattle.faults.specs.Answer.{got}
use Rattle.basics.specs.Bools.{pick}
use Rattle.basics.specs.Lists.{among, Some}
use Rattle.diffs.specs.Diff.{Diff, Keeps, KeepsAll, whole, Earliest, Sum, Cycle, LeastFirst}
use Rattle.diffs.proofs.Cycles.{exclusive}
use Rattle.diffs.proofs.EarliestTimes.{earliest_unique}
use Rattle.diffs.proofs.Integers.{up_lt, add-up, neg_up, keeps-holds, holds-keeps}
use Rattle.terms.specs.Says.{Name, Names}
use Rattle.terms.specs.Terms.{Stated}
use Rattle.terms.specs.inner.Tables.{States}
use Rattle.terms.proofs.Stating.{says-listed, listed-says}
use Rattle.timetable.specs.Table.{table_of, records_of}
use Rattle.judge.specs.Plan.{Rooms, Ready, Held, InForce}
use Rattle.judge.specs.Judged.{Result, accepting, Each, NegativeCycle}
use Rattle.judge.specs.Starred.{send_recv}
use Rattle.judge.proofs.Ascent.{names_unique}
use Rattle.judge.proofs.Demand2.{Table}
use Rattle.judge.proofs.Tables.{content}
use Rattle.judge.proofs.Texts.{two, three, stated}

-- recv has the time j, every other term 0
abbrev pub times : (j : ℕ) → ℕ → ℕ
times j n = pick (eqb n 4) j 0

module _ (q : Ready) (k j : ℕ) (said : States q.lines (stated k j)) where
  -- an atom that says something is 2 or 3
  which : (a : ℕ) (d : Diff) → Some (λ (s : Stated). s ≡ record { atom = a; says = d }) (stated k j) → ((a ≡ 2) × (d ≡ two k)) ⊎ ((a ≡ 3) × (d ≡ three j))
  which a d (inl e) = inl (sym (ap (λ (s : Stated). s.atom) e), sym (ap (λ (s : Stated). s.says) e))
  which a d (inr (inl e)) = inr (sym (ap (λ (s : Stated). s.atom) e), sym (ap (λ (s : Stated). s.says) e))
  which a d (inr (inr e)) = absurd e

  held_which : (a : ℕ) (d : Diff) → Held q a d → ((a ≡ 2) × (d ≡ two k)) ⊎ ((a ≡ 3) × (d ≡ three j))
  held_which a d h = which a d (says-listed q.lines (stated k j) said a d h.says)

  -- where 2 is in the candidate, it holds
  pub held_two : among 2 q.atoms ≡ true → Held q 2 (two k)
  held_two e = record { holds = e; says = listed-says q.lines (stated k j) said 2 (two k) (inl refl) }

  -- and so 3
  pub held_three : among 3 q.atoms ≡ true → Held q 3 (three j)
  held_three e = record { holds = e; says = listed-says q.lines (stated k j) said 3 (three j) (inr (inl refl)) }

  -- ---- names

  name-recv : Name q.lines 4
  name-recv = record { atom = 2; diff = two k; says = listed-says q.lines (stated k j) said 2 (two k) (inl refl); side = inl refl }

  name-send : Name q.lines 3
  name-send = record { atom = 2; diff = two k; says = listed-says q.lines (stated k j) said 2 (two k) (inl refl); side = inr refl }

  side_in : (n : ℕ) (a : ℕ) (d : Diff) → ((a ≡ 2) × (d ≡ two k)) ⊎ ((a ≡ 3) × (d ≡ three j)) → ((d.x ≡ n) ⊎ (d.y ≡ n)) → among n (3 ∷ 4 ∷ []) ≡ true
  side_in n a d (inl p) (inl s) = subst (λ (m : ℕ). among m (3 ∷ 4 ∷ []) ≡ true) (sym (ap (λ (e : Diff). e.x) p.1) ∙ s) refl
  side_in n a d (inl p) (inr s) = subst (λ (m : ℕ). among m (3 ∷ 4 ∷ []) ≡ true) (sym (ap (λ (e : Diff). e.y) p.1) ∙ s) refl
  side_in n a d (inr p) (inl s) = subst (λ (m : ℕ). among m (3 ∷ 4 ∷ []) ≡ true) (sym (ap (λ (e : Diff). e.x) p.1) ∙ s) refl
  side_in n a d (inr p) (inr s) = subst (λ (m : ℕ). among m (3 ∷ 4 ∷ []) ≡ true) (sym (ap (λ (e : Diff). e.y) p.1) ∙ s) refl

  -- the names are send and recv
  pub two-names : Names q.lines (3 ∷ 4 ∷ [])
  two-names = record {
    ascending = ((lit< tt, tt), (tt, tt));
    all = λ n h. side_in n h.atom h.diff (which h.atom h.diff (says-listed q.lines (stated k j) said h.atom h.diff h.says)) h.side;
    only = (name-send, (name-recv, tt));
  }

  -- ---- times

  module _ (holds : among 3 q.atoms ≡ true) (fits : (among 2 q.atoms ≡ false) ⊎ (j ≤ k)) where
    keep_two : among 2 q.atoms ≡ true → Keeps (whole (times j)) (two k)
    keep_two e = ⊎_elim (λ f. absurd (true≢false (sym e ∙ f))) (λ l. holds-keeps (times j) (two k) (omega arith)) fits

    keep : (a : ℕ) (d : Diff) → among a q.atoms ≡ true → ((a ≡ 2) × (d ≡ two k)) ⊎ ((a ≡ 3) × (d ≡ three j)) → Keeps (whole (times j)) d
    keep a d e (inl p) = subst (Keeps (whole (times j))) (sym p.1) (keep_two (ap (λ (c : ℕ). among c q.atoms) (sym p.0) ∙ e))
    keep a d e (inr p) = subst (Keeps (whole (times j))) (sym p.1) (holds-keeps (times j) (three j) (omega (arith, neg_up (pos j))))

    early : (v : ℕ → ℕ) → KeepsAll (whole v) (InForce q) → (n : ℕ) → times j n ≤ v n
    early v f n = go (eqb n 4) refl
      where
        go : (t : Bool) → eqb n 4 ≡ t → pick t j 0 ≤ v n
        go true e =
            let p : n ≡ 4 = eqb-true n 4 e in
            let g = keeps-holds v (three j) (f (three j) (record { atom = 3; held = held_three holds })) in
            omega (arith, g, ap v p, neg_up (pos j))
        go false e = omega arith

    -- the earliest times are 0 for send and j for recv
    pub two-times : Earliest (InForce q) (times j)
    two-times = record {
      keeps = λ d f. keep f.atom d f.held.holds (held_which f.atom d f.held);
      least = early;
    }

    -- and so the timetable has these
    pub two-table : (b : Rooms) (r : Result) → Table q b r → r ≡ accepting b (got (table_of (send_recv 0 j q.atoms)))
    unfolding records_of
    two-table b r t =
        let u = earliest_unique (InForce q) t.times (times j) t.earliest two-times in
        t.is
        ∙ ap (λ (ns : List ℕ). accepting b (got (table_of (content ns t.times q.atoms)))) (names_unique q.lines t.names (3 ∷ 4 ∷ []) t.all two-names)
        ∙ rw (u 3, u 4)

  -- ---- a negative cycle

  module _ (holds-two : among 2 q.atoms ≡ true) (holds-three : among 3 q.atoms ≡ true) (more : k < j) where
    below : Sum (two k ∷ three j ∷ []) <ℤ pos 0
    below =
        up_lt (omega (arith, add-up (pos k) (neg_ℤ (pos j) +ℤ pos 0), add-up (neg_ℤ (pos j)) (pos 0), neg_up (pos j)))

    -- no whole-number times keep both
    pub no_two_times : (t : ℕ → ℤ) → KeepsAll t (InForce q) → ⊥
    no_two_times t h =
        exclusive (InForce q) (two k ∷ three j ∷ []) t
        (record {
          members = (record { atom = 2; held = held_two holds-two }, (record { atom = 3; held = held_three holds-three }, tt));
          cycle = record { some = omega arith; start = 4; closed = (refl, (refl, refl)); different = ((λ e. omega (arith, e), tt), (tt, tt)) };
          below = below;
        })
        h

    -- the two names of a difference that holds
    sides : (a : ℕ) (d : Diff) → Held q a d → ((d.x ≡ 4) × (d.y ≡ 3)) ⊎ ((d.x ≡ 3) × (d.y ≡ 4))
    sides a d h =
        ⊎_elim (λ p. inl (ap (λ (e : Diff). e.x) p.1, ap (λ (e : Diff). e.y) p.1))
        (λ p. inr (ap (λ (e : Diff). e.x) p.1, ap (λ (e : Diff). e.y) p.1))
        (held_which a d h)

    name_of : (a : ℕ) (d : Diff) → Held q a d → (3 ≤ d.x) × (d.x ≤ 4)
    name_of a d h = ⊎_elim (λ p. (omega (arith, p), omega (arith, p))) (λ p. (omega (arith, p), omega (arith, p))) (sides a d h)

    differ : (a : ℕ) (d : Diff) → Held q a d → d.x ≡ d.y → ⊥
    differ a d h e = ⊎_elim (λ p. omega (arith, p, e)) (λ p. omega (arith, p, e)) (sides a d h)

    pair : (a b : ℕ) (d e : Diff) → ((a ≡ 2) × (d ≡ two k)) ⊎ ((a ≡ 3) × (d ≡ three j)) → ((b ≡ 2) × (e ≡ two k)) ⊎ ((b ≡ 3) × (e ≡ three j))
        → (d.x ≡ e.x → ⊥) → a ≤ b → a ∷ b ∷ [] ≡ 2 ∷ 3 ∷ []
    pair a b d e (inl p) (inl s) n l = absurd (n (ap (λ (c : Diff). c.x) (p.1 ∙ sym s.1)))
    pair a b d e (inl p) (inr s) n l = rw (p.0, s.0)
    pair a b d e (inr p) (inl s) n l = absurd (omega (arith, p.0, s.0))
    pair a b d e (inr p) (inr s) n l = absurd (n (ap (λ (c : Diff). c.x) (p.1 ∙ sym s.1)))

    only : (cs : List ℕ) (ds : List Diff) → Each q cs ds → Cycle ds → Sum ds <ℤ pos 0 → LeastFirst cs → cs ≡ 2 ∷ 3 ∷ []
    only [] [] e c s l = absurd (omega (arith, c.some))
    only [] (d ∷ ds) e c s l = absurd e
    only (a ∷ cs) [] e c s l = absurd e
    only (a ∷ []) (d ∷ []) e c s l = absurd (differ a d e.0 (c.closed.0 ∙ sym c.closed.1))
    only (a ∷ []) (d ∷ f ∷ ds) e c s l = absurd e.1
    only (a ∷ b ∷ cs) (d ∷ []) e c s l = absurd e.1
    only (a ∷ b ∷ []) (d ∷ f ∷ []) e c s l = pair a b d f (held_which a d e.0) (held_which b f e.1.0) c.different.0.0 l.0
    only (a ∷ b ∷ []) (d ∷ f ∷ g ∷ ds) e c s l = absurd e.1.1
    only (a ∷ b ∷ o ∷ cs) (d ∷ f ∷ []) e c s l = absurd e.1.1
    only (a ∷ b ∷ o ∷ cs) (d ∷ f ∷ g ∷ ds) e c s l =
        let x = name_of a d e.0 in
        let y = name_of b f e.1.0 in
        let z = name_of o g e.1.1.0 in
        absurd (omega (arith, x, y, z, c.different.0.0, c.different.0.1.0, c.different.1.0.0))

    -- the only negative cycle is 2, 3
    pub two-cycle : (cs : List ℕ) → NegativeCycle q cs → cs ≡ 2 ∷ 3 ∷ []
    two-cycle cs n = only cs n.ds n.each n.cycle n.below n.least
