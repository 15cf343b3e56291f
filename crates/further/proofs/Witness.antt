-- Demand 3 applies: six pairs of texts, plans P and Q of docs/RULES.md and each with a further time rule send - recv ≤ -w, one pair for each thing that demand 3 says.
-- All hold for all rooms that are long enough, and all results that the judge's contract allows. Assumes nothing.
use Prim.Native.Nat.{ℕ, ◌≤◌}
use mathlib.Core.Path.{◌≡◌, refl, sym, ap, ◌∙◌}
use mathlib.Core.Bool.{Bool, true, false}
use mathlib.Core.Logic.{◌⊎◌, inl, inr, ⊎_elim}
use mathlib.Core.List.{List, [], ◌∷◌}
use native.Mathlib.Omega.{arith}
use borrow.Author.Tests.{eqb-true}
use lib.Dec.{eqb, lit≤}
use lib.IntN.{pos}
use lib.ListN.{length}
use lib.Signed.{lt_z_yes}
use Rattle.faults.specs.Limits.{cycle_room, table_room}
use Rattle.basics.specs.Bools.{pick}
use Rattle.basics.specs.Lists.{Some}
use Rattle.faults.specs.Answer.{got}
use Rattle.aspif.specs.Statements.{Line}
use Rattle.aspif.specs.Candidate.{candidate}
use Rattle.diffs.specs.Diff.{Diff, Keeps, whole, Earliest}
use Rattle.diffs.proofs.EarliestTimes.{earliest_unique}
use Rattle.diffs.proofs.Integers.{neg_up, keeps-holds, holds-keeps}
use Rattle.terms.specs.Says.{Says, Name}
use Rattle.terms.specs.Terms.{Stated}
use Rattle.terms.specs.inner.Tables.{States}
use Rattle.terms.proofs.Stating.{says-listed, listed-says}
use Rattle.stable.specs.Meaning.{first_broken}
use Rattle.judge.specs.Plan.{Asked, Rooms, asked, ready, readable, InForce}
use Rattle.judge.specs.Judged.{Result, refusing, showing, NegativeCycle, Judged}
use Rattle.judge.specs.Texts.{bytes_of, plan_p, plan_q}
use Rattle.judge.specs.Demand2.{Accepted, BrokenAt, ShowsCycle}
use Rattle.judge.specs.Starred.{Accepts}
use Rattle.further.specs.Later.{Moved}
use Rattle.further.specs.Demand3.{time_in, Further}
use Rattle.judge.proofs.Unique.{no_times}
use Rattle.judge.proofs.Readable.{readable-got}
use Rattle.judge.proofs.Demand2.{demand_2}
use Rattle.judge.proofs.SendRecv.{times, two-names}
use Rattle.judge.proofs.Starred.{starred}
use Rattle.judge.proofs.Texts.{SaysLines, lines_p, two, three, candidates as old-candidates, texts as old-texts}
use Rattle.judge.proofs.Ascent.{of_member}
use Rattle.further.proofs.Saying.{still-name}
use Rattle.further.proofs.Theorem.{demand_3}
use Rattle.further.proofs.Texts.{text_p3, text_p7, text_p45, text_q3, lines_with, stated_with, texts, candidates}
use Rattle.further.proofs.Pairs.{old, new, later}

-- both rooms are long enough
pub record Long (b : Rooms) : Type 0 where
  pub room : table_room ≤ length b.room
  pub cycle : cycle_room ≤ length b.cycle

-- a text and a candidate that were computed are readable
reads : (a : Asked) {ls : List Line} {ds : List Stated} {cs : List ℕ} → SaysLines a.text ls ds → candidate a.cand ≡ got cs
    → (b : Rooms) → Long b → readable a b ≡ got (ready ls cs)
reads a s c b h = readable-got a b h.room h.cycle s.short s.lines s.stated c

abbrev all : List ℕ
all = 1 ∷ 2 ∷ 3 ∷ []

abbrev more : List ℕ
more = 1 ∷ 2 ∷ 3 ∷ 4 ∷ []

-- ---- P with the further rule: what it says, and its times

-- send is the name 3 and recv the name 4 of P
send-recv : Name (lines_p 40 5 117 167) 3 × Name (lines_p 40 5 117 167) 4
send-recv = let n = (two-names (old 5 167 all) 40 5 old-texts.p.stated).only in (n.0, n.1.0)

module _ (w n : ℕ) (said : States (lines_with 5 179 w n) (stated_with 5 w)) where
  -- P with the further rule says these three
  which : (a : ℕ) (d : Diff) → Says (lines_with 5 179 w n) a d → (d ≡ two 40) ⊎ ((d ≡ three 5) ⊎ (d ≡ three w))
  which a d x = go (says-listed (lines_with 5 179 w n) (stated_with 5 w) said a d x)
    where
      go : Some (λ (s : Stated). s ≡ record { atom = a; says = d }) (stated_with 5 w) → (d ≡ two 40) ⊎ ((d ≡ three 5) ⊎ (d ≡ three w))
      go (inl e) = inl (sym (ap (λ (s : Stated). s.says) e))
      go (inr (inl e)) = inr (inl (sym (ap (λ (s : Stated). s.says) e)))
      go (inr (inr (inl e))) = inr (inr (sym (ap (λ (s : Stated). s.says) e)))
      go (inr (inr (inr e))) = absurd e

  held_three : InForce (new 5 179 w n more) (three 5)
  held_three = record { atom = 3; held = record { holds = refl; says = listed-says (lines_with 5 179 w n) (stated_with 5 w) said 3 (three 5) (inr (inl refl)) } }

  held_four : InForce (new 5 179 w n more) (three w)
  held_four = record { atom = 4; held = record { holds = refl; says = listed-says (lines_with 5 179 w n) (stated_with 5 w) said 4 (three w) (inr (inr (inl refl))) } }

  -- it speaks of old names only
  old_names : (a : ℕ) (d : Diff) → Says (lines_with 5 179 w n) a d → Name (lines_p 40 5 117 167) d.x × Name (lines_p 40 5 117 167) d.y
  old_names a d x =
      let m : Name (lines_p 40 5 117 167) 4 × Name (lines_p 40 5 117 167) 3 = (send-recv.1, send-recv.0) in
      ⊎_elim (λ e. rw e m) (⊎_elim (λ e. rw e send-recv) (λ e. rw e send-recv)) (which a d x)

  -- recv at m, all else at 0, keeps all three
  kept_with : (m : ℕ) → 5 ≤ m → w ≤ m → m ≤ 40 → (a : ℕ) (d : Diff) → Says (lines_with 5 179 w n) a d → Keeps (whole (times m)) d
  kept_with m h i j a d x =
      ⊎_elim (λ e. rw e (holds-keeps (times m) (two 40) (omega arith)))
      (⊎_elim (λ e. rw e (holds-keeps (times m) (three 5) (omega arith))) (λ e. rw e (holds-keeps (times m) (three w) (omega (arith, neg_up (pos w))))))
      (which a d x)

  least-times : (v : ℕ → ℕ) → w ≤ v 4 → (a : ℕ) → times w a ≤ v a
  least-times v h a = go (eqb a 4) refl
    where
      go : (t : Bool) → eqb a 4 ≡ t → pick t w 0 ≤ v a
      go true e = omega (arith, ap v (eqb-true a 4 e))
      go false e = omega arith

  -- the earliest times are send 0 and recv w, if w is from 5 to 40
  earliest_with : 5 ≤ w → w ≤ 40 → Earliest (InForce (new 5 179 w n more)) (times w)
  earliest_with h i = record {
    keeps = λ d f. kept_with w h (omega arith) i f.atom d f.held.says;
    least = λ v k. least-times v (omega (arith, keeps-holds v (three w) (k (three w) held_four), neg_up (pos w)));
  }

  -- recv - send ≤ 40 and send - recv ≤ -w are a negative cycle if w is 45
  cycle_with : w ≡ 45 → NegativeCycle (new 5 179 w n more) (2 ∷ 4 ∷ [])
  cycle_with e = record {
    ds = two 40 ∷ three w ∷ [];
    each = (
      record { holds = refl; says = listed-says (lines_with 5 179 w n) (stated_with 5 w) said 2 (two 40) (inl refl) },
      (record { holds = refl; says = listed-says (lines_with 5 179 w n) (stated_with 5 w) said 4 (three w) (inr (inr (inl refl))) }, tt),
    );
    cycle = record { some = omega arith; start = 4; closed = (refl, (refl, refl)); different = ((λ i. let z : ⊥ = omega arith in z, tt), (tt, tt)) };
    below = rw e (lt_z_yes tt);
    least = (lit≤ tt, tt);
  }

-- ---- the six pairs

module _ (b b' : Rooms) (long : Long b) (long' : Long b') (r r' : Result) where
  -- P with `1 2 3`, which is accepted, and the further rule with `1 2 3 4`
  module _ (j : Judged (asked plan_p (bytes_of "1 2 3\n")) b r) where
    accepts : Accepts 44 0 5 all b r
    accepts = starred.p_1_2_3 b r long.room long.cycle j

    -- P is accepted
    pub accepted_P : Accepted r
    accepted_P = record { length = 44; is = accepts.verdict }

    -- send 0, recv 5
    times_P : (n : ℕ) → Name (lines_p 40 5 117 167) n → time_in r accepted_P n ≡ got (times 5 n)
    unfolding accepted_P
    times_P n m =
        of_member (λ k. time_in r accepted_P k ≡ got (times 5 k)) (3 ∷ 4 ∷ []) n (accepts.send, (accepts.recv, tt))
        ((two-names (old 5 167 all) 40 5 old-texts.p.stated).all n m)

    -- send - recv ≤ -3 ..
    pub further_3 : Judged (asked text_p3 (bytes_of "1 2 3 4\n")) b' r' → Further (old 5 167 all) (new 5 179 3 242 more) (4 ∷ []) (later 5 167 179 3 242 all refl) b' r r'
    further_3 =
        demand_3 (asked plan_p (bytes_of "1 2 3\n")) (asked text_p3 (bytes_of "1 2 3 4\n")) b b' (old 5 167 all) (new 5 179 3 242 more) (4 ∷ [])
        (reads (asked plan_p (bytes_of "1 2 3\n")) old-texts.p old-candidates.one_two_three b long)
        (reads (asked text_p3 (bytes_of "1 2 3 4\n")) texts.p3 candidates.one_two_three_four b' long') (later 5 167 179 3 242 all refl) r r' j

    -- .. is accepted, and nothing moves: send 0, recv 5
    pub still_3 : Judged (asked text_p3 (bytes_of "1 2 3 4\n")) b' r' → (a' : Accepted r') × (time_in r' a' 3 ≡ got 0) × (time_in r' a' 4 ≡ got 5)
    still_3 j' =
        let s = (further_3 j').still accepted_P (times 5) times_P (record {
          names = λ a d i x. old_names 3 242 texts.p3.stated a d x;
          keeps = λ a d i x. kept_with 3 242 texts.p3.stated 5 (lit≤ tt) (lit≤ tt) (lit≤ tt) a d x;
        }) in
        (s.0, s.1 3 send-recv.0, s.1 4 send-recv.1)

    -- send - recv ≤ -7 ..
    pub further_7 : Judged (asked text_p7 (bytes_of "1 2 3 4\n")) b' r' → Further (old 5 167 all) (new 5 179 7 242 more) (4 ∷ []) (later 5 167 179 7 242 all refl) b' r r'
    further_7 =
        demand_3 (asked plan_p (bytes_of "1 2 3\n")) (asked text_p7 (bytes_of "1 2 3 4\n")) b b' (old 5 167 all) (new 5 179 7 242 more) (4 ∷ [])
        (reads (asked plan_p (bytes_of "1 2 3\n")) old-texts.p old-candidates.one_two_three b long)
        (reads (asked text_p7 (bytes_of "1 2 3 4\n")) texts.p7 candidates.one_two_three_four b' long') (later 5 167 179 7 242 all refl) r r' j

    -- .. is accepted, and recv moves from 5 to 7
    pub moved_7 : Judged (asked text_p7 (bytes_of "1 2 3 4\n")) b' r' → (a' : Accepted r') × (time_in r accepted_P 4 ≡ got 5) × (time_in r' a' 4 ≡ got 7)
    moved_7 j' =
        let e = earliest_with 7 242 texts.p7.stated (lit≤ tt) (lit≤ tt) in
        let a' = ((further_7 j').accepted accepted_P).1 (record { times = whole (times 7); keep = e.keeps }) in
        let t = (demand_2 (asked text_p7 (bytes_of "1 2 3 4\n")) b' (new 5 179 7 242 more) r' (reads (asked text_p7 (bytes_of "1 2 3 4\n")) texts.p7 candidates.one_two_three_four b' long') j'
        ).timetable a'.length a'.is in
        let n = still-name (old 5 167 all) (new 5 179 7 242 more) (4 ∷ []) (later 5 167 179 7 242 all refl) 4 send-recv.1 in
        (a', times_P 4 send-recv.1, t.reads 4 n ∙ ap got (earliest_unique (InForce (new 5 179 7 242 more)) t.times (times 7) t.earliest e 4))

    -- send - recv ≤ -45 ..
    pub further_45 : Judged (asked text_p45 (bytes_of "1 2 3 4\n")) b' r' → Further (old 5 167 all) (new 5 179 45 243 more) (4 ∷ []) (later 5 167 179 45 243 all refl) b' r r'
    further_45 =
        demand_3 (asked plan_p (bytes_of "1 2 3\n")) (asked text_p45 (bytes_of "1 2 3 4\n")) b b' (old 5 167 all) (new 5 179 45 243 more) (4 ∷ [])
        (reads (asked plan_p (bytes_of "1 2 3\n")) old-texts.p old-candidates.one_two_three b long)
        (reads (asked text_p45 (bytes_of "1 2 3 4\n")) texts.p45 candidates.one_two_three_four b' long') (later 5 167 179 45 243 all refl) r r' j

    -- .. is not accepted: no whole-number times keep the rules that hold
    pub refused_45 : Judged (asked text_p45 (bytes_of "1 2 3 4\n")) b' r' → Accepted r' → ⊥
    refused_45 j' a' =
        let p = ((further_45 j').accepted accepted_P).0 a' in
        no_times (new 5 179 45 243 more) (2 ∷ 4 ∷ []) (cycle_with 45 243 texts.p45.stated refl) p.times p.keep

  broken_with : BrokenAt (new 5 179 3 242 (1 ∷ 3 ∷ 4 ∷ [])) 34
  unfolding first_broken
  broken_with = refl

  -- P with `1 3` breaks the rule at 22, which stands at 34 in the new text: with the further rule and `1 3 4` it is broken there
  pub broken_3 : Judged (asked plan_p (bytes_of "1 3\n")) b r → Judged (asked text_p3 (bytes_of "1 3 4\n")) b' r'
      → (r ≡ refusing b 8 22) × ((p' : ℕ) × Moved (later 5 167 179 3 242 (1 ∷ 3 ∷ []) refl).lines 22 p' × (r' ≡ refusing b' 8 p')) × (r' ≡ refusing b' 8 34)
  broken_3 j j' =
      let v = starred.p_1_3 b r long.room long.cycle j in
      let e' = reads (asked text_p3 (bytes_of "1 3 4\n")) texts.p3 candidates.one_three_four b' long' in
      let f = demand_3 (asked plan_p (bytes_of "1 3\n")) (asked text_p3 (bytes_of "1 3 4\n")) b b' (old 5 167 (1 ∷ 3 ∷ [])) (new 5 179 3 242 (1 ∷ 3 ∷ 4 ∷ [])) (4 ∷ [])
      (reads (asked plan_p (bytes_of "1 3\n")) old-texts.p old-candidates.one_three b long) e' (later 5 167 179 3 242 (1 ∷ 3 ∷ []) refl) r r' j j' in (
        v,
        f.broken 22 (ap (λ (s : Result). s.verdict) v),
        ((demand_2 (asked text_p3 (bytes_of "1 3 4\n")) b' (new 5 179 3 242 (1 ∷ 3 ∷ 4 ∷ [])) r' e' j').first-broken 34).1 broken_with,
      )

  -- P with `2 3` has the unfounded atom 2; with the further rule and `2 3 4` it has so again
  pub unfounded_3 : Judged (asked plan_p (bytes_of "2 3\n")) b r → Judged (asked text_p3 (bytes_of "2 3 4\n")) b' r' → (r ≡ refusing b 9 2) × (r' ≡ refusing b' 9 2)
  unfounded_3 j j' =
      let v = starred.p_2_3 b r long.room long.cycle j in
      let f = demand_3 (asked plan_p (bytes_of "2 3\n")) (asked text_p3 (bytes_of "2 3 4\n")) b b' (old 5 167 (2 ∷ 3 ∷ [])) (new 5 179 3 242 (2 ∷ 3 ∷ 4 ∷ [])) (4 ∷ [])
      (reads (asked plan_p (bytes_of "2 3\n")) old-texts.p old-candidates.two_three b long)
      (reads (asked text_p3 (bytes_of "2 3 4\n")) texts.p3 candidates.two_three_four b' long') (later 5 167 179 3 242 (2 ∷ 3 ∷ []) refl) r r' j j' in
      (v, f.unfounded 2 (ap (λ (s : Result). s.verdict) v))

  -- Q with `1 2 3` has a negative cycle; with the further rule and `1 2 3 4` it has one again
  pub cyclic_3 : Judged (asked plan_q (bytes_of "1 2 3\n")) b r → Judged (asked text_q3 (bytes_of "1 2 3 4\n")) b' r'
      → (r ≡ showing b (2 ∷ 3 ∷ [])) × ShowsCycle (new 45 180 3 243 more) b' r'
  cyclic_3 j j' =
      let v = (starred.q_1_2_3 b r long.room long.cycle j).list in
      let f = demand_3 (asked plan_q (bytes_of "1 2 3\n")) (asked text_q3 (bytes_of "1 2 3 4\n")) b b' (old 45 168 all) (new 45 180 3 243 more) (4 ∷ [])
      (reads (asked plan_q (bytes_of "1 2 3\n")) old-texts.q old-candidates.one_two_three b long)
      (reads (asked text_q3 (bytes_of "1 2 3 4\n")) texts.q3 candidates.one_two_three_four b' long') (later 45 168 180 3 243 all refl) r r' j j' in
      (v, f.cyclic 2 (ap (λ (s : Result). s.verdict) v))
