-- The starred cases of docs/RULES.md. Assumes nothing.
use Prim.Native.Nat.{ℕ, ◌+◌, ◌*◌, ◌≤◌, ◌<◌}
use mathlib.Core.Path.{◌≡◌, refl, ap, ◌∙◌}
use mathlib.Core.Bool.{true, false}
use mathlib.Core.List.{List, [], ◌∷◌}
use mathlib.Core.Logic.{◌⊎◌, inl, inr}
use native.Mathlib.Omega.{arith}
use lib.Dec.{eqb, lit≤, lit<}
use lib.IntN.{pos, negsuc, neg_ℤ, ◌+ℤ◌}
use lib.ListN.{length}
use Rattle.faults.specs.Limits.{cycle_room, table_room}
use Rattle.faults.specs.Answer.{got}
use Rattle.basics.specs.Lists.{among}
use Rattle.aspif.specs.Statements.{Literal, positive, Head, single, choice, normal, Line, Rule}
use Rattle.aspif.specs.Candidate.{candidate}
use Rattle.diffs.specs.Diff.{whole}
use Rattle.diffs.proofs.EarliestTimes.{earliest_unique}
use Rattle.terms.specs.Says.{headed}
use Rattle.terms.specs.Terms.{Stated, taken, external}
use Rattle.stable.specs.Meaning.{Atoms, InLeast, Founded, first_broken, unbroken, broken_at}
use Rattle.timetable.proofs.Writing.{length-table}
use Rattle.judge.specs.Plan.{Asked, Rooms, Ready, asked, ready, readable, InForce}
use Rattle.judge.specs.Judged.{acceptance, Result, showing, Judged}
use Rattle.judge.specs.Texts.{bytes_of, plan_p, plan_q, plan_tight, plan_external, plan_loop, plan_odd}
use Rattle.judge.specs.Demand2.{NoneBroken, BrokenAt, NoneUnfounded, UnfoundedAt}
use Rattle.judge.specs.Starred.{Always, Refuses, send_recv, Accepts, Sums, Shows, Spares, Starred}
use Rattle.judge.proofs.Unique.{no_times}
use Rattle.judge.proofs.Readable.{readable-got}
use Rattle.judge.proofs.Demand2.{Table, Ending, at_eight, at_nine, at_ten, at_end, ending, demand_2}
use Rattle.judge.proofs.Models.{model, founded_by, unfounded-first}
use Rattle.judge.proofs.SendRecv.{times, held_two, held_three, two-names, two-times, two-table, no_two_times, two-cycle}
use Rattle.judge.proofs.Texts.{SaysLines, lines_p, lines_external, lines_loop, lines_odd, two, three, stated, candidates, texts}

-- ---- from what was computed of a text and a candidate to what is allowed

module _ (a : Asked) (ls : List Line) (ds : List Stated) (cs : List ℕ) (s : SaysLines a.text ls ds) (c : candidate a.cand ≡ got cs) where
  abbrev plan : Ready
  plan = ready ls cs

  reads : (b : Rooms) → table_room ≤ length b.room → cycle_room ≤ length b.cycle → readable a b ≡ got plan
  reads b h g = readable-got a b h g s.short s.lines s.stated c

  -- 8
  eight : (p : ℕ) → BrokenAt plan p → Always a (Refuses 8 p)
  eight p e b r h g i = ((demand_2 a b plan r (reads b h g) i).first-broken p).1 e

  -- 9
  nine : (n : ℕ) → NoneBroken plan → UnfoundedAt plan n → Always a (Refuses 9 n)
  nine n e u b r h g i = ((demand_2 a b plan r (reads b h g) i).smallest_unfounded n).1 (e, u)

-- of plans that say recv - send ≤ k and send - recv ≤ - j
module _ (a : Asked) (ls : List Line) (k j : ℕ) (cs : List ℕ) (s : SaysLines a.text ls (stated k j)) (c : candidate a.cand ≡ got cs) where
  abbrev plan₂ : Ready
  plan₂ = plan a ls (stated k j) cs s c

  module _ (b : Rooms) (r : Result) (h : table_room ≤ length b.room) (g : cycle_room ≤ length b.cycle) where
    sums : among 2 cs ≡ true → among 3 cs ≡ true → Sums a (2 ∷ 3 ∷ []) (pos k +ℤ (neg_ℤ (pos j) +ℤ pos 0)) b
    sums e f = record {
      plan = plan₂;
      read = reads a ls (stated k j) cs s c b h g;
      ds = two k ∷ three j ∷ [];
      each = (held_two plan₂ k j s.stated e, (held_three plan₂ k j s.stated f, tt));
      is = refl;
    }

    module _ (holds : among 3 cs ≡ true) (fits : (among 2 cs ≡ false) ⊎ (j ≤ k)) (n : ℕ) (long : 32 + 4 * length cs ≡ n) (i : Judged a b r) where
      of_table : Table plan₂ b r → Accepts n 0 j cs b r
      of_table t =
          let is = two-table plan₂ k j s.stated holds fits b r t in
          let v : r.verdict ≡ acceptance n = ap (λ (x : Result). x.verdict) is ∙ ap acceptance (omega (arith, length-table (send_recv 0 j cs), long)) in
          let d = (demand_2 a b plan₂ r (reads a ls (stated k j) cs s c b h g) i).timetable n v in
          let e = earliest_unique (InForce plan₂) d.times (times j) d.earliest (two-times plan₂ k j s.stated holds fits) in
          let ns = (two-names plan₂ k j s.stated).only in
          record {
            verdict = v;
            send = d.reads 3 ns.0 ∙ ap got (e 3);
            recv = d.reads 4 ns.1.0 ∙ ap got (e 4);
            bytes = is;
          }

      accepted_by : NoneBroken plan₂ → NoneUnfounded plan₂ → Ending plan₂ b r → Accepts n 0 j cs b r
      accepted_by u f (at_eight p x y) = let z : ◌≡◌ {A = ℕ} 0 1 = (cc) in absurd (omega arith)
      accepted_by u f (at_nine x c y z) = absurd (f c y.unfounded)
      accepted_by u f (at_ten x y z) = absurd (no_times plan₂ z.list z.negative (whole (times j)) (two-times plan₂ k j s.stated holds fits).keeps)
      accepted_by u f (at_end x y t) = of_table t

    -- 10
    shown_by : (holds-two : among 2 cs ≡ true) (holds-three : among 3 cs ≡ true) (more : k < j) → NoneBroken plan₂ → NoneUnfounded plan₂ → Ending plan₂ b r → r ≡ showing b (2 ∷ 3 ∷ [])
    shown_by e f m u w (at_eight p x y) = let z : ◌≡◌ {A = ℕ} 0 1 = (cc) in absurd (omega arith)
    shown_by e f m u w (at_nine x c y z) = absurd (w c y.unfounded)
    shown_by e f m u w (at_ten x y z) = z.is ∙ ap (showing b) (two-cycle plan₂ k j s.stated e f m z.list z.negative)
    shown_by e f m u w (at_end x y t) = absurd (no_two_times plan₂ k j s.stated e f m (whole t.times) t.earliest.keeps)

  -- accepted
  accepts : (among 3 cs ≡ true) → ((among 2 cs ≡ false) ⊎ (j ≤ k)) → (n : ℕ) → 32 + 4 * length cs ≡ n → NoneBroken plan₂ → NoneUnfounded plan₂ → Always a (Accepts n 0 j cs)
  accepts holds fits n long u f b r h g i =
      accepted_by b r h g holds fits n long i u f (ending a b plan₂ r (reads a ls (stated k j) cs s c b h g) i)

-- ---- broken rules

record Broken : Type 0 where
  p_1_2_3 : (five eight a c : ℕ) → first_broken (λ n. among n (1 ∷ 2 ∷ 3 ∷ [])) (lines_p five eight a c) ≡ unbroken
  p_3 : (five eight a c : ℕ) → first_broken (λ n. among n (3 ∷ [])) (lines_p five eight a c) ≡ unbroken
  p_2_3 : (five eight a c : ℕ) → first_broken (λ n. among n (2 ∷ 3 ∷ [])) (lines_p five eight a c) ≡ unbroken
  p_1_3 : (five eight a c : ℕ) → first_broken (λ n. among n (1 ∷ 3 ∷ [])) (lines_p five eight a c) ≡ broken_at 22
  p_empty : (five eight a c : ℕ) → first_broken (λ n. among n []) (lines_p five eight a c) ≡ broken_at 36
  external_2_3 : first_broken (λ n. among n (2 ∷ 3 ∷ [])) lines_external ≡ unbroken
  loop_1_2 : first_broken (λ n. among n (1 ∷ 2 ∷ [])) lines_loop ≡ unbroken
  odd-empty : first_broken (λ n. among n []) lines_odd ≡ broken_at 10
  odd_1 : first_broken (λ n. among n (1 ∷ [])) lines_odd ≡ unbroken

rules : Broken
unfolding first_broken
rules = record {
  p_1_2_3 = λ five eight a c. refl;
  p_3 = λ five eight a c. refl;
  p_2_3 = λ five eight a c. refl;
  p_1_3 = λ five eight a c. refl;
  p_empty = λ five eight a c. refl;
  external_2_3 = refl;
  loop_1_2 = refl;
  odd-empty = refl;
  odd_1 = refl;
}

-- ---- founded and unfounded atoms

abbrev the : Head → List Literal → Rule
the h ls = record { head = h; body = normal ls }

module _ (five eight a c : ℕ) (ext : Atoms) where
  least_3 : (X : Atoms) → InLeast X ext (lines_p five eight a c) 3
  least_3 X S m = m.rules (the (single 3) []) (inr (inr (inl refl))) refl 3 refl

  least_1 : InLeast (λ n. among n (1 ∷ 2 ∷ 3 ∷ [])) ext (lines_p five eight a c) 1
  least_1 S m = m.rules (the (choice (1 ∷ [])) []) (inl refl) refl 1 refl

  least_2 : InLeast (λ n. among n (1 ∷ 2 ∷ 3 ∷ [])) ext (lines_p five eight a c) 2
  least_2 S m = m.rules (the (single 2) (positive 1 ∷ [])) (inr (inl refl)) (rw (least_1 S m)) 2 refl

  founded_1_2_3 : Founded (λ n. among n (1 ∷ 2 ∷ 3 ∷ [])) ext (lines_p five eight a c)
  founded_1_2_3 = founded_by (1 ∷ 2 ∷ 3 ∷ []) ext (lines_p five eight a c) (least_1, (least_2, (least_3 (λ n. among n (1 ∷ 2 ∷ 3 ∷ [])), tt)))

  founded_3 : Founded (λ n. among n (3 ∷ [])) ext (lines_p five eight a c)
  founded_3 = founded_by (3 ∷ []) ext (lines_p five eight a c) (least_3 (λ n. among n (3 ∷ [])), tt)

-- atom 2 stands in no head
external-founded : Founded (λ n. among n (2 ∷ 3 ∷ [])) (external lines_external) lines_external
unfolding taken headed
external-founded =
    founded_by (2 ∷ 3 ∷ []) (external lines_external) lines_external
    (λ S m. m.facts 2 refl refl, (λ S m. m.rules (the (single 3) []) (inr (inl refl)) refl 3 refl, tt))

-- without atom 1 only 3 is in the least model of P
p_unfounded : UnfoundedAt (ready (lines_p 40 5 117 167) (2 ∷ 3 ∷ [])) 2
unfolding taken headed
p_unfounded =
    unfounded-first 2 (3 ∷ []) (external (lines_p 40 5 117 167)) (lines_p 40 5 117 167) (λ n. eqb n 3) (lit≤ tt, tt)
    (model (2 ∷ 3 ∷ []) (external (lines_p 40 5 117 167)) (lines_p 40 5 117 167) (λ n. eqb n 3) refl refl) refl

-- nothing is in that of the loop
loop_unfounded : UnfoundedAt (ready lines_loop (1 ∷ 2 ∷ [])) 1
unfolding taken headed
loop_unfounded =
    unfounded-first 1 (2 ∷ []) (external lines_loop) lines_loop (λ n. false) (lit≤ tt, tt)
    (model (1 ∷ 2 ∷ []) (external lines_loop) lines_loop (λ n. false) refl refl) refl

-- nor in that of the rule 1 from not 1
odd-unfounded : UnfoundedAt (ready lines_odd (1 ∷ [])) 1
unfolding taken headed
odd-unfounded =
    unfounded-first 1 [] (external lines_odd) lines_odd (λ n. false) tt
    (model (1 ∷ []) (external lines_odd) lines_odd (λ n. false) refl refl) refl

-- ---- the cases

q_shows : Always (asked plan_q (bytes_of "1 2 3\n")) (Shows (asked plan_q (bytes_of "1 2 3\n")) (2 ∷ 3 ∷ []) (negsuc 4))
q_shows b r h g i =
    let s = texts.q in
    let c = candidates.one_two_three in
    let e = ending (asked plan_q (bytes_of "1 2 3\n")) b _ r (reads (asked plan_q (bytes_of "1 2 3\n")) _ _ _ s c b h g) i in
    record {
      list = shown_by (asked plan_q (bytes_of "1 2 3\n")) _ 40 45 _ s c b r h g refl refl (lit< tt) (rules.p_1_2_3 40 45 117 168) (founded_1_2_3 40 45 117 168 (external (lines_p 40 45 117 168))) e;
      sums = sums (asked plan_q (bytes_of "1 2 3\n")) _ 40 45 _ s c b r h g refl refl;
    }

tight_spares : Always (asked plan_tight (bytes_of "1 2 3\n")) Spares
tight_spares b r h g i =
    let s = texts.tight in
    let c = candidates.one_two_three in
    record {
      sums = sums (asked plan_tight (bytes_of "1 2 3\n")) _ 5 5 _ s c b r h g refl refl;
      accepts = accepts (asked plan_tight (bytes_of "1 2 3\n")) _ 5 5 _ s c refl (inr (lit≤ tt)) 44 refl (rules.p_1_2_3 5 5 116 166) (founded_1_2_3 5 5 116 166 (external (lines_p 5 5 116 166))) b r h g i;
    }

-- the starred cases hold
pub starred : Starred
starred = record {
  p_1_2_3 = accepts (asked plan_p (bytes_of "1 2 3\n")) _ 40 5 _ texts.p candidates.one_two_three refl (inr (lit≤ tt)) 44 refl (rules.p_1_2_3 40 5 117 167) (founded_1_2_3 40 5 117 167 (external (lines_p 40 5 117 167)));
  p_3 = accepts (asked plan_p (bytes_of "3\n")) _ 40 5 _ texts.p candidates.three refl (inr (lit≤ tt)) 36 refl (rules.p_3 40 5 117 167) (founded_3 40 5 117 167 (external (lines_p 40 5 117 167)));
  p_1_3 = eight (asked plan_p (bytes_of "1 3\n")) _ _ _ texts.p candidates.one_three 22 (rules.p_1_3 40 5 117 167);
  p_empty = eight (asked plan_p (bytes_of "\n")) _ _ _ texts.p candidates.none 36 (rules.p_empty 40 5 117 167);
  p_2_3 = nine (asked plan_p (bytes_of "2 3\n")) _ _ _ texts.p candidates.two_three 2 (rules.p_2_3 40 5 117 167) p_unfounded;
  q_1_2_3 = q_shows;
  q_3 = accepts (asked plan_q (bytes_of "3\n")) _ 40 45 _ texts.q candidates.three refl (inl refl) 36 refl (rules.p_3 40 45 117 168) (founded_3 40 45 117 168 (external (lines_p 40 45 117 168)));
  tight_1_2_3 = tight_spares;
  external_2_3 = accepts (asked plan_external (bytes_of "2 3\n")) _ 40 5 _ texts.external candidates.two_three refl (inr (lit≤ tt)) 40 refl rules.external_2_3 external-founded;
  loop_1_2 = nine (asked plan_loop (bytes_of "1 2\n")) _ _ _ texts.loop candidates.one-two 1 rules.loop_1_2 loop_unfounded;
  odd-empty = eight (asked plan_odd (bytes_of "\n")) _ _ _ texts.odd candidates.none 10 rules.odd-empty;
  odd_1 = nine (asked plan_odd (bytes_of "1\n")) _ _ _ texts.odd candidates.one 1 rules.odd_1 odd-unfounded;
}
