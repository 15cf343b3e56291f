-- Demand 3: a further time rule makes nothing earlier. From demand 2 of both plans, and what added lines do to its meaning. Assumes nothing.
use Prim.Native.Nat.{ℕ}
use mathlib.Core.Path.{◌≡◌, refl, sym, ap, subst, ◌∙◌}
use mathlib.Core.Bool.{true}
use mathlib.Core.Logic.{◌⊎◌, inl, inr, ⊎_elim}
use mathlib.Core.List.{List}
use native.Mathlib.Omega.{arith}
use lib.IntN.{pos, ◌-ℤ◌}
use lib.Signed.{◌≤ℤ◌}
use Rattle.faults.specs.Answer.{got}
use Rattle.basics.specs.Lists.{among}
use Rattle.diffs.specs.Diff.{Diff, Keeps, KeepsAll, whole, Earliest}
use Rattle.diffs.proofs.EarliestTimes.{none_earlier, nothing_moves}
use Rattle.terms.specs.Says.{Says, Name}
use Rattle.terms.specs.Terms.{external}
use Rattle.stable.proofs.Stability.{stable_answers}
use Rattle.judge.specs.Plan.{Rooms, Ready, holds, InForce}
use Rattle.judge.specs.Judged.{Judgement, refusal, Result, refusing}
use Rattle.judge.specs.Demand2.{StableModel, Timeable, Accepted, ShowsCycle, Otherwise, shown_broken, shown_unfounded, shown_cycle, Demanded}
use Rattle.further.specs.Later.{Later}
use Rattle.further.specs.Demand3.{time_in, Further, Demand3}
use Rattle.judge.proofs.Judgements.{verdicts, numbers, not-accepted}
use Rattle.judge.proofs.Demand2.{demand_2}
use Rattle.further.proofs.Broken.{still-whole, still-broken}
use Rattle.further.proofs.Founding.{still-founded, still_smallest}
use Rattle.further.proofs.Saying.{still-name, only-held, still_force}

-- ---- from the verdict to what is shown

-- what a refusal by the number k with the place p shows
record Shown (q : Ready) (b : Rooms) (r : Result) (k p : ℕ) : Type 0 where
  pub cycle : k ≡ 10 → ShowsCycle q b r
  pub other : (k ≡ 10 → ⊥) → r ≡ refusing b k p

module _ (q : Ready) (b : Rooms) (r : Result) (k p : ℕ) (v : r.verdict ≡ refusal k p) where
  -- the verdict of what is shown is the one given
  given : {s : Result} → r ≡ s → s.verdict ≡ refusal k p
  given e = sym (verdicts e) ∙ v

  -- a refusal by another number than 10
  by_number : (j o : ℕ) → (j ≡ 10 → ⊥) → r ≡ refusing b j o → Shown q b r k p
  by_number j o n e = record {
    cycle = λ t. absurd (n (numbers (given e) ∙ t));
    other = λ t. e ∙ ap (λ (w : Judgement). record { verdict = w; rooms = b }) (given e);
  }

  -- a refusal shows what demand 2 says of its number
  shown_by : Accepted r ⊎ Otherwise q b r → Shown q b r k p
  shown_by (inl a) = absurd (not-accepted (sym a.is ∙ v))
  shown_by (inr (shown_broken o e)) = by_number 8 o (λ t. omega arith) e
  shown_by (inr (shown_unfounded o e)) = by_number 9 o (λ t. omega arith) e
  shown_by (inr (shown_cycle s)) = record { cycle = λ t. s; other = λ n. absurd (n (sym (numbers (given s.is)))) }

-- ---- a plan with time rules added

module _ (q q' : Ready) (new : List ℕ) (l : Later q q' new) where
  -- a stable model stays one
  pub still_stable : StableModel q → StableModel q'
  still_stable s =
      let a = (stable_answers (holds q) (external q.lines) q.lines).0 s in
      (stable_answers (holds q') (external q'.lines) q'.lines).1 (still-whole q q' new l a.0, still-founded q q' new l a.1)

  -- times that keep the rules that held and those added keep all that hold
  pub all-kept : (u : ℕ → ℕ) → Earliest (InForce q) u → ((a : ℕ) (d : Diff) → among a new ≡ true → Says q'.lines a d → Keeps (whole u) d)
      → KeepsAll (whole u) (InForce q')
  all-kept u e k d f =
      ⊎_elim (λ o. e.keeps d (record { atom = f.atom; held = o })) (λ n. k f.atom d n f.held.says)
      (only-held q q' new l f.atom d f.held)

same-keeps : (u v : ℕ → ℕ) (d : Diff) → u d.x ≡ v d.x → u d.y ≡ v d.y → Keeps (whole u) d → Keeps (whole v) d
same-keeps u v d e f k =
    subst (λ (n : ℕ). (pos (v d.x) -ℤ pos n) ≤ℤ d.k) f (subst (λ (n : ℕ). (pos n -ℤ pos (u d.y)) ≤ℤ d.k) e k)

one_time : (r : Result) (a : Accepted r) (u v : ℕ → ℕ) (n : ℕ) → time_in r a n ≡ got (u n) → time_in r a n ≡ got (v n) → u n ≡ v n
one_time r a u v n e f = cc

module _ (q q' : Ready) (new : List ℕ) (l : Later q q' new) (b b' : Rooms) (r r' : Result) (D : Demanded q b r) (D' : Demanded q' b' r') where
  -- an accepted plan, whose new rules have times, is accepted again
  accept : Accepted r → Timeable q' → Accepted r'
  accept a t = D'.accepted.1 (still_stable q q' new l (D.accepted.0 a).0, t)

  -- what demand 2 says of both plans is what demand 3 says
  claims : Further q q' new l b' r r'
  claims = record {
    accepted = λ a. ((λ a'. (D'.accepted.0 a').1), accept a);
    later = λ a a' n m.
        let t = D.timetable a.length a.is in
        let t' = D'.timetable a'.length a'.is in (
          t.times n,
          t'.times n,
          t.reads n m,
          t'.reads n (still-name q q' new l n m),
          none_earlier (InForce q) (InForce q') (still_force q q' new l) t.times t'.times t.earliest t'.earliest n,
        );
    still = λ a u given k.
        let t = D.timetable a.length a.is in
        let as_read : (n : ℕ) → Name q.lines n → u n ≡ t.times n = λ n m. one_time r a u t.times n (given n m) (t.reads n m) in
        let kept = all-kept q q' new l t.times t.earliest (λ c d i x.
        same-keeps u t.times d (as_read d.x (k.names c d i x).0) (as_read d.y (k.names c d i x).1) (k.keeps c d i x)) in
        let a' = accept a (record { times = whole t.times; keep = kept }) in
        let t' = D'.timetable a'.length a'.is in (
          a',
          λ n m. t'.reads n (still-name q q' new l n m)
              ∙ ap got (nothing_moves (InForce q) (InForce q') (still_force q q' new l) t.times t'.times t.earliest t'.earliest kept n ∙ sym (as_read n m)),
        );
    broken = λ p v.
        let s = still-broken q q' new l p ((D.first-broken p).0 ((shown_by q b r 8 p v D.otherwise).other (λ e. omega arith))) in
        (s.0, s.1, (D'.first-broken s.0).1 s.2);
    unfounded = λ a v.
        let w = (D.smallest_unfounded a).0 ((shown_by q b r 9 a v D.otherwise).other (λ e. omega arith)) in
        (D'.smallest_unfounded a).1 (still-whole q q' new l w.0, still_smallest q q' new l a w.1);
    cyclic = λ k v.
        let w = D.negative-cycle.0 ((shown_by q b r 10 k v D.otherwise).cycle refl) in
        D'.negative-cycle.1 (
          still-whole q q' new l w.0,
          still-founded q q' new l w.1,
          λ t. w.2 (record { times = t.times; keep = λ d f. t.keep d (still_force q q' new l d f) }),
        );
  }

-- demand 3, of every readable plan and every readable plan with time rules added to it
pub demand_3 : Demand3
demand_3 a a' b b' q q' new e e' l r r' j j' =
    claims q q' new l b b' r r' (demand_2 a b q r e j) (demand_2 a' b' q' r' e' j')
