-- The contracts determine what they allow: two results that `Judged` allows for the same input are equal, but for which negative cycle 10 shows;
-- two answers of `time` are equal, and two of `show`. Assumes nothing.
use Prim.Native.Nat.{ℕ, ◌<◌}
use mathlib.Core.Path.{◌≡◌, refl, sym, ap, subst, fun_ext, ◌∙◌}
use mathlib.Core.List.{List, [], ◌∷◌}
use mathlib.Core.Logic.{◌⊎◌, inl, inr, ⊎_elim}
use native.Mathlib.Omega.{arith}
use native.Mathlib.Decide.{dec_lt}
use lib.IntN.{ℤ}
use denote.Ref.{Bor}
use Rattle.basics.specs.Lists.{All}
use Rattle.faults.specs.Answer.{Answer, got}
use Rattle.faults.specs.Values.{number, as_answer}
use Rattle.faults.specs.declared.Refusal.{Refusal}
use Rattle.faults.proofs.Numbers.{kind_of, kind_back}
use Rattle.diffs.specs.Diff.{Diff, KeepsAll, whole, NegCycle}
use Rattle.diffs.proofs.Cycles.{exclusive}
use Rattle.diffs.proofs.EarliestTimes.{earliest_unique}
use Rattle.terms.specs.Terms.{external}
use Rattle.stable.specs.Meaning.{SmallestUnfounded}
use Rattle.timetable.specs.Times.{time_of}
use Rattle.timetable.proofs.Answers.{one_time}
use Rattle.judge.specs.Plan.{Asked, Rooms, Ready, holds, readable, InForce}
use Rattle.judge.specs.Judged.{Judgement, acceptance, refusal, Result, refusing, showing, accepting, Each, NegativeCycle, table, Timed, impossible, possible, Supported, unsupported, supported, Weighed, breaks, sound, Judges, unreadable, judgeable, Judged}
use Rattle.judge.specs.Shown.{IsShown}
use Rattle.judge.specs.Values.{as_verdict, as_result}
use Rattle.judge.specs.declared.Verdict.{Verdict}
use Rattle.judge.specs.declared.Verdict.TheVariants.{Accepted, Refused}
use Rattle.judge.proofs.Ascent.{names_unique}
use Rattle.std.specs.Prelude as prelude

-- ---- cycles

members : (q : Ready) (cs : List ℕ) (ds : List Diff) → Each q cs ds → All (InForce q) ds
members q [] [] e = tt
members q [] (d ∷ ds) e = absurd e
members q (c ∷ cs) [] e = absurd e
members q (c ∷ cs) (d ∷ ds) e = (record { atom = c; held = e.0 }, members q cs ds e.1)

-- the differences of a negative cycle's atoms are a negative cycle of those in force
pub cycle-in_force : (q : Ready) (cs : List ℕ) (n : NegativeCycle q cs) → NegCycle (InForce q) n.ds
cycle-in_force q cs n = record { members = members q cs n.ds n.each; cycle = n.cycle; below = n.below }

-- no whole-number times keep a negative cycle
pub no_times : (q : Ready) (cs : List ℕ) → NegativeCycle q cs → (t : ℕ → ℤ) → KeepsAll t (InForce q) → ⊥
no_times q cs n t k = exclusive (InForce q) n.ds t (cycle-in_force q cs n) k

-- ---- the judge

-- both are 10, of the same plan and candidate, and differ in the list only
pub record BothTen (q : Ready) (b : Rooms) (r r' : Result) : Type 0 where
  pub cs : List ℕ
  pub cs' : List ℕ
  pub one : NegativeCycle q cs
  pub other : NegativeCycle q cs'
  pub first : r ≡ showing b cs
  pub second : r' ≡ showing b cs'

-- the smallest unfounded atom is one
pub smallest_unique : (q : Ready) (a c : ℕ) → SmallestUnfounded (holds q) (external q.lines) q.lines a → SmallestUnfounded (holds q) (external q.lines) q.lines c → a ≡ c
smallest_unique q a c f g = go (dec_lt a c) (dec_lt c a)
  where
    go : Dec (a < c) → Dec (c < a) → a ≡ c
    go (yes l) m = absurd (g.before a l f.unfounded)
    go (no l) (yes m) = absurd (f.before c m g.unfounded)
    go (no l) (no m) = omega (arith, l, m)

module _ (q : Ready) (b : Rooms) (r r' : Result) where
  timed_unique : Timed q b r → Timed q b r' → (r ≡ r') ⊎ BothTen q b r r'
  timed_unique (impossible cs n e) (impossible ds m f) = inr (record { cs = cs; cs' = ds; one = n; other = m; first = e; second = f })
  timed_unique (impossible cs n e) (possible v h ns i f) = absurd (no_times q cs n (whole v) h.keeps)
  timed_unique (possible u g ns i e) (impossible ds m f) = absurd (no_times q ds m (whole u) g.keeps)
  timed_unique (possible u g ns i e) (possible v h ms j f) =
      inl (e
      ∙ ap (λ (w : ℕ → ℕ). accepting b (table ns w q.atoms)) (fun_ext (earliest_unique (InForce q) u v g h))
      ∙ ap (λ (ks : List ℕ). accepting b (table ks v q.atoms)) (names_unique q.lines ns ms i j)
      ∙ sym f)

  supported_unique : Supported q b r → Supported q b r' → (r ≡ r') ⊎ BothTen q b r r'
  supported_unique (unsupported a f e) (unsupported c g h) = inl (e ∙ ap (refusing b 9) (smallest_unique q a c f g) ∙ sym h)
  supported_unique (unsupported a f e) (supported g h) = absurd (g a f.unfounded)
  supported_unique (supported f e) (unsupported c g h) = absurd (f c g.unfounded)
  supported_unique (supported f e) (supported g h) = timed_unique e h

  weighed_unique : Weighed q b r → Weighed q b r' → (r ≡ r') ⊎ BothTen q b r r'
  weighed_unique (breaks p e f) (breaks m g h) = let j : p ≡ m = (cc) in inl (f ∙ ap (refusing b 8) j ∙ sym h)
  weighed_unique (breaks p e f) (sound g h) = let z : ◌≡◌ {A = ℕ} 0 1 = (cc) in absurd (omega arith)
  weighed_unique (sound e f) (breaks m g h) = let z : ◌≡◌ {A = ℕ} 0 1 = (cc) in absurd (omega arith)
  weighed_unique (sound e f) (sound g h) = supported_unique f h

judges_unique : (a : Answer Ready) (b : Rooms) (r r' : Result) → Judges a b r → Judges a b r' → (r ≡ r') ⊎ ((q : Ready) × (a ≡ got q) × BothTen q b r r')
judges_unique a b r r' (unreadable k p e f) (unreadable l m g h) =
    let i : k ≡ l = (cc) in
    let j : p ≡ m = (cc) in
    inl (f ∙ ap (λ (n : ℕ). refusing b n p) i ∙ ap (refusing b l) j ∙ sym h)
judges_unique a b r r' (unreadable k p e f) (judgeable v g h) = let z : ◌≡◌ {A = ℕ} 0 1 = (cc) in absurd (omega arith)
judges_unique a b r r' (judgeable u e f) (unreadable l m g h) = let z : ◌≡◌ {A = ℕ} 0 1 = (cc) in absurd (omega arith)
judges_unique a b r r' (judgeable u e f) (judgeable v g h) =
    let i : v ≡ u = (cc) in
    go (weighed_unique u b r r' f (subst (λ (q : Ready). Weighed q b r') i h))
  where
    go : (r ≡ r') ⊎ BothTen u b r r' → (r ≡ r') ⊎ ((q : Ready) × (a ≡ got q) × BothTen q b r r')
    go (inl x) = inl x
    go (inr x) = inr (u, e, x)

-- two results that `Judged` allows for what was asked and the same rooms are equal; or both are 10, with a negative cycle of the readable plan each
pub judged_unique : (a : Asked) (b : Rooms) (r r' : Result) → Judged a b r → Judged a b r'
    → (r ≡ r') ⊎ ((q : Ready) × (readable a b ≡ got q) × BothTen q b r r')
judged_unique a b r r' = judges_unique (readable a b) b r r'

-- ---- in the words of the code

abbrev refusal_of : ℕ → ℕ → Refusal
refusal_of n p = record { kind = kind_of n; place = p }

refusal-back : (r : Refusal) → refusal_of (number r.kind) r.place ≡ r
refusal-back r = let g : refusal_of (number r.kind) r.place ≡ record { kind = r.kind; place = r.place } = rw (kind_back r.kind) in g

verdict_of : Judgement → Verdict
verdict_of (acceptance n) = Accepted n
verdict_of (refusal k p) = Refused (refusal_of k p)

verdict-back : (v : Verdict) → verdict_of (as_verdict v) ≡ v
unfolding verdict_of
verdict-back (Accepted n) = refl
verdict-back (Refused r) = ap Refused (refusal-back r)

-- a judgement is that of one verdict
pub verdict_unique : (v v' : Verdict) → as_verdict v ≡ as_verdict v' → v ≡ v'
verdict_unique v v' e = sym (verdict-back v) ∙ ap verdict_of e ∙ verdict-back v'

-- two verdicts and what both rooms hold then, that the contract of `judge` allows for the same input, are equal; or both are 10
pub judge_unique : (a : Asked) (b : Rooms) (v v' : Verdict) (room room' cycle cycle' : List ℕ)
    → Judged a b (as_result v room cycle) → Judged a b (as_result v' room' cycle')
    → ((v ≡ v') × (room ≡ room') × (cycle ≡ cycle')) ⊎ ((q : Ready) × (readable a b ≡ got q) × BothTen q b (as_result v room cycle) (as_result v' room' cycle'))
judge_unique a b v v' room room' cycle cycle' h g =
    ⊎_elim (λ e. inl (verdict_unique v v' (ap (λ (r : Result). r.verdict) e), ap (λ (r : Result). r.rooms.room) e, ap (λ (r : Result). r.rooms.cycle) e)) (λ e. inr e)
    (judged_unique a b (as_result v room cycle) (as_result v' room' cycle') h g)

-- ---- the other two entry points

-- two answers that the contract of `time` allows for the same slice and number are equal
pub time_unique : (s : List ℕ) (n : ℕ) (t t' : prelude.Result ℕ Refusal) → as_answer t ≡ time_of s n → as_answer t' ≡ time_of s n → t ≡ t'
time_unique = one_time

-- two parts that the contract of `show` allows for the same refusal, text and candidate are equal
pub show_unique : (r r' text cand : Bor (List ℕ)) (k place : ℕ) → IsShown r text cand k place → IsShown r' text cand k place → r.now ≡ r'.now
show_unique r r' text cand k place h g = h.bytes ∙ sym g.bytes
