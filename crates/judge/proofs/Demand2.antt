-- Demand 2: what `Judged` allows is what was asked. Assumes nothing.
use Prim.Native.Nat.{ℕ}
use mathlib.Core.Path.{◌≡◌, refl, sym, ap, subst, ◌∙◌}
use mathlib.Core.Bool.{Bool, true, false}
use mathlib.Core.List.{List}
use mathlib.Core.Logic.{◌⊎◌, inl, inr, ◌↔◌}
use native.Mathlib.Omega.{arith}
use lib.ListN.{length, take}
use Rattle.faults.specs.Answer.{Answer, got, refused}
use Rattle.basics.specs.Bools.{pick}
use Rattle.basics.specs.Lists.{among}
use Rattle.diffs.specs.Diff.{whole, Earliest}
use Rattle.terms.specs.Says.{Name, Names}
use Rattle.terms.specs.Terms.{external}
use Rattle.stable.proofs.Stability.{stable_answers}
use Rattle.timetable.specs.Table.{table_of}
use Rattle.timetable.specs.Times.{time_of}
use Rattle.judge.specs.Plan.{Asked, Rooms, Ready, holds, readable, InForce}
use Rattle.judge.specs.Judged.{acceptance, Result, refusing, accepting, impossible, possible, unsupported, supported, Weighed, breaks, sound, Judges, unreadable, judgeable}
use Rattle.judge.specs.Demand2.{StableModel, Timeable, NoneBroken, BrokenAt, NoneUnfounded, UnfoundedAt, Accepted, Timetable, ShowsCycle, Otherwise, shown_broken, shown_unfounded, shown_cycle, Demand2}
use Rattle.judge.proofs.Ascent.{of_member}
use Rattle.judge.proofs.Judgements.{verdicts, numbers, places, lengths, not-accepted}
use Rattle.judge.proofs.Unique.{no_times, smallest_unique}
use Rattle.judge.proofs.Tables.{content, table_got, reads-back}

-- ---- the four endings of a readable plan

-- the earliest times are in the timetable
pub record Table (q : Ready) (b : Rooms) (r : Result) : Type 0 where
  pub times : ℕ → ℕ
  pub earliest : Earliest (InForce q) times
  pub names : List ℕ
  pub all : Names q.lines names
  pub is : r ≡ accepting b (got (table_of (content names times q.atoms)))

-- 8, 9, 10 or acceptance
pub data Ending (q : Ready) (b : Rooms) (r : Result) : Type 0 where
  at_eight : (p : ℕ) → BrokenAt q p → r ≡ refusing b 8 p → Ending q b r
  at_nine : NoneBroken q → (a : ℕ) → UnfoundedAt q a → r ≡ refusing b 9 a → Ending q b r
  at_ten : NoneBroken q → NoneUnfounded q → ShowsCycle q b r → Ending q b r
  at_end : NoneBroken q → NoneUnfounded q → Table q b r → Ending q b r

-- what is judged of a readable plan has weighed it
pub weighed : {a : Answer Ready} {b : Rooms} {q : Ready} {r : Result} → a ≡ got q → Judges a b r → Weighed q b r
weighed e (unreadable k p f g) = let z : ◌≡◌ {A = ℕ} 0 1 = (cc) in absurd (omega arith)
weighed {b = b} {q} {r} e (judgeable v f g) = let i : v ≡ q = (cc) in subst (λ (u : Ready). Weighed u b r) i g

module _ (a : Asked) (b : Rooms) (q : Ready) (r : Result) (e : readable a b ≡ got q) where
  ended : Weighed q b r → Ending q b r
  ended (breaks p f g) = at_eight p f g
  ended (sound f (unsupported c g h)) = at_nine f c g h
  ended (sound f (supported g (impossible cs n h))) = at_ten f g (record { list = cs; negative = n; is = h })
  ended (sound f (supported g (possible u h ns i j))) =
      at_end f g (record { times = u; earliest = h; names = ns; all = i; is = j ∙ ap (accepting b) (table_got a b q e u h ns i) })

  -- a readable plan ends in one of the four ways
  pub ending : Judges (readable a b) b r → Ending q b r
  ending j = ended (weighed e j)

-- ---- results tell the endings apart

module _ (q : Ready) (b : Rooms) (r : Result) where
  not-both : NoneBroken q → (p : ℕ) → BrokenAt q p → ⊥
  not-both f p g = let z : ◌≡◌ {A = ℕ} 0 1 = (cc) in omega arith

  acceptance_of : (t : Table q b r) → r.verdict ≡ acceptance (length (table_of (content t.names t.times q.atoms)))
  acceptance_of t = verdicts t.is

  accept : Table q b r → Accepted r
  accept t = record { length = _; is = acceptance_of t }

  -- accepted exactly when stable and timeable
  stable_of : NoneBroken q → NoneUnfounded q → StableModel q
  stable_of f g = (stable_answers (holds q) (external q.lines) q.lines).1 (f, g)

  to : Ending q b r → Accepted r → StableModel q × Timeable q
  to (at_eight p f g) a = absurd (not-accepted (sym a.is ∙ verdicts g))
  to (at_nine f c g h) a = absurd (not-accepted (sym a.is ∙ verdicts h))
  to (at_ten f g s) a = absurd (not-accepted (sym a.is ∙ verdicts s.is))
  to (at_end f g t) a = (stable_of f g, record { times = whole t.times; keep = t.earliest.keeps })

  from : Ending q b r → StableModel q × Timeable q → Accepted r
  from (at_eight p f g) s = absurd (not-both ((stable_answers (holds q) (external q.lines) q.lines).0 s.0).0 p f)
  from (at_nine f c g h) s = absurd (((stable_answers (holds q) (external q.lines) q.lines).0 s.0).1 c g.unfounded)
  from (at_ten f g c) s = absurd (no_times q c.list c.negative s.1.times s.1.keep)
  from (at_end f g t) s = accept t

  -- otherwise one of the three
  other : Ending q b r → Accepted r ⊎ Otherwise q b r
  other (at_eight p f g) = inr (shown_broken p g)
  other (at_nine f c g h) = inr (shown_unfounded c h)
  other (at_ten f g s) = inr (shown_cycle s)
  other (at_end f g t) = inl (accept t)

  -- 8
  eight : Ending q b r → (p : ℕ) → (r ≡ refusing b 8 p) ↔ BrokenAt q p
  eight e p = (to_eight e, from_eight e)
    where
      to_eight : Ending q b r → r ≡ refusing b 8 p → BrokenAt q p
      to_eight (at_eight o f g) h = let z : o ≡ p = places (verdicts (sym g ∙ h)) in rw z at f
      to_eight (at_nine f c g i) h = absurd (omega (arith, numbers (verdicts (sym i ∙ h))))
      to_eight (at_ten f g s) h = absurd (omega (arith, numbers (verdicts (sym s.is ∙ h))))
      to_eight (at_end f g t) h = absurd (not-accepted (verdicts (sym t.is ∙ h)))

      from_eight : Ending q b r → BrokenAt q p → r ≡ refusing b 8 p
      from_eight (at_eight o f g) h = let z : o ≡ p = (cc) in rw z at g
      from_eight (at_nine f c g i) h = absurd (not-both f p h)
      from_eight (at_ten f g s) h = absurd (not-both f p h)
      from_eight (at_end f g t) h = absurd (not-both f p h)

  -- 9
  nine : Ending q b r → (a : ℕ) → (r ≡ refusing b 9 a) ↔ (NoneBroken q × UnfoundedAt q a)
  nine e a = (to_nine e, from_nine e)
    where
      to_nine : Ending q b r → r ≡ refusing b 9 a → NoneBroken q × UnfoundedAt q a
      to_nine (at_eight o f g) h = absurd (omega (arith, numbers (verdicts (sym g ∙ h))))
      to_nine (at_nine f c g i) h = let z : c ≡ a = places (verdicts (sym i ∙ h)) in (f, rw z at g)
      to_nine (at_ten f g s) h = absurd (omega (arith, numbers (verdicts (sym s.is ∙ h))))
      to_nine (at_end f g t) h = absurd (not-accepted (verdicts (sym t.is ∙ h)))

      from_nine : Ending q b r → NoneBroken q × UnfoundedAt q a → r ≡ refusing b 9 a
      from_nine (at_eight o f g) h = absurd (not-both h.0 o f)
      from_nine (at_nine f c g i) h = let z : c ≡ a = smallest_unique q c a g h.1 in rw z at i
      from_nine (at_ten f g s) h = absurd (g a h.1.unfounded)
      from_nine (at_end f g t) h = absurd (g a h.1.unfounded)

  -- 10
  ten : Ending q b r → ShowsCycle q b r ↔ (NoneBroken q × NoneUnfounded q × (Timeable q → ⊥))
  ten e = (to_ten e, from_ten e)
    where
      to_ten : Ending q b r → ShowsCycle q b r → NoneBroken q × NoneUnfounded q × (Timeable q → ⊥)
      to_ten (at_eight o f g) s = absurd (omega (arith, numbers (verdicts (sym g ∙ s.is))))
      to_ten (at_nine f c g i) s = absurd (omega (arith, numbers (verdicts (sym i ∙ s.is))))
      to_ten (at_ten f g c) s = (f, g, λ t. no_times q s.list s.negative t.times t.keep)
      to_ten (at_end f g t) s = absurd (not-accepted (verdicts (sym t.is ∙ s.is)))

      from_ten : Ending q b r → NoneBroken q × NoneUnfounded q × (Timeable q → ⊥) → ShowsCycle q b r
      from_ten (at_eight o f g) h = absurd (not-both h.0 o f)
      from_ten (at_nine f c g i) h = absurd (h.1 c g.unfounded)
      from_ten (at_ten f g s) h = s
      from_ten (at_end f g t) h = absurd (h.2 (record { times = whole t.times; keep = t.earliest.keeps }))

-- ---- the timetable

module _ (a : Asked) (b : Rooms) (q : Ready) (r : Result) (e : readable a b ≡ got q) (n : ℕ) (v : r.verdict ≡ acceptance n) where
  module _ (t : Table q b r) where
    read-time : (m : ℕ) → time_of (take n r.rooms.room) m ≡ pick (among m t.names) (got (t.times m)) (refused 21 m)
    read-time m =
        let z : n ≡ length (table_of (content t.names t.times q.atoms)) = lengths (sym v ∙ verdicts t.is) in
        ap (λ (k : ℕ). time_of (take k r.rooms.room) m) z
        ∙ ap (λ (s : Result). time_of (take (length (table_of (content t.names t.times q.atoms))) s.rooms.room) m) t.is
        ∙ reads-back a b q e t.times t.earliest t.names t.all m

    not-among : (m : ℕ) → (Name q.lines m → ⊥) → among m t.names ≡ false
    not-among m f = go (among m t.names) refl
      where
        go : (u : Bool) → among m t.names ≡ u → among m t.names ≡ false
        go true g = absurd (f (of_member (Name q.lines) t.names m t.all.only g))
        go false g = g

    timetable_of : Timetable q b r n
    timetable_of = record {
      times = t.times;
      earliest = t.earliest;
      names = t.names;
      all = t.all;
      bytes = t.is;
      reads = λ m h. read-time m ∙ rw (t.all.all m h);
      others = λ m f. read-time m ∙ rw (not-among m f);
    }

  timetable : Ending q b r → Timetable q b r n
  timetable (at_eight p f g) = absurd (not-accepted (sym v ∙ verdicts g))
  timetable (at_nine f c g h) = absurd (not-accepted (sym v ∙ verdicts h))
  timetable (at_ten f g s) = absurd (not-accepted (sym v ∙ verdicts s.is))
  timetable (at_end f g t) = timetable_of t

-- demand 2
pub demand_2 : Demand2
demand_2 a b q r e j =
    let w = ending a b q r e j in
    record {
      accepted = (to q b r w, from q b r w);
      timetable = λ n v. timetable a b q r e n v w;
      otherwise = other q b r w;
      first-broken = eight q b r w;
      smallest_unfounded = nine q b r w;
      negative-cycle = ten q b r w;
    }
