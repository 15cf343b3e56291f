-- Whatever document 01 gave 6 gets one of 61 to 64, and nothing else does. Assumes nothing.
use Prim.Native.Nat.{ℕ, ◌≤◌}
use mathlib.Core.Path.{◌≡◌, refl, sym, ap, ◌∙◌}
use mathlib.Core.Bool.{Bool, true, false, ◌||◌}
use mathlib.Core.List.{List}
use mathlib.Core.Option.{Option, some, none}
use native.Mathlib.Omega.{arith}
use borrow.Author.Tests.{eqb-true, ltb-false}
use lib.Dec.{eqb, ltb}
use lib.ListN.{length}
use Rattle.basics.specs.Bools.{pick}
use Rattle.basics.specs.Lists.{among}
use Rattle.faults.specs.Limits.{longest_text, table_room, cycle_room}
use Rattle.faults.specs.Answer.{Answer, got, refused, bind, mapped}
use Rattle.aspif.specs.Statements.{Line}
use Rattle.aspif.specs.Grammar.{statements}
use Rattle.aspif.specs.Candidate.{candidate}
use Rattle.aspif.proofs.Kept.{statements-refused}
use Rattle.aspif.proofs.Candidates.{candidate-place}
use Rattle.terms.specs.Terms.{Stated, first_unsound}
use Rattle.terms.specs.Reasons.{differences}
use Rattle.terms.specs.Six.{reasons}
use Rattle.terms.proofs.Six.{in_place_of_six}
use Rattle.judge.specs.Plan.{Asked, Rooms, Ready, ready, lent, legible, pair, readable}
use Rattle.judge.specs.Judged.{Result, refusing, unreadable, judgeable, Judged}
use Rattle.judge.specs.Sixes.{GotSix, GetsOne, Sixes}
use Rattle.judge.proofs.Judgements.{numbers, not-accepted}
use Rattle.judge.proofs.Staging.{lent-sized, unsound}
use Rattle.judge.proofs.Demand2.{Ending, at_eight, at_nine, at_ten, at_end, ending}

-- ---- equal refusals

number_of : {A : Type 0} {i k q p : ℕ} → ◌≡◌ {A = Answer A} (refused i q) (refused k p) → i ≡ k
number_of e = (cc)

never : {A : Type 0} {a : A} {k p : ℕ} → got a ≡ refused k p → ⊥
never e = let z : ◌≡◌ {A = ℕ} 0 1 = (cc) in omega arith

-- ---- whatever document 01 gave 6

judged-so : (a : Asked) (b : Rooms) (r : Result) (k p : ℕ) → readable a b ≡ refused k p → Judged a b r → r ≡ refusing b k p
judged-so a b r k p e (unreadable i q f g) = let x : i ≡ k = (cc) in let y : q ≡ p = (cc) in g ∙ rw (x, y)
judged-so a b r k p e (judgeable q f w) = absurd (never (sym f ∙ e))

gets_one : (a : Asked) (b : Rooms) (r : Result) → Judged a b r → (p : ℕ) → GotSix a b p → GetsOne a b p r
gets_one a b r j p s =
    let g = (in_place_of_six a.text s.lines).unsound p s.unsound in
    let e = unsound a b (lent-sized b (sym s.roomy)) s.short s.lines s.read _ _ g.is in
    record { number = g.number; field = g.field; one = g.one; first_byte = g.first_byte; is = judged-so a b r _ _ e j }

-- ---- nothing else

-- the four are 61 to 64
reason_large : (k : ℕ) → among k reasons ≡ true → 61 ≤ k
reason_large k = go (eqb k 61) refl (eqb k 62) refl (eqb k 63) refl (eqb k 64) refl
  where
    go : (x : Bool) → eqb k 61 ≡ x → (y : Bool) → eqb k 62 ≡ y → (z : Bool) → eqb k 63 ≡ z → (w : Bool) → eqb k 64 ≡ w
        → (x || (y || (z || (w || false)))) ≡ true → 61 ≤ k
    go true e y f z g w h i = omega (arith, eqb-true k 61 e)
    go false e true f z g w h i = omega (arith, eqb-true k 62 f)
    go false e false f true g w h i = omega (arith, eqb-true k 63 g)
    go false e false f false g true h i = omega (arith, eqb-true k 64 h)
    go false e false f false g false h i = let z : ◌≡◌ {A = ℕ} 0 1 = (cc) in absurd (omega arith)

lent-small : (b : Rooms) (k p : ℕ) → lent b ≡ refused k p → k ≤ 1
unfolding lent
lent-small b k p = go (ltb (length b.room) table_room) (ltb (length b.cycle) cycle_room)
  where
    go : (u v : Bool) → ◌≡◌ {A = Answer Unit} (pick u (refused 1 table_room) (pick v (refused 1 cycle_room) (got tt))) (refused k p) → k ≤ 1
    go true v e = omega (arith, number_of e)
    go false true e = omega (arith, number_of e)
    go false false e = absurd (never e)

module _ (a : Asked) (b : Rooms) (roomy : lent b ≡ got tt) where
  by_terms : (ls : List Line) (k p : ℕ) → length a.text ≤ longest_text → statements a.text ≡ got ls → differences a.text ls ≡ refused k p → (q : ℕ) × GotSix a b q
  by_terms ls k p t s d = go (first_unsound ls) refl
    where
      go : (w : Option ℕ) → first_unsound ls ≡ w → (q : ℕ) × GotSix a b q
      go none e = absurd (never (sym ((in_place_of_six a.text ls).sound.0 e).1 ∙ d))
      go (some q) e = (q, record { roomy = roomy; short = t; lines = ls; read = s; unsound = e })

  by_text : (k p : ℕ) → 61 ≤ k → legible a.text ≡ refused k p → (q : ℕ) × GotSix a b q
  unfolding legible
  by_text k p l = go (ltb longest_text (length a.text)) refl (statements a.text) refl
    where
      go₂ : (ls : List Line) → length a.text ≤ longest_text → statements a.text ≡ got ls → (d : Answer (List Stated)) → differences a.text ls ≡ d
          → mapped (λ (ds : List Stated). ls) d ≡ refused k p → (q : ℕ) × GotSix a b q
      go₂ ls t s (got ds) d e = absurd (never e)
      go₂ ls t s (refused i q) d e = by_terms ls i q t s d

      go : (w : Bool) → ltb longest_text (length a.text) ≡ w → (x : Answer (List Line)) → statements a.text ≡ x
          → pick w (refused 2 longest_text) (bind x (λ ls. mapped (λ (ds : List Stated). ls) (differences a.text ls))) ≡ refused k p → (q : ℕ) × GotSix a b q
      go true t x s e = absurd (omega (arith, number_of e))
      go false t (got ls) s e = go₂ ls (ltb-false longest_text (length a.text) t) s (differences a.text ls) refl e
      go false t (refused i q) s e = absurd (omega (arith, number_of e, (statements-refused a.text i q s).0.1))

by_reading : (a : Asked) (b : Rooms) (k p : ℕ) → 61 ≤ k → readable a b ≡ refused k p → (q : ℕ) × GotSix a b q
unfolding readable pair
by_reading a b k p l = go (lent b) refl (legible a.text) refl (candidate a.cand) refl
  where
    go : (u : Answer Unit) → lent b ≡ u → (v : Answer (List Line)) → legible a.text ≡ v → (w : Answer (List ℕ)) → candidate a.cand ≡ w
        → ◌≡◌ {A = Answer Ready} (bind u (λ (i : Unit {0}). bind v (λ ls. mapped (ready ls) w))) (refused k p) → (q : ℕ) × GotSix a b q
    go (refused i q) e v f w g h = absurd (omega (arith, number_of h, lent-small b i q e))
    go (got t) e (refused i q) f w g h = by_text a b e i q (omega (arith, number_of h)) f
    go (got t) e (got ls) f (refused i q) g h = absurd (omega (arith, number_of h, (candidate-place a.cand i q g).0))
    go (got t) e (got ls) f (got cs) g h = absurd (never h)

-- a readable plan gets none of the four
by_plan : (q : Ready) (b : Rooms) (r : Result) (k p : ℕ) → 61 ≤ k → Ending q b r → r ≡ refusing b k p → ⊥
by_plan q b r k p l (at_eight x f e) h = omega (arith, numbers (ap (λ (v : Result). v.verdict) (sym e ∙ h)))
by_plan q b r k p l (at_nine n x f e) h = omega (arith, numbers (ap (λ (v : Result). v.verdict) (sym e ∙ h)))
by_plan q b r k p l (at_ten n f s) h = omega (arith, numbers (ap (λ (v : Result). v.verdict) (sym s.is ∙ h)))
by_plan q b r k p l (at_end n f t) h = not-accepted (ap (λ (v : Result). v.verdict) (sym t.is ∙ h))

none_else : (a : Asked) (b : Rooms) (r : Result) → Judged a b r → (k q : ℕ) → 61 ≤ k → r ≡ refusing b k q → (p : ℕ) × GotSix a b p
none_else a b r (unreadable i p e f) k q l h =
    let z : i ≡ k = numbers (ap (λ (v : Result). v.verdict) (sym f ∙ h)) in
    by_reading a b i p (omega arith) e
none_else a b r (judgeable s e w) k q l h = absurd (by_plan s b r k q l (ending a b s r e (judgeable s e w)) h)

pub sixes : Sixes
sixes a b r j = record { whatever = gets_one a b r j; nothing_else = λ k q m e. none_else a b r j k q (reason_large k m) e }
