-- No place of a verdict is above 60,000, and no timetable is longer than 24,592 bytes. Assumes nothing.
use Prim.Native.Nat.{ℕ, suc, ◌≤◌, ◌<◌}
use mathlib.Core.Path.{◌≡◌, refl, ap}
use mathlib.Core.Bool.{Bool, true, false}
use mathlib.Core.List.{List, [], ◌∷◌, ◌++◌}
use mathlib.Core.Option.{Option, some, none}
use native.Mathlib.Omega.{arith}
use borrow.Author.Tests.{ltb-false}
use lib.Dec.{ltb}
use lib.ListN.{length, length-map}
use Rattle.faults.specs.Limits.{cycle_room, last_atom, longest_text, table_room}
use Rattle.faults.specs.inner.Places.{term_places}
use Rattle.basics.specs.Bools.{pick}
use Rattle.basics.specs.Lists.{All}
use Rattle.faults.specs.Answer.{Answer, got, refused, bind, mapped}
use Rattle.fields.proofs.Fieldwise.{place-within}
use Rattle.aspif.specs.Statements.{Line, rule_in, theory_in}
use Rattle.aspif.specs.Grammar.{statements}
use Rattle.aspif.specs.Candidate.{candidate}
use Rattle.aspif.proofs.Kept.{statements-placed, statements-refused}
use Rattle.aspif.proofs.Candidates.{AscendingFrom, candidate-ascending, candidate_near}
use Rattle.diffs.specs.Diff.{Diff, xs_of}
use Rattle.diffs.proofs.Names.{pigeon}
use Rattle.terms.specs.Terms.{Stated, stated_by, known, more}
use Rattle.terms.specs.Reasons.{Reason, reason_of, answered, differences_from, differences}
use Rattle.stable.specs.Meaning.{Atoms, broken, broken_at, first_broken}
use Rattle.timetable.proofs.RoundTrip.{longest}
use Rattle.judge.specs.Plan.{Asked, Rooms, Ready, ready, lent, legible, pair, readable, InForce}
use Rattle.judge.specs.Judged.{Each, NegativeCycle, impossible, possible, unsupported, supported, breaks, sound, unreadable, judgeable}
use Rattle.judge.specs.Bounds.{Bounds}
use Rattle.judge.proofs.Ascent.{of_member}
use Rattle.judge.proofs.Readable.{read}
use Rattle.judge.proofs.Tables.{content, in_force-small, content_within, table_got}
use Rattle.judge.proofs.Unique.{cycle-in_force}

-- a value is no refusal
never : {A : Type 0} {a : A} {k p : ℕ} → got a ≡ refused k p → ⊥
never e = let z : ◌≡◌ {A = ℕ} 0 1 = (cc) in omega arith

-- equal refusals have the same place
place_of : {A : Type 0} {i k q p : ℕ} → ◌≡◌ {A = Answer A} (refused i q) (refused k p) → q ≡ p
place_of e = (cc)

-- ---- lines: 61 to 64 and 8

-- each line stands within a text of n bytes
abbrev Placed : (n : ℕ) → List Line → Type 0
Placed n ls = All (λ (l : Line). l.place < n) ls

-- what is wrong with a line stands within the text or at its end
differences-place : (text : List ℕ) (before ls : List Line) (k p : ℕ) → Placed (length text) ls → differences_from text before ls ≡ refused k p → p ≤ length text
unfolding differences_from
differences-place text before [] k p h e = absurd (never e)
differences-place text before (l ∷ ls) k p h e =
    go (reason_of (known before) (theory_in l.says)) (stated_by (known before) (theory_in l.says)) (differences_from text (before ++ (l ∷ [])) ls)
    (differences-place text (before ++ (l ∷ [])) ls k p h.1) e
  where
    go : (x : Option Reason) (f : Option Stated) (a : Answer (List Stated)) → (a ≡ refused k p → p ≤ length text) → answered text l.place x (more f a) ≡ refused k p → p ≤ length text
    go (some x) f a r e = omega (arith, place_of e, place-within text x.field l.place (omega (arith, h.0)))
    go none (some d) (got ds) r e = absurd (never e)
    go none (some d) (refused i q) r e = r e
    go none none a r e = r e

-- the first broken rule stands where a line does
broken-place : (n : ℕ) (X : Atoms) (ls : List Line) (p : ℕ) → Placed n ls → first_broken X ls ≡ broken_at p → p < n
unfolding first_broken
broken-place n X [] p h e = let z : ◌≡◌ {A = ℕ} 0 1 = (cc) in absurd (omega arith)
broken-place n X (l ∷ ls) p h e = go (broken X (rule_in l.says)) (broken-place n X ls p h.1) e
  where
    go : (t : Bool) → (first_broken X ls ≡ broken_at p → p < n) → pick t (broken_at l.place) (first_broken X ls) ≡ broken_at p → p < n
    go true r e = let z : l.place ≡ p = (cc) in omega (arith, h.0)
    go false r e = r e

-- ---- 1 to 5, 61 to 64 and 7

-- 1
lent-place : (b : Rooms) (k p : ℕ) → lent b ≡ refused k p → p ≤ longest_text
unfolding lent
lent-place b k p = go (ltb (length b.room) table_room) (ltb (length b.cycle) cycle_room)
  where
    go : (u v : Bool) → ◌≡◌ {A = Answer Unit} (pick u (refused 1 table_room) (pick v (refused 1 cycle_room) (got tt))) (refused k p) → p ≤ longest_text
    go true v e = omega (arith, place_of e)
    go false true e = omega (arith, place_of e)
    go false false e = absurd (never e)

-- 2 to 5 and 61 to 64
legible-place : (text : List ℕ) (k p : ℕ) → legible text ≡ refused k p → p ≤ longest_text
unfolding legible differences
legible-place text k p = go (ltb longest_text (length text)) (statements text) refl refl
  where
    go₂ : (ls : List Line) → Placed (length text) ls → (a : Answer (List Stated)) → differences_from text [] ls ≡ a → mapped (λ (ds : List Stated). ls) a ≡ refused k p → p ≤ length text
    go₂ ls h (got ds) d e = absurd (never e)
    go₂ ls h (refused i q) d e = omega (arith, differences-place text [] ls i q h d, place_of e)

    go : (w : Bool) (a : Answer (List Line)) → ltb longest_text (length text) ≡ w → statements text ≡ a
        → pick w (refused 2 longest_text) (bind a (λ ls. mapped (λ (ds : List Stated). ls) (differences_from text [] ls))) ≡ refused k p → p ≤ longest_text
    go true a t s e = omega (arith, place_of e)
    go false (got ls) t s e = omega (arith, ltb-false longest_text (length text) t, go₂ ls (statements-placed text ls s) (differences_from text [] ls) refl e)
    go false (refused i q) t s e = omega (arith, ltb-false longest_text (length text) t, (statements-refused text i q s).1, place_of e)

-- all of these
readable-place : (a : Asked) (b : Rooms) (k p : ℕ) → readable a b ≡ refused k p → p ≤ longest_text
unfolding readable pair
readable-place a b k p = go (lent b) (legible a.text) (candidate a.cand) refl refl refl
  where
    go : (u : Answer Unit) (v : Answer (List Line)) (w : Answer (List ℕ)) → lent b ≡ u → legible a.text ≡ v → candidate a.cand ≡ w
        → ◌≡◌ {A = Answer Ready} (bind u (λ (i : Unit {0}). bind v (λ ls. mapped (ready ls) w))) (refused k p) → p ≤ longest_text
    go (refused i q) v w e f g h = omega (arith, lent-place b i q e, place_of h)
    go (got t) (refused i q) w e f g h = omega (arith, legible-place a.text i q f, place_of h)
    go (got t) (got ls) (refused i q) e f g h = omega (arith, candidate_near a.cand i q g, place_of h)
    go (got t) (got ls) (got cs) e f g h = absurd (never h)

-- ---- 9 to 11, and the timetable

-- the atoms of a candidate are to 4,096
atoms-small : (low : ℕ) (cs : List ℕ) → AscendingFrom low cs → All (λ a. a ≤ last_atom) cs
atoms-small low [] h = tt
atoms-small low (c ∷ cs) h = (h.1, atoms-small c cs h.2)

-- a cycle has as many atoms as differences
each_long : (q : Ready) (cs : List ℕ) (ds : List Diff) → Each q cs ds → length cs ≡ length ds
each_long q [] [] e = refl
each_long q [] (d ∷ ds) e = absurd e
each_long q (c ∷ cs) [] e = absurd e
each_long q (c ∷ cs) (d ∷ ds) e = ap suc (each_long q cs ds e.1)

-- the names of differences that keep to the bounds are below 1,024
names-small : (S : Diff → Type 0) → ((d : Diff) → S d → d.x < term_places) → (ds : List Diff) → All S ds → All (λ n. n < term_places) (xs_of ds)
names-small S f [] h = tt
names-small S f (d ∷ ds) h = (f d h.0, names-small S f ds h.1)

module _ (a : Asked) (b : Rooms) (q : Ready) (e : readable a b ≡ got q) where
  -- a cycle has at most 1,024 atoms: its names differ
  cycle-short : (cs : List ℕ) → NegativeCycle q cs → length cs ≤ cycle_room
  cycle-short cs n =
      omega (
        arith,
        each_long q cs n.ds n.each,
        pigeon term_places (xs_of n.ds) n.cycle.different (names-small (InForce q) (λ d f. (in_force-small a b q e d f).x-small) n.ds (cycle-in_force q cs n).members),
        length-map n.ds (λ (d : Diff). d.x),
      )

-- every number of a verdict is within its bound
pub places-bounded : Bounds
places-bounded a b r (unreadable k p e f) = rw f (readable-place a b k p e)
places-bounded a b r (judgeable q e (breaks p f g)) =
    let t = read a b q e in
    let l = broken-place (length a.text) _ q.lines p (statements-placed a.text q.lines t.lines) f in
    rw g (omega (arith, l, t.short))
places-bounded a b r (judgeable q e (sound f (unsupported c g h))) =
    let s = atoms-small 0 q.atoms (candidate-ascending a.cand q.atoms (read a b q e).atoms) in
    let l : c ≤ last_atom = of_member (λ n. n ≤ last_atom) q.atoms c s g.unfounded.holds in
    rw h (omega arith)
places-bounded a b r (judgeable q e (sound f (supported g (impossible cs h i)))) =
    let l = cycle-short a b q e cs h in
    rw i (omega arith)
places-bounded a b r (judgeable q e (sound f (supported g (possible u h ns i j)))) =
    rw (j, table_got a b q e u h ns i) (longest (content ns u q.atoms) (content_within a b q e u h ns i))
