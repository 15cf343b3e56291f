-- How the stages follow one another: what one stage found, in the words of the next. Assumes nothing.
use Prim.Native.Nat.{ℕ, ◌+◌, ◌≤◌, ◌<◌}
use mathlib.Core.Path.{◌≡◌, refl, sym, ap, ◌∙◌, fun_ext}
use mathlib.Core.Bool.{Bool, true, false, ◌&&◌, not}
use mathlib.Core.List.{List, [], ◌∷◌}
use native.Mathlib.Omega.{arith}
use borrow.Author.Tests.{ne_eqb, le-ltb, lt-ltb, ltb-false}
use lib.Dec.{ltb}
use lib.ListN.{length, take}
use lib.Seq.{length-take-le, take-length}
use Rattle.faults.specs.Limits.{cycle_room, longest_text, table_room}
use Rattle.faults.specs.inner.Places.{atom_places}
use Rattle.basics.specs.Bools.{pick}
use Rattle.faults.specs.Answer.{Answer, got, refused}
use Rattle.basics.specs.Lists.{among}
use Rattle.basics.specs.inner.Bitmaps.{is_marked, marked_from}
use Rattle.basics.proofs.Bitmaps.{marked-holds, marked-front}
use Rattle.aspif.specs.Statements.{Line}
use Rattle.aspif.specs.Grammar.{statements}
use Rattle.aspif.specs.Candidate.{candidate}
use Rattle.aspif.specs.inner.Words.{lines_of}
use Rattle.aspif.specs.inner.Kept.{Ahead}
use Rattle.aspif.specs.inner.Bitmap.{atoms_of, EndsAt}
use Rattle.aspif.proofs.Kept.{in_range}
use Rattle.aspif.proofs.Walking.{ahead_small}
use Rattle.aspif.proofs.Candidates.{AscendingFrom, candidate-ascending}
use Rattle.diffs.specs.declared.Difference.{Difference}
use Rattle.terms.specs.Says.{headed}
use Rattle.terms.specs.Terms.{Stated, external}
use Rattle.terms.specs.Reasons.{differences}
use Rattle.terms.specs.inner.Tables.{tabulated, held_at}
use Rattle.terms.specs.inner.Values.{Within}
use Rattle.terms.specs.inner.Marks.{MarksThose}
use Rattle.terms.proofs.Six.{differences-got}
use Rattle.terms.proofs.Naming.{externals-are}
use Rattle.terms.proofs.Stating.{atoms-differ}
use Rattle.terms.proofs.Bounds.{listed_small}
use Rattle.stable.specs.Meaning.{Atoms, Founding, unfounded_at, FoundedBy, Broken, unbroken, broken_at, first_broken}
use Rattle.stable.specs.Meaning as meaning
use Rattle.judge.specs.Plan.{Asked, Rooms, ready, holds, lent, legible, pair, readable}
use Rattle.judge.specs.Judged.{refusing, unreadable, judgeable, breaks, sound, unsupported, supported, Judged}
use Rattle.judge.specs.inner.Stages.{stated, Stating, Filled, Candidate, Sized, ready_at, Upheld}
use Rattle.judge.proofs.Bitmaps.{front_unmarked}
use Rattle.judge.proofs.Firsts.{front-stated}
use Rattle.judge.proofs.Gathering.{fronts_alike}

-- the bitmap of the candidate is its set
holds-is : (ls : List Line) (x : List ℕ) → ◌≡◌ {A = Atoms} (is_marked x) (holds (ready_at ls x))
holds-is ls x = fun_ext (λ a. sym (marked-holds x a))

-- the first broken rule by the bitmap is that by the candidate
pub broken_as : (ls : List Line) (x : List ℕ) {v : Broken} → v ≡ first_broken (is_marked x) ls → first_broken (holds (ready_at ls x)) ls ≡ v
broken_as ls x e = rw (← holds-is ls x) (sym e)

-- what is founded by the bitmaps is founded by the candidate with the external atoms of the lines
pub founded_as : {ls : List Line} {atoms : List ℕ} {ds : List Difference} {x ext : List ℕ} (v : Founding)
    → Stating ls atoms ds → Candidate x → MarksThose atom_places ext (λ a. among a atoms && not (headed ls a))
    → FoundedBy v (is_marked x) (is_marked ext) ls → FoundedBy v (holds (ready_at ls x)) (external ls) ls
founded_as {ls} {atoms} {ds} {x} {ext} v p w b h =
    let e = externals-are ls atoms ds (length atoms) p.stated ext p.small (omega arith) (rw (take-length atoms) b) in
    let o : ◌≡◌ {A = Atoms} (is_marked ext) (external ls) = fun_ext e in
    rw (← holds-is ls x, ← o) h

above_zero : (low : ℕ) (vs : List ℕ) → AscendingFrom low vs → among 0 vs ≡ false
above_zero low [] h = refl
above_zero low (v ∷ vs) h = rw (ne_eqb 0 v (λ e. omega (arith, h.0))) (above_zero v vs h.2)

-- no candidate marks atom 0
zero_unmarked : (s x : List ℕ) → candidate s ≡ got (atoms_of x) → is_marked x 0 ≡ false
zero_unmarked s x e = sym (marked-holds x 0) ∙ above_zero 0 (atoms_of x) (candidate-ascending s (atoms_of x) e)

-- slices that hold what lines state are filled within the bounds, with different atoms
pub stating_filled : {ls : List Line} {atoms : List ℕ} {ds : List Difference} → Stating ls atoms ds → Filled atoms ds
stating_filled {ls} {atoms} {ds} h =
    record {
      alike = h.alike;
      small = listed_small ls (stated atoms ds) h.stated h.small;
      differ = atoms-differ ls (stated atoms ds) h.stated;
    }

-- 1 refuses what was asked, or the rooms are long enough
pub lent_refuses : (a : Asked) (b : Rooms) {k p : ℕ} → refused k p ≡ lent b → Judged a b (refusing b k p)
unfolding readable
lent_refuses a b {k} {p} e = unreadable k p (rw (← e)) refl

pub lent-sized : (b : Rooms) → got tt ≡ lent b → Sized b.room b.cycle
unfolding lent
lent-sized b = go (ltb (length b.room) table_room) refl (ltb (length b.cycle) cycle_room) refl
  where
    go : (s : Bool) → ltb (length b.room) table_room ≡ s → (t : Bool) → ltb (length b.cycle) cycle_room ≡ t
        → ◌≡◌ {A = Answer (Unit {0})} (got tt) (pick s (refused 1 table_room) (pick t (refused 1 cycle_room) (got tt))) → Sized b.room b.cycle
    go true f t g e = let z : ◌≡◌ {A = ℕ} 0 1 = cc in absurd (omega arith)
    go false f true g e = let z : ◌≡◌ {A = ℕ} 0 1 = cc in absurd (omega arith)
    go false f false g e = record { bytes = ltb-false _ _ f; places = ltb-false _ _ g }

-- 2 does
pub overlong : (a : Asked) (b : Rooms) → Sized b.room b.cycle → longest_text < length a.text → Judged a b (refusing b 2 longest_text)
unfolding readable lent legible
overlong a b z l = unreadable 2 longest_text (rw (le-ltb (length b.room) table_room z.bytes, le-ltb (length b.cycle) cycle_room z.places, lt-ltb longest_text (length a.text) l)) refl

module _ (a : Asked) (b : Rooms) (z : Sized b.room b.cycle) (h : length a.text ≤ longest_text) where
  -- 3 to 5 refuse what was asked
  pub unread : (k p : ℕ) → statements a.text ≡ refused k p → readable a b ≡ refused k p
  unfolding readable lent legible
  unread k p e = rw (le-ltb (length b.room) table_room z.bytes, le-ltb (length b.cycle) cycle_room z.places, le-ltb longest_text (length a.text) h, e)

  module _ (ls : List Line) (e : statements a.text ≡ got ls) where
    -- 61 to 64 refuse it
    pub unsound : (k p : ℕ) → differences a.text ls ≡ refused k p → readable a b ≡ refused k p
    unfolding readable lent legible
    unsound k p d = rw (le-ltb (length b.room) table_room z.bytes, le-ltb (length b.cycle) cycle_room z.places, le-ltb longest_text (length a.text) h, e, d)

    -- else the candidate decides
    pub pair-decides : (ds : List Stated) → differences a.text ls ≡ got ds → readable a b ≡ pair ls a.cand
    unfolding readable lent legible
    pair-decides ds d = rw (le-ltb (length b.room) table_room z.bytes, le-ltb (length b.cycle) cycle_room z.places, le-ltb longest_text (length a.text) h, e, d)

-- the candidate's bitmap makes the plan ready, or 7 refuses it
pub pair-ready : (ls : List Line) (cand x : List ℕ) → got (atoms_of x) ≡ candidate cand → pair ls cand ≡ got (ready_at ls x)
unfolding pair
pair-ready ls cand x e = rw (← e)

pub pair-refused : (ls : List Line) (cand : List ℕ) (k p : ℕ) → refused k p ≡ candidate cand → pair ls cand ≡ refused k p
unfolding pair
pair-refused ls cand k p e = rw (← e)

-- no candidate marks atom 0
pub marked : (cand x : List ℕ) {last : ℕ} → EndsAt last x → got (atoms_of x) ≡ candidate cand → Candidate x
marked cand x h e = record { places = omega (arith, h.places); none = zero_unmarked cand x (sym e) }

-- the front of a bitmap, to the last atom, has the same atoms
pub front-ready : {ls : List Line} {x : List ℕ} {last : ℕ} → EndsAt last x → ready_at ls (take (last + 1) x) ≡ ready_at ls x
unfolding marked_from
front-ready {ls} {x} {last} h = ap (ready ls) (marked-front 0 (last + 1) x h.none)

-- and is a candidate's
pub front-candidate : {x : List ℕ} {last : ℕ} → EndsAt last x → Candidate x → Candidate (take (last + 1) x)
front-candidate {x} {last} h c = record { places = omega (arith, length-take-le (last + 1) x (omega (arith, h.places, h.small)), h.small); none = front_unmarked (last + 1) x 0 c.none }

-- of a text that has passed: its lines stand on the tape, the first m places of the slices have the differences that they state, and the candidate decides in any rooms
pub record Passed (a : Asked) (tape : List ℕ) (n : ℕ) (atoms : List ℕ) (ds : List Difference) (m : ℕ) : Type 0 where
  pub taped : Ahead tape 0 n
  pub short : length tape ≤ longest_text
  pub within : Within m atoms ds
  pub stating : Stating (lines_of tape n) (take m atoms) (take m ds)
  pub decides : (b : Rooms) → Sized b.room b.cycle → readable a b ≡ pair (lines_of tape n) a.cand

pub passed : (a : Asked) {long : ℕ} {tape : List ℕ} {n : ℕ} {atoms : List ℕ} {ds : List Difference} {m : ℕ}
    → (length a.text ≤ long) × (long ≤ longest_text) → length tape ≡ long
    → got (lines_of tape n) ≡ statements a.text → Ahead tape 0 n → got (tabulated m (held_at atoms ds)) ≡ differences a.text (lines_of tape n) → Within m atoms ds
    → Passed a tape n atoms ds m
passed a {tape = tape} {n} {atoms} {ds} {m} pre k e w d r =
    record {
      taped = w;
      short = omega (arith, pre.1);
      within = r;
      stating = record {
        small = in_range (lines_of tape n) (ahead_small tape 0 n w);
        stated = rw (front-stated m atoms ds r) (differences-got a.text (lines_of tape n) _ (sym d));
        alike = sym (fronts_alike r);
      };
      decides = λ b z. pair-decides a b z (omega (arith, pre.0, pre.1)) (lines_of tape n) (sym e) _ (sym d);
    }

-- ---- what was found

module _ {a : Asked} {tape : List ℕ} {n : ℕ} {atoms : List ℕ} {ds : List Difference} {m : ℕ} (p : Passed a tape n atoms ds m) where
  -- 7 refuses what was asked
  pub mispaired : {k q : ℕ} → refused k q ≡ candidate a.cand → (b : Rooms) → Sized b.room b.cycle → Judged a b (refusing b k q)
  mispaired e b z = unreadable _ _ (p.decides b z ∙ pair-refused _ _ _ _ e) refl

  module _ (x : List ℕ) (e : got (atoms_of x) ≡ candidate a.cand) where
    ready_for : (b : Rooms) → Sized b.room b.cycle → readable a b ≡ got (ready_at (lines_of tape n) x)
    ready_for b z = p.decides b z ∙ pair-ready _ _ _ e

    -- 8 does
    pub breaking : {q : ℕ} → broken_at q ≡ first_broken (is_marked x) (lines_of tape n) → (b : Rooms) → Sized b.room b.cycle → Judged a b (refusing b 8 q)
    breaking w b z = judgeable _ (ready_for b z) (breaks _ (broken_as _ _ w) refl)

    module _ {ext : List ℕ} {last : ℕ} (w : unbroken ≡ first_broken (is_marked x) (lines_of tape n)) (h : EndsAt last x)
        (o : MarksThose atom_places ext (λ b. among b (take m atoms) && not (headed (lines_of tape n) b))) where
      -- 9 does
      pub unfounding : {q : ℕ} → FoundedBy (unfounded_at q) (is_marked x) (is_marked ext) (lines_of tape n) → (b : Rooms) → Sized b.room b.cycle → Judged a b (refusing b 9 q)
      unfounding {q} u b z = judgeable _ (ready_for b z) (sound (broken_as _ _ w) (unsupported q (founded_as (unfounded_at q) p.stating (marked _ _ h e) o u) refl))

      -- the times decide
      pub upheld : FoundedBy meaning.founded (is_marked x) (is_marked ext) (lines_of tape n) → Upheld a m last x atoms ds
      upheld u =
          record {
            lines = lines_of tape n;
            within = p.within;
            stating = p.stating;
            candidate = marked _ _ h e;
            ends = h;
            decides = λ b r z t. judgeable _ (ready_for b z) (sound (broken_as _ _ w) (supported (founded_as meaning.founded p.stating (marked _ _ h e) o u) t));
          }
