-- Where no line is unsound, the list of differences is what the lines say: each line's difference is found in the lines before it, and more lines change nothing.
use Prim.Native.Nat.{ℕ}
use mathlib.Core.Path.{◌≡◌, refl, sym, ap, ◌∙◌}
use mathlib.Core.Logic.{◌⊎◌, inl, inr, ⊎_elim}
use mathlib.Core.List.{List, [], ◌∷◌, ◌++◌, append_assoc, map}
use mathlib.Core.Bool.{false, ◌||◌, not}
use mathlib.Core.Option.{Option, some, none}
use native.Mathlib.Omega.{arith}
use borrow.Author.Tests.{eqb-false}
use lib.Dec.{eqb}
use Rattle.faults.specs.Answer.{Answer, got, refused}
use Rattle.aspif.specs.Statements.{Guard, unguarded, guard, Theory, defines, collects, states, Line, theory_in}
use Rattle.diffs.specs.Diff.{Diff}
use Rattle.terms.specs.Says.{term, element_at, Difference, SaysIn, Says}
use Rattle.basics.specs.Lists.{All, NotIn, Distinct, Some, among}
use Rattle.basics.proofs.Bools.{or_neither}
use Rattle.basics.proofs.Lists.{all_so}
use Rattle.terms.specs.Terms.{states_in, known, taken, defined, difference_of, undefined_use, not_difference, unsound, Stated, stated_by, more, Lists}
use Rattle.terms.specs.Reasons.{Reason, reason_of, answered, differences_from, differences}
use Rattle.terms.specs.inner.Tables.{States}
use Rattle.terms.proofs.Six.{sound-line}
use Rattle.terms.proofs.Known.{taken-append}
use Rattle.terms.proofs.Differing.{said, unsaid, said_more, said_one}

-- ---- a line that is sound

there : {A : Type 0} (x : Option A) → not (defined x) ≡ false → (a : A) × (x ≡ some a)
there (some a) h = (a, refl)
there none h = let z : ◌≡◌ {A = ℕ} 0 1 = (cc) in absurd (omega arith)

-- a theory atom that is sound states a difference, and its atom was not taken
record Fine (before : List Line) (a p : ℕ) (vs : List ℕ) (g : Guard) : Type 0 where
  diff : Diff
  is : difference_of (term before) (element_at before) p vs g ≡ some diff
  fresh : taken before a ≡ false

fine : (before : List Line) (a p : ℕ) (vs : List ℕ) (g : Guard) → unsound (known before) (some (states a p vs g)) ≡ false → Fine before a p vs g
unfolding unsound
fine before a p vs g h =
    let o = (or_neither (undefined_use (known before) (some (states a p vs g))) _ h).1 in
    let q = or_neither (taken before a) (not_difference (known before) (some (states a p vs g))) o in
    let d = there (difference_of (term before) (element_at before) p vs g) q.1 in
    record { diff = d.0; is = d.1; fresh = q.0 }

-- ---- one turn of the list

-- what an answer that was got says of the line and of the lines behind it
record Turn (text : List ℕ) (before : List Line) (l : Line) (ls : List Line) (ds : List Stated) : Type 0 where
  fair : unsound (known before) (theory_in l.says) ≡ false
  rest : List Stated
  behind : differences_from text (before ++ (l ∷ [])) ls ≡ got rest
  whole : more (stated_by (known before) (theory_in l.says)) (got rest) ≡ got ds

got-more : (x : Option Stated) (r : Answer (List Stated)) (ds : List Stated) → more x r ≡ got ds → (es : List Stated) × (r ≡ got es)
got-more none r ds h = (ds, h)
got-more (some d) (got es) ds h = (es, refl)
got-more (some d) (refused k p) ds h = let z : ◌≡◌ {A = ℕ} 0 1 = (cc) in absurd (omega arith)

turn : (text : List ℕ) (before : List Line) (l : Line) (ls : List Line) (ds : List Stated) → differences_from text before (l ∷ ls) ≡ got ds → Turn text before l ls ds
unfolding differences_from
turn text before l ls ds = go (reason_of (known before) (theory_in l.says)) refl
  where
    go : (x : Option Reason) → reason_of (known before) (theory_in l.says) ≡ x
        → answered text l.place x (more (stated_by (known before) (theory_in l.says)) (differences_from text (before ++ (l ∷ [])) ls)) ≡ got ds
        → Turn text before l ls ds
    go (some x) q h = let z : ◌≡◌ {A = ℕ} 0 1 = (cc) in absurd (omega arith)
    go none q h =
        let m = got-more (stated_by (known before) (theory_in l.says)) (differences_from text (before ++ (l ∷ [])) ls) ds h in
        record { fair = sound-line (known before) (theory_in l.says) q; rest = m.0; behind = m.1; whole = rw m.1 at h }

-- ---- what is listed is what is said

got-is : {xs ys : List Stated} → got xs ≡ got ys → xs ≡ ys
got-is {xs} {ys} h = cc h

more-is : (x : Stated) (rest ds : List Stated) → more (some x) (got rest) ≡ got ds → x ∷ rest ≡ ds
more-is x rest ds h = got-is h

later : (x : Option Stated) (rest ds : List Stated) (a : ℕ) (d : Diff) → more x (got rest) ≡ got ds → Lists rest a d → Lists ds a d
later none rest ds a d h q = rw (← got-is h) q
later (some x) rest ds a d h q = rw (← more-is x rest ds h) (inr q)

stated_eq : (a b : ℕ) (d e : Diff) → b ≡ a → d ≡ e → ◌≡◌ {A = Stated} (record { atom = b; says = e }) (record { atom = a; says = d })
stated_eq a b d e p q = rw (p, q)

lists_as : (xs ys : List Stated) (a : ℕ) (d : Diff) → xs ≡ ys → Lists ys a d → Lists xs a d
lists_as xs ys a d e q = rw e q

said_as : {ls : List Line} {p : ℕ} {vs : List ℕ} {g u : ℕ} {d e : Diff} → d ≡ e → Difference ls p vs g u d → Difference ls p vs g u e
said_as {ls} {p} {vs} {g} {u} {d} {e} h q = rw (← h) q

module _ (whole before ms : List Line) (e : before ++ ms ≡ whole) (a : ℕ) (d : Diff) (rest ds : List Stated) where
  whole_said : {p : ℕ} {vs : List ℕ} {g u : ℕ} {x : Diff} → Difference before p vs g u x → Difference whole p vs g u x
  whole_said q = rw (← e) (said_more before ms q)

  head-listed : (s : Option Theory) → unsound (known before) s ≡ false → more (stated_by (known before) s) (got rest) ≡ got ds → SaysIn whole a d s → Lists ds a d
  head-listed (some (defines u t)) f h q = absurd q
  head-listed (some (collects v x)) f h q = absurd q
  head-listed (some (states b p vs unguarded)) f h q = absurd q
  head-listed (some (states b p vs (guard g u))) f h q =
      let k = fine before b p vs (guard g u) f in
      let o : d ≡ k.diff = said_one q.1 (whole_said (said before p vs g u k.diff k.is)) in
      let y : record { atom = b; says = k.diff } ∷ rest ≡ ds = more-is _ rest ds (rw k.is at h) in
      rw (← y) (inl (stated_eq a b d k.diff q.0 o))
  head-listed none f h q = absurd q

  list_said : (s : Option Theory) → unsound (known before) s ≡ false → more (stated_by (known before) s) (got rest) ≡ got ds → Lists ds a d → SaysIn whole a d s ⊎ Lists rest a d
  list_said (some (defines u t)) f h q = inr (rw (got-is h) q)
  list_said (some (collects v x)) f h q = inr (rw (got-is h) q)
  list_said (some (states b p vs unguarded)) f h q = let k = fine before b p vs unguarded f in absurd (unsaid (term before) (element_at before) p vs k.diff k.is)
  list_said (some (states b p vs (guard g u))) f h q =
      let k = fine before b p vs (guard g u) f in
      let y : record { atom = b; says = k.diff } ∷ rest ≡ ds = more-is _ rest ds (rw k.is at h) in
      let z : Lists (record { atom = b; says = k.diff } ∷ rest) a d = lists_as _ ds a d y q in
      ⊎_elim (λ w. inl (ap (λ (x : Stated). x.atom) w, said_as (ap (λ (x : Stated). x.says) w) (whole_said (said before p vs g u k.diff k.is)))) (λ w. inr w) z
  list_said none f h q = inr (rw (got-is h) q)

one_more : (before : List Line) (l : Line) (ls whole : List Line) → before ++ (l ∷ ls) ≡ whole → (before ++ (l ∷ [])) ++ ls ≡ whole
one_more before l ls whole e = append_assoc before (l ∷ []) ls ∙ e

listed-from : (text : List ℕ) (whole before ls : List Line) (ds : List Stated) (a : ℕ) (d : Diff) → before ++ ls ≡ whole → differences_from text before ls ≡ got ds
    → Some (λ (l : Line). SaysIn whole a d (theory_in l.says)) ls → Lists ds a d
listed-from text whole before [] ds a d e h q = absurd q
listed-from text whole before (l ∷ ls) ds a d e h q =
    let t = turn text before l ls ds h in
    ⊎_elim (λ w. head-listed whole before (l ∷ ls) e a d t.rest ds (theory_in l.says) t.fair t.whole w)
    (λ w. later (stated_by (known before) (theory_in l.says)) t.rest ds a d t.whole (listed-from text whole (before ++ (l ∷ [])) ls t.rest a d (one_more before l ls whole e) t.behind w))
    q

said_from : (text : List ℕ) (whole before ls : List Line) (ds : List Stated) (a : ℕ) (d : Diff) → before ++ ls ≡ whole → differences_from text before ls ≡ got ds
    → Lists ds a d → Some (λ (l : Line). SaysIn whole a d (theory_in l.says)) ls
unfolding differences_from
said_from text whole before [] ds a d e h q = rw (← got-is h) at q
said_from text whole before (l ∷ ls) ds a d e h q =
    let t = turn text before l ls ds h in
    ⊎_elim (λ w. inl w) (λ w. inr (said_from text whole (before ++ (l ∷ [])) ls t.rest a d (one_more before l ls whole e) t.behind w))
    (list_said whole before (l ∷ ls) e a d t.rest ds (theory_in l.says) t.fair t.whole q)

module _ (ls : List Line) (ds : List Stated) (h : States ls ds) where
  -- what an atom says is listed
  pub says-listed : (a : ℕ) (d : Diff) → Says ls a d → Lists ds a d
  unfolding differences
  says-listed a d q = listed-from [] ls [] ls ds a d refl (h []) q

  -- what is listed, an atom says
  pub listed-says : (a : ℕ) (d : Diff) → Lists ds a d → Says ls a d
  unfolding differences
  listed-says a d q = said_from [] ls [] ls ds a d refl (h []) q

-- ---- an atom says one difference

-- not taken by the lines before and this one
untaken : (before : List Line) (l : Line) (a : ℕ) → taken (before ++ (l ∷ [])) a ≡ false → (taken before a ≡ false) × (taken (l ∷ []) a ≡ false)
untaken before l a h = or_neither (taken before a) (taken (l ∷ []) a) (sym (taken-append before (l ∷ []) a) ∙ h)

-- atoms that were taken neither before nor by each other
record Apart (before : List Line) (ds : List Stated) : Type 0 where
  fresh : All (λ (s : Stated). taken before s.atom ≡ false) ds
  distinct : Distinct (map (λ (s : Stated). s.atom) ds)

not-atom : (b : ℕ) (ds : List Stated) → All (λ (s : Stated). eqb s.atom b || false ≡ false) ds → NotIn b (map (λ (s : Stated). s.atom) ds)
not-atom b [] h = tt
not-atom b (s ∷ ds) h = (λ e. eqb-false s.atom b (or_neither (eqb s.atom b) false h.0).0 (sym e), not-atom b ds h.1)

module _ (before : List Line) (l : Line) (rest ds : List Stated) (r : Apart (before ++ (l ∷ [])) rest) where
  still_fresh : All (λ (s : Stated). taken before s.atom ≡ false) rest
  still_fresh = all_so (λ (s : Stated) h. (untaken before l s.atom h).0) rest r.fresh

  same_apart : got rest ≡ got ds → Apart before ds
  same_apart h = rw (← got-is h) (record { fresh = still_fresh; distinct = r.distinct })

  more_apart : (s : Option Theory) → theory_in l.says ≡ s → unsound (known before) s ≡ false → more (stated_by (known before) s) (got rest) ≡ got ds → Apart before ds
  unfolding taken
  more_apart (some (defines u t)) p f h = same_apart h
  more_apart (some (collects v x)) p f h = same_apart h
  more_apart (some (states b q vs g)) p f h =
      let k = fine before b q vs g f in
      let y : record { atom = b; says = k.diff } ∷ rest ≡ ds = more-is _ rest ds (rw k.is at h) in
      rw (← y)
      (record { fresh = (k.fresh, still_fresh); distinct = (not-atom b rest (all_so (λ (s : Stated) w. rw p at (untaken before l s.atom w).1) rest r.fresh), r.distinct) })
  more_apart none p f h = same_apart h

apart_from : (text : List ℕ) (before ls : List Line) (ds : List Stated) → differences_from text before ls ≡ got ds → Apart before ds
unfolding differences_from
apart_from text before [] ds h = rw (← got-is h) (record { fresh = tt; distinct = tt })
apart_from text before (l ∷ ls) ds h =
    let t = turn text before l ls ds h in
    more_apart before l t.rest ds (apart_from text (before ++ (l ∷ [])) ls t.rest t.behind) (theory_in l.says) refl t.fair t.whole

-- no two differences listed have the same atom
pub atoms-differ : (ls : List Line) (ds : List Stated) → States ls ds → Distinct (map (λ (s : Stated). s.atom) ds)
unfolding differences
atoms-differ ls ds h = (apart_from [] [] ls ds (h [])).distinct

not_listed : (a : ℕ) (d : Diff) (ds : List Stated) → NotIn a (map (λ (s : Stated). s.atom) ds) → Lists ds a d → ⊥
not_listed a d [] n q = q
not_listed a d (s ∷ ds) n q = ⊎_elim (λ e. n.0 (sym (ap (λ (x : Stated). x.atom) e))) (λ w. not_listed a d ds n.1 w) q

not_in : (ns : List ℕ) {a b : ℕ} → a ≡ b → NotIn a ns → NotIn b ns
not_in ns {a} {b} e n = rw (← e) n

lists_one : (a : ℕ) (d e : Diff) (ds : List Stated) → Distinct (map (λ (s : Stated). s.atom) ds) → Lists ds a d → Lists ds a e → d ≡ e
lists_one a d e [] k p q = absurd p
lists_one a d e (s ∷ ds) k p q =
    ⊎_elim
    (λ x. ⊎_elim (λ y. ap (λ (z : Stated). z.says) (sym x ∙ y)) (λ y. absurd (not_listed a e ds (not_in (map (λ (s : Stated). s.atom) ds) (ap (λ (z : Stated). z.atom) x) k.0) y)) q)
    (λ x. ⊎_elim (λ y. absurd (not_listed a d ds (not_in (map (λ (s : Stated). s.atom) ds) (ap (λ (z : Stated). z.atom) y) k.0) x)) (λ y. lists_one a d e ds k.1 x y) q)
    p

-- an atom says at most one difference
pub says-one : (ls : List Line) (ds : List Stated) → States ls ds → (a : ℕ) (d e : Diff) → Says ls a d → Says ls a e → d ≡ e
says-one ls ds h a d e p q = lists_one a d e ds (atoms-differ ls ds h) (says-listed ls ds h a d p) (says-listed ls ds h a e q)

-- ---- the atoms listed are those that have a theory statement

more-taken : (before : List Line) (s : Option Theory) (rest ds : List Stated) (ls : List Line) (a : ℕ)
    → unsound (known before) s ≡ false → more (stated_by (known before) s) (got rest) ≡ got ds
    → among a (map (λ (x : Stated). x.atom) rest) ≡ taken ls a
    → among a (map (λ (x : Stated). x.atom) ds) ≡ states_in a s || taken ls a
more-taken before (some (defines u t)) rest ds ls a h w e = rw (← got-is w) e
more-taken before (some (collects v t)) rest ds ls a h w e = rw (← got-is w) e
more-taken before (some (states b p vs g)) rest ds ls a h w e =
    let f = fine before b p vs g h in
    let d = more-is (record { atom = b; says = f.diff }) rest ds (rw f.is at w) in
    rw (← d, e)
more-taken before none rest ds ls a h w e = rw (← got-is w) e

taken-from : (text : List ℕ) (before ls : List Line) (ds : List Stated) → differences_from text before ls ≡ got ds → (a : ℕ) → among a (map (λ (x : Stated). x.atom) ds) ≡ taken ls a
unfolding differences_from taken
taken-from text before [] ds h a = rw (← got-is h)
taken-from text before (l ∷ ls) ds h a =
    let t = turn text before l ls ds h in
    more-taken before (theory_in l.says) t.rest ds ls a t.fair t.whole (taken-from text (before ++ (l ∷ [])) ls t.rest t.behind a)

-- an atom is listed exactly if it has a theory statement
pub atoms-taken : (ls : List Line) (ds : List Stated) → States ls ds → (a : ℕ) → among a (map (λ (x : Stated). x.atom) ds) ≡ taken ls a
unfolding differences
atoms-taken ls ds h a = taken-from [] [] ls ds (h []) a
