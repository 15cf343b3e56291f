-- The list of differences gives the names and the external atoms, and the bitmaps of the code hold exactly these.
use Prim.Native.Nat.{ℕ, zero, suc, ◌+◌, ◌≤◌, ◌<◌}
use mathlib.Core.Path.{◌≡◌, refl, sym, ap, ◌∙◌}
use mathlib.Core.Logic.{inl, inr, ⊎_elim}
use mathlib.Core.List.{List, [], ◌∷◌, map}
use mathlib.Core.Bool.{Bool, true, false, ◌&&◌, ◌||◌, not}
use mathlib.Core.Option.{Option, some, none}
use native.Mathlib.Omega.{arith}
use borrow.Author.Tests.{eq-eqb, ne_eqb, eqb-true, ltb-true, ltb-false}
use lib.ListN.{length, get_or, take, get_or-eq_default}
use lib.Seq.{take-suc}
use lib.Dec.{eqb, ltb}
use Rattle.std.proofs.lemmas.List.{map-append}
use Rattle.basics.specs.Lists.{among, All, Ascending}
use Rattle.basics.specs.inner.Bitmaps.{marks, is_marked}
use Rattle.basics.proofs.Bools.{or_cases, or_right, or_true, picked}
use Rattle.basics.proofs.Lists.{all_so}
use Rattle.basics.proofs.Bitmaps.{first_in, marked-holds}
use Rattle.faults.specs.inner.Places.{atom_places, term_places}
use Rattle.aspif.specs.Statements.{Theory, defines, collects, states, Line, theory_in}
use Rattle.aspif.specs.inner.Words.{word}
use Rattle.aspif.specs.inner.Kept.{AllInRange}
use Rattle.aspif.proofs.Decoding.{TheoryIf, theory-small}
use Rattle.diffs.specs.Diff.{Diff}
use Rattle.diffs.specs.inner.Answer.{said, diff_at, zero_difference}
use Rattle.diffs.specs.declared.Difference.{Difference}
use Rattle.terms.specs.Says.{Name, Names, headed}
use Rattle.terms.specs.Terms.{Stated, Lists, states_in, taken, external}
use Rattle.terms.specs.inner.Tables.{held_at, tabulated, States}
use Rattle.terms.specs.inner.Marks.{MarksThose, atoms_in, xs_in, ys_in, naming, x_numbers, y_numbers}
use Rattle.terms.proofs.ByKind.{Any}
use Rattle.terms.proofs.Stating.{says-listed, listed-says, atoms-taken}
use Rattle.terms.proofs.Bounds.{says-small}

-- ---- the first places of slices

tabulated-take : {A B : Type 0} (g : A → B) (xs : List B) (z : B) (f : ℕ → A) → ((i : ℕ) → g (f i) ≡ get_or xs i z) → (n : ℕ) → n ≤ length xs → map g (tabulated n f) ≡ take n xs
unfolding tabulated
tabulated-take g xs z f h zero l = refl
tabulated-take g xs z f h (suc n) l =
    map-append g (tabulated n f) (f n ∷ []) ∙ rw (tabulated-take g xs z f h n (omega arith), h n) (sym (take-suc xs n z (omega arith)))

-- what a slice of differences says
saying : (g : Diff → ℕ) (ds : List Difference) (h : Stated → ℕ) (f : ℕ → Stated) → ((i : ℕ) → h (f i) ≡ g (diff_at ds i)) → (n : ℕ) → n ≤ length ds
    → map h (tabulated n f) ≡ map (λ (d : Difference). g (said d)) (take n ds)
unfolding tabulated
saying g ds h f e zero l = refl
saying g ds h f e (suc n) l =
    map-append h (tabulated n f) (f n ∷ []) ∙ rw (saying g ds h f e n (omega arith), e n)
    (sym (ap (map (λ (d : Difference). g (said d))) (take-suc ds n zero_difference (omega arith)) ∙ map-append (λ (d : Difference). g (said d)) (take n ds) (get_or ds n zero_difference ∷ [])))

module _ (atoms : List ℕ) (ds : List Difference) (m : ℕ) where
  -- the atoms of the first m differences
  held-atoms : m ≤ length atoms → atoms_in (tabulated m (held_at atoms ds)) ≡ take m atoms
  unfolding word
  held-atoms = tabulated-take (λ (s : Stated). s.atom) atoms 0 (held_at atoms ds) (λ i. refl) m

  -- and what they say
  held_xs : m ≤ length ds → xs_in (tabulated m (held_at atoms ds)) ≡ x_numbers (take m ds)
  held_xs = saying (λ d. d.x) ds (λ (s : Stated). s.says.x) (held_at atoms ds) (λ i. refl) m

  held_ys : m ≤ length ds → ys_in (tabulated m (held_at atoms ds)) ≡ y_numbers (take m ds)
  held_ys = saying (λ d. d.y) ds (λ (s : Stated). s.says.y) (held_at atoms ds) (λ i. refl) m

-- ---- standing in a list

record Stands (g : Stated → ℕ) (ds : List Stated) (n : ℕ) : Type 0 where
  atom : ℕ
  diff : Diff
  listed : Lists ds atom diff
  is : g (record { atom = atom; says = diff }) ≡ n

stands : (g : Stated → ℕ) (ds : List Stated) (n : ℕ) → among n (map g ds) ≡ true → Stands g ds n
stands g [] n h = let z : ◌≡◌ {A = ℕ} 0 1 = (cc) in absurd (omega arith)
stands g (s ∷ ds) n h =
    ⊎_elim (λ e. record { atom = s.atom; diff = s.says; listed = inl refl; is = sym (eqb-true n (g s) e) })
    (λ e. let r = stands g ds n e in record { atom = r.atom; diff = r.diff; listed = inr r.listed; is = r.is })
    (or_cases (eqb n (g s)) (among n (map g ds)) h)

found_in : (g : Stated → ℕ) (ds : List Stated) (a : ℕ) (d : Diff) → Lists ds a d → among (g (record { atom = a; says = d })) (map g ds) ≡ true
found_in g [] a d q = absurd q
found_in g (s ∷ ds) a d q =
    ⊎_elim (λ e. rw (eq-eqb (g (record { atom = a; says = d })) (g s) (ap g (sym e)))) (λ w. rw (found_in g ds a d w) (or_true (eqb (g (record { atom = a; says = d })) (g s)))) q

-- ---- names

module _ (ls : List Line) (ds : List Stated) (h : States ls ds) where
  -- a number that stands as x or y in the list is a name
  naming-name : (n : ℕ) → naming ds n ≡ true → Name ls n
  naming-name n q =
      ⊎_elim
      (λ e. let r = stands (λ (s : Stated). s.says.x) ds n e in record { atom = r.atom; diff = r.diff; says = listed-says ls ds h r.atom r.diff r.listed; side = inl r.is })
      (λ e. let r = stands (λ (s : Stated). s.says.y) ds n e in record { atom = r.atom; diff = r.diff; says = listed-says ls ds h r.atom r.diff r.listed; side = inr r.is })
      (or_cases (among n (xs_in ds)) (among n (ys_in ds)) q)

  -- a name stands as x or y in the list
  name-naming : (n : ℕ) → Name ls n → naming ds n ≡ true
  name-naming n q =
      let l = says-listed ls ds h q.atom q.diff q.says in
      ⊎_elim
      (λ e. rw (rw e at (found_in (λ (s : Stated). s.says.x) ds q.atom q.diff l)))
      (λ e. rw (rw e at (found_in (λ (s : Stated). s.says.y) ds q.atom q.diff l)) (or_true (among n (xs_in ds))))
      q.side

-- ---- atoms are small

taken-below : (ls : List Line) (a : ℕ) → AllInRange ls → atom_places ≤ a → taken ls a ≡ false
unfolding taken
taken-below [] a q o = refl
taken-below (l ∷ ls) a q o = rw (no (theory_in l.says) (theory-small Any l.says q.0)) (taken-below ls a q.1 o)
  where
    no : (s : Option Theory) → TheoryIf Any s → states_in a s ≡ false
    no (some (defines u t)) k = refl
    no (some (collects v e)) k = refl
    no (some (states b p vs g)) k = ne_eqb a b (λ e. omega (arith, k.0.1))
    no none k = refl

-- ---- the numbers that a bitmap marks, ascending

marks-from : (i : ℕ) (x : List ℕ) → All (λ m. i ≤ m) (marks i x)
unfolding marks
marks-from i [] = tt
marks-from i (b ∷ x) =
    let r = all_so {Q = λ m. i ≤ m} (λ m h. omega arith) (marks (i + 1) x) (marks-from (i + 1) x) in
    picked (All (λ m. i ≤ m)) (eqb b 1) (i ∷ marks (i + 1) x) (marks (i + 1) x) (omega arith, r) r

marks_ascend : (i : ℕ) (x : List ℕ) → Ascending (marks i x)
unfolding marks
marks_ascend i [] = tt
marks_ascend i (b ∷ x) =
    let r = marks_ascend (i + 1) x in
    picked Ascending (eqb b 1) (i ∷ marks (i + 1) x) (marks (i + 1) x) (all_so (λ m h. omega arith) (marks (i + 1) x) (marks-from (i + 1) x), r) r

all_among : (P : ℕ → Type 0) (ns : List ℕ) → ((n : ℕ) → among n ns ≡ true → P n) → All P ns
all_among P [] h = tt
all_among P (n ∷ ns) h = (h n (first_in n ns), all_among P ns (λ m w. h m (or_right (eqb m n) (among m ns) w)))

marked-within : (x : List ℕ) (n : ℕ) → is_marked x n ≡ true → n < length x
marked-within [] n h = let z : ◌≡◌ {A = ℕ} 0 1 = (cc) in absurd (omega arith)
marked-within (b ∷ x) zero h = omega arith
marked-within (b ∷ x) (suc n) h = omega (arith, marked-within x n h)

-- ---- the bitmaps of the code

module _ (ls : List Line) (atoms : List ℕ) (differences : List Difference) (m : ℕ) (h : States ls (tabulated m (held_at atoms differences))) where
  -- what `mark_names` marks are the names, ascending
  pub names-are : (names : List ℕ) → AllInRange ls → m ≤ length differences
      → MarksThose term_places names (λ n. among n (x_numbers (take m differences)) || among n (y_numbers (take m differences))) → Names ls (marks 0 names)
  names-are names q l b =
      record {
        ascending = marks_ascend 0 names;
        all = λ n w. marked-holds names n ∙ b.each n (small n w) ∙ is n ∙ name-naming ls _ h n w;
        only = all_among (Name ls) (marks 0 names) (λ n w.
            let k = sym (marked-holds names n) ∙ w in
            naming-name ls _ h n (sym (is n) ∙ sym (b.each n (rw b.places at (marked-within names n k))) ∙ k));
      }
    where
      is : (n : ℕ) → among n (x_numbers (take m differences)) || among n (y_numbers (take m differences)) ≡ naming (tabulated m (held_at atoms differences)) n
      is n = rw (held_xs atoms differences m l, held_ys atoms differences m l)

      small : (n : ℕ) → Name ls n → n < term_places
      small n w =
          let s = (says-small ls w.atom w.diff q w.says).0 in
          ⊎_elim (λ e. rw (← e) s.x-small) (λ e. rw (← e) s.y-small) w.side

  -- what `externals` marks are exactly the external atoms
  pub externals-are : (ext : List ℕ) → AllInRange ls → m ≤ length atoms
      → MarksThose atom_places ext (λ a. among a (take m atoms) && not (headed ls a)) → (a : ℕ) → is_marked ext a ≡ external ls a
  externals-are ext q la b a = go (ltb a atom_places) refl
    where
      is : among a (take m atoms) ≡ taken ls a
      is = rw (← held-atoms atoms differences m la) (atoms-taken ls _ h a)

      go : (t : Bool) → ltb a atom_places ≡ t → is_marked ext a ≡ external ls a
      go true e = b.each a (ltb-true a atom_places e) ∙ rw is
      go false e =
          let o : atom_places ≤ a = ltb-false a atom_places e in
          let w : length ext ≤ a = omega (arith, b.places) in
          rw (get_or-eq_default ext 0 w, taken-below ls a q o)
