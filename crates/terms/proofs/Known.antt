-- What was defined on the way is what the lines before define: a line that is sound defines no number twice.
use Prim.Native.Nat.{ℕ, zero, suc}
use mathlib.Core.Path.{◌≡◌, refl, sym, ◌∙◌, fun_ext}
use mathlib.Core.List.{List, [], ◌∷◌, ◌++◌}
use mathlib.Core.Bool.{Bool, true, false, ◌||◌}
use mathlib.Core.Option.{Option, some, none}
use borrow.Author.Tests.{eqb-true}
use lib.Dec.{eqb}
use lib.ListN.{get_or, replicate}
use Rattle.basics.specs.Bools.{pick}
use Rattle.basics.proofs.Bools.{or_assoc, or_none, or_true, or_neither}
use Rattle.basics.proofs.Lists.{zeros}
use Rattle.aspif.specs.inner.Words.{word}
use Rattle.aspif.specs.Statements.{Theory, defines, collects, states, Line, theory_in}
use Rattle.terms.specs.Says.{or_else, term_in, term, element_in, element_at}
use Rattle.terms.specs.Terms.{known, states_in, taken, defined, unsound, stated_by, more}
use Rattle.terms.specs.Reasons.{Reason, reason_of, answered, differences_from, differences}
use Rattle.terms.specs.inner.Tables.{changed, known_with, walk, term_on, element_on, look_in, elements_in, env_of}
use Rattle.terms.proofs.Six.{sound-line}

-- ---- more lines

pub or_else_assoc : {A : Type 0} (a b c : Option A) → or_else (or_else a b) c ≡ or_else a (or_else b c)
or_else_assoc (some a) b c = refl
or_else_assoc none b c = refl

-- what is defined in the first lines, or else in the others
pub term-append : (xs ys : List Line) (u : ℕ) → term (xs ++ ys) u ≡ or_else (term xs u) (term ys u)
unfolding term
term-append [] ys u = refl
term-append (l ∷ xs) ys u = rw (term-append xs ys u) (sym (or_else_assoc (term_in u (theory_in l.says)) (term xs u) (term ys u)))

pub element_append : (xs ys : List Line) (v : ℕ) → element_at (xs ++ ys) v ≡ or_else (element_at xs v) (element_at ys v)
unfolding element_at
element_append [] ys v = refl
element_append (l ∷ xs) ys v = rw (element_append xs ys v) (sym (or_else_assoc (element_in v (theory_in l.says)) (element_at xs v) (element_at ys v)))

pub taken-append : (xs ys : List Line) (a : ℕ) → taken (xs ++ ys) a ≡ taken xs a || taken ys a
unfolding taken
taken-append [] ys a = refl
taken-append (l ∷ xs) ys a = rw (taken-append xs ys a) (sym (or_assoc (states_in a (theory_in l.says)) (taken xs a) (taken ys a)))

-- ---- one more line

or_nothing : {A : Type 0} (a : Option A) → or_else a none ≡ a
or_nothing (some a) = refl
or_nothing none = refl

-- nothing is there
pub undefined : {A : Type 0} (a : Option A) → defined a ≡ false → a ≡ none
undefined (some a) h = let z : ◌≡◌ {A = Bool} true false = h in (cc)
undefined none h = refl

-- nothing more, or one number more
module _ {A : Type 0} (f : ℕ → Option A) where
  none_more : (λ v. or_else (f v) none) ≡ f
  none_more = fun_ext (λ v. or_nothing (f v))

  one_more : (u : ℕ) (x : A) → f u ≡ none → (λ v. or_else (f v) (pick (eqb v u) (some x) none)) ≡ changed f u (some x)
  one_more u x n = fun_ext (λ v. go v (eqb v u) refl)
    where
      go : (v : ℕ) (b : Bool) → eqb v u ≡ b → or_else (f v) (pick b (some x) none) ≡ pick b (some x) (f v)
      go v true q = rw (eqb-true v u q, n)
      go v false q = or_nothing (f v)

module _ (f : ℕ → Bool) where
  none-taken : (λ v. f v || false) ≡ f
  none-taken = fun_ext (λ v. or_none (f v))

  one-taken : (a : ℕ) → (λ v. f v || eqb v a) ≡ changed f a true
  one-taken a = fun_ext (λ v. go v (eqb v a))
    where
      go : (v : ℕ) (b : Bool) → f v || b ≡ pick b true (f v)
      go v true = or_true (f v)
      go v false = or_none (f v)

module _ (before : List Line) (l : Line) where
  terms_with : term (before ++ (l ∷ [])) ≡ (λ u. or_else (term before u) (term_in u (theory_in l.says)))
  unfolding term
  terms_with = fun_ext (λ u. term-append before (l ∷ []) u ∙ rw (or_nothing (term_in u (theory_in l.says))))

  elements_with : element_at (before ++ (l ∷ [])) ≡ (λ v. or_else (element_at before v) (element_in v (theory_in l.says)))
  unfolding element_at
  elements_with = fun_ext (λ v. element_append before (l ∷ []) v ∙ rw (or_nothing (element_in v (theory_in l.says))))

  taken_with : taken (before ++ (l ∷ [])) ≡ (λ a. taken before a || states_in a (theory_in l.says))
  unfolding taken
  taken_with = fun_ext (λ a. taken-append before (l ∷ []) a ∙ rw (or_none (states_in a (theory_in l.says))))

  -- a line that is sound adds what it says
  add-known : (s : Option Theory) → theory_in l.says ≡ s → unsound (known before) s ≡ false → known_with (known before) s ≡ known (before ++ (l ∷ []))
  unfolding known_with unsound
  add-known (some (defines u x)) e h =
      rw (terms_with, elements_with, taken_with, e, one_more (term before) u x (undefined (term before u) (or_neither _ _ h).0), none_more (element_at before), none-taken (taken before))
  add-known (some (collects v x)) e h =
      rw (terms_with, elements_with, taken_with, e, none_more (term before), one_more (element_at before) v x (undefined (element_at before v) (or_neither _ _ h).0), none-taken (taken before))
  add-known (some (states a p vs g)) e h = rw (terms_with, elements_with, taken_with, e, none_more (term before), none_more (element_at before), one-taken (taken before) a)
  add-known none e h = rw (terms_with, elements_with, taken_with, e, none_more (term before), none_more (element_at before), none-taken (taken before))

-- ---- the walk

-- the walk with what the lines before define
walk_is : (text : List ℕ) (before ls : List Line) → walk text (known before) ls ≡ differences_from text before ls
unfolding walk differences_from
walk_is text before [] = refl
walk_is text before (l ∷ ls) = go (walk_is text (before ++ (l ∷ [])) ls) (reason_of (known before) (theory_in l.says)) refl
  where
    go : walk text (known (before ++ (l ∷ []))) ls ≡ differences_from text (before ++ (l ∷ [])) ls → (x : Option Reason) → reason_of (known before) (theory_in l.says) ≡ x
        → answered text l.place x (more (stated_by (known before) (theory_in l.says)) (walk text (known_with (known before) (theory_in l.says)) ls))
        ≡ answered text l.place x (more (stated_by (known before) (theory_in l.says)) (differences_from text (before ++ (l ∷ [])) ls))
    go r (some x) q = refl
    go r none q = rw (add-known before l (theory_in l.says) refl (sound-line (known before) (theory_in l.says) q), r)

-- tables of zeros stand for no lines
pub start_is : (text t : List ℕ) (terms els seen : ℕ) (ls : List Line)
    → walk text (env_of t (replicate {A = ℕ} terms 0) (replicate {A = ℕ} els 0) (replicate {A = Bool} seen false)) ls ≡ differences text ls
unfolding differences env_of look_in term_on term elements_in element_on element_at taken word
start_is text t terms els seen ls =
    let x : look_in t (replicate {A = ℕ} terms 0) ≡ term [] = fun_ext (λ u. rw (zeros terms u)) in
    let y : elements_in t (replicate {A = ℕ} els 0) ≡ element_at [] = fun_ext (λ v. rw (zeros els v)) in
    let z : ◌≡◌ {A = ℕ → Bool} (λ a. get_or (replicate {A = Bool} seen false) a false) (taken []) = fun_ext (λ i. none-seen seen i) in
    rw (x, y, z) (walk_is text [] ls)
  where
    none-seen : (n i : ℕ) → get_or (replicate {A = Bool} n false) i false ≡ false
    none-seen zero i = refl
    none-seen (suc n) zero = refl
    none-seen (suc n) (suc i) = none-seen n i
