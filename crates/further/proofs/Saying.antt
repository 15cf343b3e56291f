-- Added time rules leave what each old difference atom says. Assumes nothing.
use Prim.Native.Nat.{ℕ}
use mathlib.Core.Path.{◌≡◌, refl, sym, ◌∙◌}
use mathlib.Core.Bool.{Bool, true, false}
use mathlib.Core.Logic.{◌⊎◌, inl, inr, ⊎_elim}
use mathlib.Core.List.{List, [], ◌∷◌, ◌++◌}
use mathlib.Core.Option.{some, none}
use lib.Dec.{eqb}
use lib.IntN.{ℤ, pos}
use borrow.Author.Tests.{eqb-true}
use Rattle.basics.specs.Lists.{among}
use Rattle.basics.proofs.Bitmaps.{first_in}
use Rattle.aspif.specs.Statements.{comp, elem, guard, defines, collects, states, Statement, theory, Line, theory_in}
use Rattle.diffs.specs.Diff.{Diff}
use Rattle.terms.specs.Says.{term_in, term, element_in, element_at, Bound, direct, under_minus, Difference, Says, Name}
use Rattle.judge.specs.Plan.{Ready, Held, InForce}
use Rattle.further.specs.Later.{functor, terms, elements, Unused, Added, a_term, an_element, an_atom, a_fact, Grown, done, keep, add, Later}
use Rattle.further.proofs.Lists.{not_true, not-both, rest_in, Has}
use Rattle.further.proofs.Added.{says_on, says_back, unused_in, old_holds, candidate-same}
use Rattle.further.proofs.Lines.{term_said, element_said, says-stating, stating-says}

-- ---- used numbers

-- some line has n among its numbers of a kind
pub record Used (kind : Statement → List ℕ) (ls : List Line) (n : ℕ) : Type 0 where
  pub by : Statement
  pub line : Has ls by
  pub has : among n (kind by) ≡ true

-- no number is used and unused
apart : (kind : Statement → List ℕ) (ls : List Line) (u v : ℕ) → Used kind ls u → Unused kind ls v → eqb u v ≡ false
apart kind ls u v h i =
    not_true (eqb u v) (λ e. not-both h.has (unused_in kind ls u (rw (eqb-true u v e) i) h.by h.line))

-- t and the arguments of a compound are used
pub argument_used : (ls : List Line) (u : ℕ) (t : ℤ) (us : List ℕ) → term ls u ≡ some (comp t us) → (n : ℕ) → among n (functor t ++ us) ≡ true → Used terms ls n
argument_used ls u t us e n h = record { by = theory (defines u (comp t us)); line = term_said ls u (comp t us) e; has = rest_in n u (functor t ++ us) h }

-- the term of an element is used
pub inside_used : (ls : List Line) (v w : ℕ) → element_at ls v ≡ some (elem (w ∷ []) []) → Used terms ls w
inside_used ls v w e = record { by = theory (collects v (elem (w ∷ []) [])); line = element_said ls v (elem (w ∷ []) []) e; has = first_in w [] }

-- ---- terms and elements that are used stand for the same

module _ (ls : List Line) (new : List ℕ) where
  added_term : (u : ℕ) → Used terms ls u → (s : Statement) → Added ls new s → term_in u (theory_in s) ≡ none
  added_term u h s (a_term v x i) = rw (apart terms ls u v h i)
  added_term u h s (an_element v x i) = refl
  added_term u h s (an_atom a p vs g v i) = refl
  added_term u h s (a_fact a i) = refl

  added_element : (v : ℕ) → Used elements ls v → (s : Statement) → Added ls new s → element_in v (theory_in s) ≡ none
  added_element v h s (a_term u x i) = refl
  added_element v h s (an_element w x i) = rw (apart elements ls v w h i)
  added_element v h s (an_atom a p vs g u i) = refl
  added_element v h s (a_fact a i) = refl

module _ (P : Statement → Type 0) where
  term-grown : (u : ℕ) → ((s : Statement) → P s → term_in u (theory_in s) ≡ none) → {ls ms : List Line} → Grown P ls ms → term ms u ≡ term ls u
  unfolding term
  term-grown u f done = refl
  term-grown u f (keep l m e g) = rw (e, term-grown u f g)
  term-grown u f (add m i g) = rw (f m.says i) (term-grown u f g)

  element_grown : (v : ℕ) → ((s : Statement) → P s → element_in v (theory_in s) ≡ none) → {ls ms : List Line} → Grown P ls ms → element_at ms v ≡ element_at ls v
  unfolding element_at
  element_grown v f done = refl
  element_grown v f (keep l m e g) = rw (e, element_grown v f g)
  element_grown v f (add m i g) = rw (f m.says i) (element_grown v f g)

-- ---- a difference of the one is one of the other

module _ (ls ms : List Line)
    (same_t : (u : ℕ) → Used terms ls u → term ms u ≡ term ls u) (same_e : (v : ℕ) → Used elements ls v → element_at ms v ≡ element_at ls v) where
  bound_on : (u : ℕ) (k : ℤ) → Used terms ls u → Bound ls u k → Bound ms u k
  bound_on u k h (direct e) = direct (same_t u h ∙ e)
  bound_on u k h (under_minus t n j e f g i) =
      under_minus t n j (same_t u h ∙ e) (same_t t (argument_used ls u (pos t) (n ∷ []) e t (first_in t (n ∷ []))) ∙ f)
      (same_t n (argument_used ls u (pos t) (n ∷ []) e n (rest_in n t (n ∷ []) (first_in n []))) ∙ g) i

  bound-back : (u : ℕ) (k : ℤ) → Used terms ls u → Bound ms u k → Bound ls u k
  bound-back u k h (direct e) = direct (sym (same_t u h) ∙ e)
  bound-back u k h (under_minus t n j e f g i) =
      let c = sym (same_t u h) ∙ e in
      under_minus t n j c (sym (same_t t (argument_used ls u (pos t) (n ∷ []) c t (first_in t (n ∷ [])))) ∙ f)
      (sym (same_t n (argument_used ls u (pos t) (n ∷ []) c n (rest_in n t (n ∷ []) (first_in n [])))) ∙ g) i

  module _ (a p : ℕ) (vs : List ℕ) (g u : ℕ) (line : Has ls (theory (states a p vs (guard g u)))) (d : Diff) where
    used_term : (n : ℕ) → among n (p ∷ g ∷ u ∷ []) ≡ true → Used terms ls n
    used_term n e = record { by = theory (states a p vs (guard g u)); line = line; has = e }

    p_used : Used terms ls p
    p_used = used_term p (first_in p (g ∷ u ∷ []))

    g_used : Used terms ls g
    g_used = used_term g (rest_in g p (g ∷ u ∷ []) (first_in g (u ∷ [])))

    u_used : Used terms ls u
    u_used = used_term u (rest_in u p (g ∷ u ∷ []) (rest_in u g (u ∷ []) (first_in u [])))

    v_used : (v : ℕ) → vs ≡ v ∷ [] → Used elements ls v
    v_used v e = record { by = theory (states a p vs (guard g u)); line = line; has = rw e (first_in v []) }

    difference_on : Difference ls p vs g u d → Difference ms p vs g u d
    difference_on f = record {
      named = same_t p p_used ∙ f.named;
      v = f.v;
      one = f.one;
      w = f.w;
      inside = same_e f.v (v_used f.v f.one) ∙ f.inside;
      t = f.t;
      pair = same_t f.w (inside_used ls f.v f.w f.inside) ∙ f.pair;
      sign = same_t f.t (argument_used ls f.w (pos f.t) (d.x ∷ d.y ∷ []) f.pair f.t (first_in f.t (d.x ∷ d.y ∷ []))) ∙ f.sign;
      order = same_t g g_used ∙ f.order;
      bound = bound_on u d.k u_used f.bound;
    }

    difference-back : Difference ms p vs g u d → Difference ls p vs g u d
    difference-back f =
        let i = sym (same_e f.v (v_used f.v f.one)) ∙ f.inside in
        let j = sym (same_t f.w (inside_used ls f.v f.w i)) ∙ f.pair in
        record {
          named = sym (same_t p p_used) ∙ f.named;
          v = f.v;
          one = f.one;
          w = f.w;
          inside = i;
          t = f.t;
          pair = j;
          sign = sym (same_t f.t (argument_used ls f.w (pos f.t) (d.x ∷ d.y ∷ []) j f.t (first_in f.t (d.x ∷ d.y ∷ [])))) ∙ f.sign;
          order = sym (same_t g g_used) ∙ f.order;
          bound = bound-back u d.k u_used f.bound;
        }

-- ---- the plan with time rules added

-- an added theory atom is one of the new
added_atom : (ls : List Line) (new : List ℕ) (a p : ℕ) (vs : List ℕ) (g u : ℕ) → Added ls new (theory (states a p vs (guard g u))) → among a new ≡ true
added_atom ls new a p vs g u (an_atom b r ws h v i) = i

module _ (q q' : Ready) (new : List ℕ) (l : Later q q' new) where
  -- a term that an old line uses stands for the same
  pub same-term : (u : ℕ) → Used terms q.lines u → term q'.lines u ≡ term q.lines u
  same-term u h = term-grown (Added q.lines new) u (added_term q.lines new u h) l.lines

  -- an element that an old line uses stands for the same
  pub same_element : (v : ℕ) → Used elements q.lines v → element_at q'.lines v ≡ element_at q.lines v
  same_element v h = element_grown (Added q.lines new) v (added_element q.lines new v h) l.lines

  -- what an atom said, it says
  pub still-says : (a : ℕ) (d : Diff) → Says q.lines a d → Says q'.lines a d
  still-says a d x =
      let r = says-stating q.lines a d x in
      stating-says q'.lines a d (record {
        p = r.p;
        vs = r.vs;
        g = r.g;
        u = r.u;
        line = says_on (Added q.lines new) l.lines (theory (states a r.p r.vs (guard r.g r.u))) r.line;
        is = difference_on q.lines q'.lines same-term same_element a r.p r.vs r.g r.u r.line d r.is;
      })

  -- what an atom says, it said, or the atom is new
  pub only-says : (a : ℕ) (d : Diff) → Says q'.lines a d → Says q.lines a d ⊎ (among a new ≡ true)
  only-says a d x =
      let r = says-stating q'.lines a d x in
      ⊎_elim
      (λ o. inl (stating-says q.lines a d (record {
        p = r.p;
        vs = r.vs;
        g = r.g;
        u = r.u;
        line = o;
        is = difference-back q.lines q'.lines same-term same_element a r.p r.vs r.g r.u o d r.is;
      })))
      (λ n. inr (added_atom q.lines new a r.p r.vs r.g r.u n))
      (says_back (Added q.lines new) l.lines (theory (states a r.p r.vs (guard r.g r.u))) r.line)

  -- names of the old plan stay names
  pub still-name : (n : ℕ) → Name q.lines n → Name q'.lines n
  still-name n m = record { atom = m.atom; diff = m.diff; says = still-says m.atom m.diff m.says; side = m.side }

  -- the rules that held hold
  pub still-held : (a : ℕ) (d : Diff) → Held q a d → Held q' a d
  still-held a d h = record { holds = old_holds q q' new l a h.holds; says = still-says a d h.says }

  -- the rules that hold held, or their atom is new
  pub only-held : (a : ℕ) (d : Diff) → Held q' a d → Held q a d ⊎ (among a new ≡ true)
  only-held a d h = go (among a new) refl (only-says a d h.says)
    where
      go : (t : Bool) → among a new ≡ t → Says q.lines a d ⊎ (among a new ≡ true) → Held q a d ⊎ (among a new ≡ true)
      go true e x = inr e
      go false e (inl x) = inl (record { holds = candidate-same q q' new l a e ∙ h.holds; says = x })
      go false e (inr x) = inr x

  -- more differences are in force, and none less
  pub still_force : (d : Diff) → InForce q d → InForce q' d
  still_force d f = record { atom = f.atom; held = still-held f.atom d f.held }
