-- What statements use, and the leftmost of it that is not defined: one law for each way out of the code.
use Prim.Native.Nat.{ℕ, suc, ◌+◌, ◌-◌, ◌/◌, ◌≤◌, ◌<◌}
use mathlib.Core.Path.{◌≡◌, refl, sym, ◌∙◌, fun_ext}
use mathlib.Core.List.{List, [], ◌∷◌}
use mathlib.Core.Bool.{Bool, true, false}
use mathlib.Core.Option.{Option, some, none}
use native.Mathlib.Omega.{arith}
use lib.Dec.{eqb}
use lib.IntN.{ℤ, pos, negsuc}
use lib.ListN.{length}
use Rattle.std.specs.Prelude.{is_some, Some, None, MatchOption}
use Rattle.std.specs.Prelude as code
use Rattle.basics.specs.Bools.{pick}
use Rattle.aspif.specs.Statements.{Theory, defines, collects, states, theory_in}
use Rattle.aspif.specs.Grammar.{integer_of}
use Rattle.aspif.specs.inner.Words.{compound_kind, guarded_kind, word, words_from, says_at}
use Rattle.aspif.proofs.Walking.{first_word, words-length}
use Rattle.terms.specs.Says.{or_else}
use Rattle.terms.specs.inner.Values.{as_option}
use Rattle.terms.specs.Terms.{defined}
use Rattle.terms.specs.Reasons.{unknown_from, functor_use, term_use, guard_use, unknown_use}
use Rattle.terms.specs.inner.Tables.{role_of, is_term, place_in, look_in, elements_in, entered, env_of}
use Rattle.terms.specs.declared.lines.Role.TheVariants as role
use Rattle.terms.proofs.Known.{or_else_assoc}
use Rattle.terms.proofs.Signs.{term-half}
use Rattle.terms.proofs.ByKind.{by_kind, compound_says, role_does}
use Rattle.terms.proofs.Reading.{known_if, collected_if}

-- ---- the numbers that a table defines

entered-terms : (t terms : List ℕ) → entered terms ≡ (λ u. defined (look_in t terms u))
unfolding entered
entered-terms t terms = fun_ext (known_if t terms)

entered-elements : (t els : List ℕ) → entered els ≡ (λ v. defined (elements_in t els v))
unfolding entered
entered-elements t els = fun_ext (collected_if t els)

-- ---- one use, or else another

pub or_else_is : {A : Type 0} (a r : code.Option A) (a' b : Option A) (P : Type 0) → MatchOption a P (λ x. r ≡ Some x) → as_option a ≡ a' → (P → as_option r ≡ b) → as_option r ≡ or_else a' b
or_else_is None r a' b P h e f = rw (← e) (f h)
or_else_is (Some x) r a' b P h e f = rw (← e, h)

or_else_same : {A : Type 0} {a a' b b' c c' : Option A} → a ≡ a' → b ≡ b' → c ≡ c' → or_else a (or_else b c) ≡ or_else a' (or_else b' c')
or_else_same e f g = cc

-- ---- a list of numbers

-- the numbers from the turn i on decide the whole
pub record Passing (t table : List ℕ) (from k n i : ℕ) : Type 0 where
  pub rest : unknown_from (entered table) (k + 1 + i) (words_from t (from + i) (n - i)) ≡ unknown_from (entered table) (k + 1) (words_from t from n)

module _ (t table : List ℕ) (from k n : ℕ) where
  module _ (i u : ℕ) (o : code.Option ℕ) (h : i < n) (eu : u ≡ word t (from + i + 0)) (eo : o ≡ place_in table u) (r : Passing t table from k n i) where
    unknown_step : pick (is_some o) (unknown_from (entered table) (k + 1 + (i + 1)) (words_from t (from + (i + 1)) (n - (i + 1)))) (some (k + 1 + i)) ≡ unknown_from (entered table) (k + 1) (words_from t from n)
    unfolding unknown_from words_from entered
    unknown_step =
        let d : n - i ≡ suc (n - (i + 1)) = omega arith in
        let a : k + 1 + i + 1 ≡ k + 1 + (i + 1) = omega arith in
        let b : from + i + 1 ≡ from + (i + 1) = omega arith in
        rw eo (rw (d, a, b, first_word t (from + i) u eu) at r.rest)

    pub unknown_here : is_some o ≡ false → some (k + 1 + i) ≡ unknown_from (entered table) (k + 1) (words_from t from n)
    unknown_here z = rw z at unknown_step

    pub unknown-later : is_some o ≡ true → Passing t table from k n (i + 1)
    unknown-later z = record { rest = rw z at unknown_step }

  pub unknown-none : (i : ℕ) → n ≤ i → Passing t table from k n i → none ≡ unknown_from (entered table) (k + 1) (words_from t from n)
  unfolding unknown_from words_from
  unknown-none i h r = let e : n - i ≡ 0 = omega arith in rw e at r.rest

-- ---- a compound's t

no_functor : (z : ℤ) → is_term z ≡ false → functor_use z ≡ []
no_functor (pos n) h = let z : ◌≡◌ {A = Bool} true false = h in (cc)
no_functor (negsuc n) h = refl

module _ (terms : List ℕ) (f : ℕ) (b : Bool) (eb : b ≡ is_term (integer_of f)) where
  pub functor-none : b ≡ false → none ≡ unknown_from (entered terms) 3 (functor_use (integer_of f))
  unfolding unknown_from
  functor-none h = rw (no_functor (integer_of f) (sym eb ∙ h))

  module _ (o : code.Option ℕ) (h : b ≡ true) (eo : o ≡ place_in terms (f / 2)) where
    functor_step : pick (is_some o) none (some 3) ≡ unknown_from (entered terms) 3 (functor_use (integer_of f))
    unfolding unknown_from entered
    functor_step = rw (term-half f (sym eb ∙ h), eo)

    pub functor-unknown : is_some o ≡ false → some 3 ≡ unknown_from (entered terms) 3 (functor_use (integer_of f))
    functor-unknown z = rw z at functor_step

    pub functor-known : is_some o ≡ true → none ≡ unknown_from (entered terms) 3 (functor_use (integer_of f))
    functor-known z = rw z at functor_step

-- ---- a statement

module _ (t terms els : List ℕ) (seen : List Bool) (q : ℕ) where
  -- x is its leftmost use
  abbrev IsUse : Option ℕ → Type 0
  IsUse x = x ≡ unknown_use (env_of t terms els seen) (theory_in (says_at t q))

  -- ---- that defines a term

  -- it uses nothing
  abbrev Fair : Option Theory → Type 0
  Fair (some (defines u x)) = none ≡ term_use (env_of t terms els seen) x
  Fair (some (collects v e)) = Unit {0}
  Fair (some (states a p vs g)) = Unit {0}
  Fair none = Unit {0}

  module _ (r : role_of (word t q) ≡ role.Term) (k : ℕ) (ek : k ≡ word t (q + 0)) where
    pub term_plain : (k ≡ compound_kind → ⊥) → IsUse none
    term_plain o =
        let d = rw r at (role_does t q) in
        let f = by_kind t q Fair (λ h. refl) (λ h. refl) (λ h. absurd (o (sym (first_word t q k ek) ∙ h))) (λ h. tt) (λ h. tt) (λ h. tt) (λ h. tt) in
        rw d.1 (rw d.1 at f)

    pub term_compound : k ≡ compound_kind → (f n : ℕ) (x : Option ℕ) → f ≡ word t (q + 2) → n ≡ word t (q + 3)
        → x ≡ or_else (unknown_from (entered terms) 3 (functor_use (integer_of f))) (unknown_from (entered terms) 5 (words_from t (q + 4) n)) → IsUse x
    unfolding env_of
    term_compound o f n x ef en ex = rw (ex, ef, en, compound_says t q (first_word t q k ek ∙ o), entered-terms t terms)

  -- ---- that collects an element

  pub element_terms : role_of (word t q) ≡ role.Element → (n : ℕ) (x : Option ℕ) → n ≡ word t (q + 2) → x ≡ unknown_from (entered terms) 4 (words_from t (q + 3) n) → IsUse x
  unfolding env_of
  element_terms r n x en ex = let d = rw r at (role_does t q) in rw (ex, en, d.1, entered-terms t terms)

  -- ---- that states a theory atom

  module _ (r : role_of (word t q) ≡ role.Atom) (n : ℕ) (en : n ≡ word t (q + 3)) where
    name-is : unknown_from (entered terms) 3 (words_from t (q + 2) 1) ≡ unknown_from (λ u. defined (look_in t terms u)) 3 (word t (q + 2) ∷ [])
    unfolding words_from
    name-is = rw (entered-terms t terms)

    elements-are : unknown_from (entered els) 5 (words_from t (q + 4) n) ≡ unknown_from (λ v. defined (elements_in t els v)) 5 (words_from t (q + 4) (word t (q + 3)))
    elements-are = rw (en, entered-elements t els)

    -- the use of operator and bound, if there are any
    abbrev pub operands : Option ℕ
    operands = unknown_from (entered terms) (4 + n + 1) (words_from t (q + (4 + n)) 2)

    abbrev pub guarded : Option ℕ
    guarded = pick (eqb (word t q) guarded_kind) operands none

    -- it is their leftmost use
    abbrev Guarded : Option Theory → Type 0
    Guarded (some (defines u y)) = Unit {0}
    Guarded (some (collects v e)) = Unit {0}
    Guarded (some (states a p vs g)) = guarded ≡ guard_use (env_of t terms els seen) (5 + length vs) g
    Guarded none = Unit {0}

    operands-are : operands ≡ unknown_from (λ u. defined (look_in t terms u)) (5 + length (words_from t (q + 4) (word t (q + 3)))) (word t (q + 4 + word t (q + 3)) ∷ word t (q + 4 + word t (q + 3) + 1) ∷ [])
    unfolding words_from
    operands-are =
        let i : 5 + n ≡ 4 + n + 1 = omega arith in
        let j : q + 4 + n ≡ q + (4 + n) = omega arith in
        rw (words-length t (q + 4) (word t (q + 3)), ← en, i, j, entered-terms t terms)

    guarded-is : Guarded (theory_in (says_at t q))
    unfolding env_of
    guarded-is = by_kind t q Guarded (λ w. tt) (λ w. tt) (λ w. tt) (λ w. tt) (λ w. rw w) (λ w. rw w operands-are) (λ w. tt)

    pub atom_uses : (x : Option ℕ) → x ≡ or_else (or_else (unknown_from (entered terms) 3 (words_from t (q + 2) 1)) (unknown_from (entered els) 5 (words_from t (q + 4) n))) guarded → IsUse x
    unfolding env_of
    atom_uses x ex =
        let d = rw r at (role_does t q) in
        rw d.1 (ex ∙ or_else_assoc (unknown_from (entered terms) 3 (words_from t (q + 2) 1)) (unknown_from (entered els) 5 (words_from t (q + 4) n)) guarded ∙ or_else_same name-is elements-are (rw d.1 at guarded-is))
