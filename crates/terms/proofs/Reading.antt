-- Terms, bounds, sides and the difference of a theory atom, by the tables: one law for each way out of the code.
use Prim.Native.Nat.{ℕ, zero, suc, ◌+◌, ◌-◌, ◌/◌, ◌≤◌, ◌<◌}
use mathlib.Core.Path.{◌≡◌, refl, sym, ◌∙◌}
use mathlib.Core.List.{List, [], ◌∷◌, map}
use mathlib.Core.Bool.{Bool, true, false, ◌&&◌}
use mathlib.Core.Option.{Option, some, none}
use native.Mathlib.Omega.{arith}
use borrow.Author.Tests.{eq-eqb, ne_eqb, eqb-true}
use lib.Dec.{eqb}
use lib.ListN.{length, get_or}
use lib.IntN.{ℤ, pos, negsuc, neg_ℤ}
use mir.Syntax.{w32}
use mir.Val.{to_z, of_z}
use Rattle.std.specs.Prelude.{is_some, Some, None}
use Rattle.std.specs.Option.{SomeIff}
use Rattle.std.specs.Prelude as code
use Rattle.basics.specs.Bools.{pick}
use Rattle.basics.proofs.Bools.{and_none, and_cases}
use Rattle.aspif.specs.Statements.{Literal, Term, num, str, comp, Element, elem, Guard, unguarded, guard}
use Rattle.aspif.specs.Grammar.{integer_of, literal_of}
use Rattle.aspif.specs.inner.Words.{number_kind, string_kind, compound_kind, element_kind, guarded_kind, word, words_from, literals_at}
use Rattle.aspif.proofs.Walking.{word_out, first_word, words-length}
use Rattle.terms.specs.Says.{diff_word, minus, at_most}
use Rattle.terms.specs.Terms.{defined, same_bytes, is_string, is_minus, opposite, bound_of, pair_of, pair_in, joined, difference_of}
use Rattle.terms.specs.inner.Tables.{is_term, minus_of, term_of, element_of, place_by, place_in, term_at, term_on, element_on, look_in, elements_in, difference_in, stated_on}
use Rattle.terms.specs.inner.Values.{OfKind}
use Rattle.terms.proofs.Signs.{back, fits_int, fits-opposite, term-half}
use Rattle.terms.proofs.ByKind.{by_kind, number-says, string-says, compound_says, element_says, guarded_says}

not_true : {A : Type 0} → false ≡ true → A
not_true e = let z : ◌≡◌ {A = ℕ} 0 1 = (cc) in absurd (omega arith)

-- ---- the place that an entry stands for

pub place_out : (table : List ℕ) (u : ℕ) → length table ≤ u → None ≡ place_in table u
place_out table u h = rw (← (word_out table u h))

pub place_is : (table : List ℕ) (u e : ℕ) (o : code.Option ℕ) → e ≡ get_or table u 0 → SomeIff o (1 ≤ e) (e - 1) → o ≡ place_in table u
unfolding word
place_is table u e o q h = rw (← q) (go o e h)
  where
    go : (o : code.Option ℕ) (e : ℕ) → SomeIff o (1 ≤ e) (e - 1) → o ≡ place_by e
    go None zero h = refl
    go None (suc q) h = absurd (h (omega arith))
    go (Some x) zero h = absurd (omega (arith, h.0))
    go (Some x) (suc q) h = let d : suc q - 1 ≡ q = omega arith in rw (h.1, d)

-- ---- a compound's t

no_minus : (look : ℕ → Option Term) (z : ℤ) → is_term z ≡ false → false ≡ is_minus look z
unfolding is_minus
no_minus look (pos n) h = let z : ◌≡◌ {A = Bool} true false = h in (cc)
no_minus look (negsuc n) h = refl

module _ (look : ℕ → Option Term) (f : ℕ) (b : Bool) (eb : b ≡ is_term (integer_of f)) where
  pub minus_other : b ≡ false → false ≡ is_minus look (integer_of f)
  minus_other h = no_minus look (integer_of f) (sym eb ∙ h)

  pub minus-term : b ≡ true → is_string minus (look (f / 2)) ≡ is_minus look (integer_of f)
  unfolding is_minus
  minus-term h = rw (term-half f (sym eb ∙ h))

-- ---- a compound of `-`

module _ (t : List ℕ) (look : ℕ → Option Term) (count q : ℕ) (k : ℕ) (ek : k ≡ word t (q + 0)) where
  pub minus-not : (k ≡ compound_kind → ⊥) → false ≡ minus_of look count (term_at t q)
  unfolding is_minus
  minus-not o =
      by_kind t q (λ x. false ≡ minus_of look count (term_of x)) (λ h. refl) (λ h. refl) (λ h. absurd (o (sym (first_word t q k ek) ∙ h))) (λ h. tuple) (λ h. tuple) (λ h. tuple) (λ h. tuple)
    where
      tuple : false ≡ eqb 0 count && false
      tuple = sym (and_none (eqb 0 count))

  module _ (o : k ≡ compound_kind) (n : ℕ) (en : n ≡ word t (q + 3)) where
    minus_step : eqb n count && is_minus look (integer_of (word t (q + 2))) ≡ minus_of look count (term_at t q)
    minus_step = rw (compound_says t q (first_word t q k ek ∙ o), words-length t (q + 4) (word t (q + 3)), en)

    pub minus_many : (n ≡ count → ⊥) → false ≡ minus_of look count (term_at t q)
    minus_many h = rw (ne_eqb n count h) at minus_step

    pub minus_is : (f : ℕ) → n ≡ count → f ≡ word t (q + 2) → is_minus look (integer_of f) ≡ minus_of look count (term_at t q)
    minus_is f h ef = rw ef (rw (eq-eqb n count h) at minus_step)

-- what stands where there is one
record Compounded (t : List ℕ) (look : ℕ → Option Term) (count q : ℕ) : Type 0 where
  functor : ℤ
  sign : is_minus look functor ≡ true
  is : term_at t q ≡ comp functor (words_from t (q + 4) count)

compounded : (t : List ℕ) (look : ℕ → Option Term) (count q : ℕ) → minus_of look count (term_at t q) ≡ true → Compounded t look count q
unfolding is_minus
compounded t look count q h =
    by_kind t q (λ x. term_at t q ≡ term_of x → minus_of look count (term_of x) ≡ true → Compounded t look count q)
    (λ _ j w. not_true w)
    (λ _ j w. not_true w)
    (λ _ j w.
    let c = and_cases (eqb (length (words_from t (q + 4) (word t (q + 3)))) count) (is_minus look (integer_of (word t (q + 2)))) w in
    let n : word t (q + 3) ≡ count = sym (words-length t (q + 4) (word t (q + 3))) ∙ eqb-true (length (words_from t (q + 4) (word t (q + 3)))) count c.0 in
    record { functor = integer_of (word t (q + 2)); sign = c.1; is = j ∙ rw n })
    (λ _ j w. tuple w)
    (λ _ j w. tuple w)
    (λ _ j w. tuple w)
    (λ _ j w. tuple w)
    refl
    h
  where
    tuple : eqb 0 count && false ≡ true → Compounded t look count q
    tuple w = not_true (and_cases (eqb 0 count) false w).1

-- ---- a term by the place of its entry

module _ (t terms : List ℕ) (u : ℕ) where
  pub known_if : is_some (place_in terms u) ≡ defined (look_in t terms u)
  unfolding look_in term_on
  known_if = go (place_in terms u)
    where
      go : (o : code.Option ℕ) → is_some o ≡ defined (term_on t o)
      go None = refl
      go (Some q) = refl

  module _ (z : None ≡ place_in terms u) where
    term_out : look_in t terms u ≡ none
    unfolding look_in term_on
    term_out = rw (← z)

    pub bound_out : none ≡ bound_of (look_in t terms) (look_in t terms u)
    unfolding bound_of
    bound_out = rw term_out

    pub pair_out : none ≡ pair_of (look_in t terms) (look_in t terms u)
    unfolding pair_of
    pair_out = rw term_out

  module _ (q : ℕ) (there : Some q ≡ place_in terms u) where
    term_is : look_in t terms u ≡ some (term_at t q)
    unfolding look_in term_on
    term_is = rw (← there)

    module _ (k : ℕ) (ek : k ≡ word t (q + 0)) where
      kind : word t q ≡ k
      kind = first_word t q k ek

      pub bound-number : (w : ℕ) (z : ℤ) → k ≡ number_kind → w ≡ word t (q + 2) → w < 4294967296 → z ≡ integer_of w
          → some (to_z w32 (of_z w32 z)) ≡ bound_of (look_in t terms) (look_in t terms u)
      unfolding bound_of
      bound-number w z nk ew h ez = rw (ez, back (fits_int w h), term_is, number-says t q (kind ∙ nk), ew)

      pub bound-not : (b : Bool) → (k ≡ number_kind → ⊥) → b ≡ minus_of (look_in t terms) 1 (term_at t q) → b ≡ false → none ≡ bound_of (look_in t terms) (look_in t terms u)
      unfolding bound_of
      bound-not b z eb h =
          rw term_is
          (by_kind t q (λ x. minus_of (look_in t terms) 1 (term_of x) ≡ false → none ≡ bound_of (look_in t terms) (some (term_of x))) (λ w. absurd (z (sym kind ∙ w))) (λ _ w. refl) (λ _ w. one (integer_of (word t (q + 2))) (words_from t (q + 4) (word t (q + 3))) w) (λ _ w. refl) (λ _ w. refl) (λ _ w. refl) (λ _ w. refl)
          (sym eb ∙ h))
        where
          one : (f : ℤ) (us : List ℕ) → eqb (length us) 1 && is_minus (look_in t terms) f ≡ false → none ≡ bound_of (look_in t terms) (some (comp f us))
          one f [] w = refl
          one f (n ∷ []) w = rw w
          one f (n ∷ m ∷ us) w = refl

    pub bound-minus : (b : Bool) (n : ℕ) → b ≡ minus_of (look_in t terms) 1 (term_at t q) → b ≡ true → n ≡ word t (q + 4)
        → opposite (look_in t terms n) ≡ bound_of (look_in t terms) (look_in t terms u)
    unfolding bound_of words_from
    bound-minus b n eb h en = let c = compounded t (look_in t terms) 1 q (sym eb ∙ h) in rw (term_is, c.is, c.sign, en)

    -- ---- two sides

    pub pair-not : (b : Bool) → b ≡ minus_of (look_in t terms) 2 (term_at t q) → b ≡ false → none ≡ pair_of (look_in t terms) (look_in t terms u)
    unfolding pair_of
    pair-not b eb h = rw term_is (go (term_at t q) (sym eb ∙ h))
      where
        go : (x : Term) → minus_of (look_in t terms) 2 x ≡ false → none ≡ pair_of (look_in t terms) (some x)
        go (num k) w = refl
        go (str s) w = refl
        go (comp f []) w = refl
        go (comp f (x ∷ [])) w = refl
        go (comp f (x ∷ y ∷ [])) w = rw w
        go (comp f (x ∷ y ∷ z ∷ us)) w = refl

    pub pair_is : (b : Bool) (x y : ℕ) → b ≡ minus_of (look_in t terms) 2 (term_at t q) → b ≡ true → x ≡ word t (q + 4) → y ≡ word t (q + 5)
        → some (record { x = x; y = y }) ≡ pair_of (look_in t terms) (look_in t terms u)
    unfolding pair_of words_from
    pair_is b x y eb h ex ey =
        let c = compounded t (look_in t terms) 2 q (sym eb ∙ h) in
        let i : q + 4 + 1 ≡ q + 5 = omega arith in
        rw (term_is, c.is, c.sign, i, ex, ey)

-- ---- a term by the statement that defines it, where that is to be of one kind

module _ (t terms : List ℕ) (u : ℕ) where
  pub string_out : (l : List ℕ) → OfKind t terms u string_kind None → false ≡ is_string l (look_in t terms u)
  unfolding is_string look_in term_on
  string_out l h = go (place_in terms u) refl
    where
      go : (o : code.Option ℕ) → o ≡ place_in terms u → false ≡ is_string l (term_on t o)
      go None z = refl
      go (Some q) z = by_kind t q (λ x. false ≡ is_string l (some (term_of x))) (λ w. refl) (λ w. absurd (h q z w)) (λ w. refl) (λ w. refl) (λ w. refl) (λ w. refl) (λ w. refl)

  pub string-is : (l : List ℕ) (q n : ℕ) → OfKind t terms u string_kind (Some q) → n ≡ word t (q + 2) → same_bytes (words_from t (q + 3) n) l ≡ is_string l (look_in t terms u)
  unfolding is_string
  string-is l q n h en = rw (term_is t terms u q h.0, string-says t q h.1, en)

  pub against_out : OfKind t terms u number_kind None → none ≡ opposite (look_in t terms u)
  unfolding opposite look_in term_on
  against_out h = go (place_in terms u) refl
    where
      go : (o : code.Option ℕ) → o ≡ place_in terms u → none ≡ opposite (term_on t o)
      go None z = refl
      go (Some q) z = by_kind t q (λ x. none ≡ opposite (some (term_of x))) (λ w. absurd (h q z w)) (λ w. refl) (λ w. refl) (λ w. refl) (λ w. refl) (λ w. refl) (λ w. refl)

  pub against-is : (q w : ℕ) (z : ℤ) → OfKind t terms u number_kind (Some q) → w ≡ word t (q + 2) → w < 4294967296 → z ≡ neg_ℤ (integer_of w)
      → some (to_z w32 (of_z w32 z)) ≡ opposite (look_in t terms u)
  unfolding opposite
  against-is q w z h ew l ez = rw (ez, back (fits-opposite w l), term_is t terms u q h.0, number-says t q h.1, ew)

-- ---- two sides in an element

pub collected_if : (t els : List ℕ) (v : ℕ) → is_some (place_in els v) ≡ defined (elements_in t els v)
unfolding elements_in element_on
collected_if t els v = go (place_in els v)
  where
    go : (o : code.Option ℕ) → is_some o ≡ defined (element_on t o)
    go None = refl
    go (Some q) = refl

module _ (t els : List ℕ) (v : ℕ) (look : ℕ → Option Term) where
  pub in_none : OfKind t els v element_kind None → none ≡ pair_in look (elements_in t els v)
  unfolding pair_in elements_in element_on
  in_none h = go (place_in els v) refl
    where
      go : (o : code.Option ℕ) → o ≡ place_in els v → none ≡ pair_in look (element_on t o)
      go None z = refl
      go (Some q) z = by_kind t q (λ x. none ≡ pair_in look (some (element_of x))) (λ w. refl) (λ w. refl) (λ w. refl) (λ w. absurd (h q z w)) (λ w. refl) (λ w. refl) (λ w. refl)

  module _ (q : ℕ) (there : OfKind t els v element_kind (Some q)) (n : ℕ) (en : n ≡ word t (q + 2)) where
    collected : elements_in t els v ≡ some (elem (words_from t (q + 3) n) (literals_at t (q + 3 + n)))
    unfolding elements_in element_on
    collected = rw (← there.0, element_says t q there.1, en)

    pub in_many : (n ≡ 1 → ⊥) → none ≡ pair_in look (elements_in t els v)
    unfolding pair_in words_from
    in_many h = rw collected (go n (literals_at t (q + 3 + n)) h)
      where
        go : (n : ℕ) (c : List Literal) → (n ≡ 1 → ⊥) → none ≡ pair_in look (some (elem (words_from t (q + 3) n) c))
        go zero c h = refl
        go (suc zero) c h = absurd (h refl)
        go (suc (suc n)) c h = refl

    module _ (one : n ≡ 1) (m : ℕ) (em : m ≡ word t (q + 4)) where
      collected_one : elements_in t els v ≡ some (elem (word t (q + 3) ∷ []) (map literal_of (words_from t (q + 4 + 1) m)))
      unfolding words_from
      collected_one = let i : q + 3 + 1 ≡ q + 4 = omega arith in collected ∙ rw (one, i, em)

      pub in_condition : (m ≡ 0 → ⊥) → none ≡ pair_in look (elements_in t els v)
      unfolding pair_in words_from
      in_condition h = rw collected_one (go m h)
        where
          go : (m : ℕ) → (m ≡ 0 → ⊥) → none ≡ pair_in look (some (elem (word t (q + 3) ∷ []) (map literal_of (words_from t (q + 4 + 1) m))))
          go zero h = absurd (h refl)
          go (suc m) h = refl

      pub in_is : (w : ℕ) → m ≡ 0 → w ≡ word t (q + 3) → pair_of look (look w) ≡ pair_in look (elements_in t els v)
      unfolding pair_in words_from
      in_is w h ew = rw (collected_one, h, ew)

-- ---- a difference

no_guard : (look : ℕ → Option Term) (els : ℕ → Option Element) (p : ℕ) (vs : List ℕ) → none ≡ difference_of look els p vs unguarded
unfolding difference_of
no_guard look els p [] = refl
no_guard look els p (v ∷ []) = refl
no_guard look els p (v ∷ w ∷ vs) = refl

not-one : (look : ℕ → Option Term) (els : ℕ → Option Element) (p : ℕ) (t : List ℕ) (q n : ℕ) (g : Guard) → (n ≡ 1 → ⊥)
    → none ≡ difference_of look els p (words_from t q n) g
unfolding difference_of words_from
not-one look els p t q zero g h = refl
not-one look els p t q (suc zero) g h = absurd (h refl)
not-one look els p t q (suc (suc n)) g h = refl

module _ (t terms els : List ℕ) (q k : ℕ) (ek : k ≡ word t (q + 0)) where
  pub diff_plain : (k ≡ guarded_kind → ⊥) → none ≡ stated_on t terms els q
  unfolding stated_on
  diff_plain o =
      by_kind t q (λ x. none ≡ difference_in (look_in t terms) (elements_in t els) x) (λ h. refl) (λ h. refl) (λ h. refl) (λ h. refl) (λ h. no_guard _ _ _ _) (λ h. absurd (o (sym (first_word t q k ek) ∙ h))) (λ h. refl)

  module _ (o : k ≡ guarded_kind) (n : ℕ) (en : n ≡ word t (q + 3)) where
    stated-is : difference_of (look_in t terms) (elements_in t els) (word t (q + 2)) (words_from t (q + 4) n) (guard (word t (q + 4 + n)) (word t (q + 4 + n + 1))) ≡ stated_on t terms els q
    unfolding stated_on
    stated-is = rw (guarded_says t q (first_word t q k ek ∙ o), en)

    pub diff_many : (n ≡ 1 → ⊥) → none ≡ stated_on t terms els q
    diff_many h = not-one _ _ _ _ _ _ _ h ∙ stated-is

    module _ (one : n ≡ 1) (name : ℕ) (ename : name ≡ word t (q + 2)) (b : Bool) (eb : b ≡ is_string diff_word (look_in t terms name)) where
      diff_step :
          pick b
          (pick (is_string at_most (look_in t terms (word t (q + 5))))
          (joined (pair_in (look_in t terms) (elements_in t els (word t (q + 4)))) (bound_of (look_in t terms) (look_in t terms (word t (q + 6)))))
          none)
          none
          ≡ stated_on t terms els q
      unfolding difference_of words_from
      diff_step =
          let x : q + 4 + 1 ≡ q + 5 = omega arith in
          let y : q + 5 + 1 ≡ q + 6 = omega arith in
          rw (one, x, y, ← ename, ← eb) at stated-is

      pub diff-named : b ≡ false → none ≡ stated_on t terms els q
      diff-named h = rw h at diff_step

      module _ (is : b ≡ true) (g : ℕ) (eg : g ≡ word t (q + 5)) (d : Bool) (ed : d ≡ is_string at_most (look_in t terms g)) where
        pub diff-guard : d ≡ false → none ≡ stated_on t terms els q
        diff-guard h = rw (is, ← eg, ← ed, h) at diff_step

        pub diff_is : (v u : ℕ) → d ≡ true → v ≡ word t (q + 4) → u ≡ word t (q + 6)
            → joined (pair_in (look_in t terms) (elements_in t els v)) (bound_of (look_in t terms) (look_in t terms u)) ≡ stated_on t terms els q
        diff_is v u h ev eu = rw (ev, eu) (rw (is, ← eg, ← ed, h) at diff_step)
