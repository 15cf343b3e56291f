-- What a theory atom says is exactly what `difference_of` finds; more lines change nothing that is said, and nothing else is said.
use Prim.Native.Nat.{ℕ}
use mathlib.Core.Path.{◌≡◌, refl, ap, ◌∙◌}
use mathlib.Core.Logic.{◌↔◌}
use mathlib.Core.List.{List, [], ◌∷◌, ◌++◌}
use mathlib.Core.Bool.{Bool, true, false, ◌&&◌}
use mathlib.Core.Option.{Option, some, none}
use native.Mathlib.Omega.{arith}
use borrow.Author.Tests.{eqb-true, eq-eqb}
use lib.Dec.{eqb}
use lib.IntN.{ℤ, pos, negsuc, neg_ℤ}
use Rattle.basics.specs.Bools.{pick}
use Rattle.aspif.specs.Statements.{Term, num, str, comp, Element, elem, unguarded, guard, states, Line}
use Rattle.diffs.specs.Diff.{Diff}
use Rattle.terms.specs.Says.{term, element_at, diff_word, minus, at_most, Bound, direct, under_minus, Difference}
use Rattle.terms.specs.Terms.{same_bytes, is_string, is_minus, opposite, bound_of, Pair, pair_of, pair_in, joined, difference_of, known, not_difference}
use Rattle.terms.proofs.Known.{term-append, element_append}

-- ---- what a test or a search that succeeds says

pub never : {A : Type 0} {a : A} → none ≡ some a → ⊥
never {A} {a} e = let z : ◌≡◌ {A = ℕ} 0 1 = (cc) in omega arith

not_true : false ≡ true → ⊥
not_true e = let z : ◌≡◌ {A = ℕ} 0 1 = (cc) in omega arith

-- the test holds, and what is picked is found
picked : {A : Type 0} (b : Bool) (x : Option A) (a : A) → pick b x none ≡ some a → (b ≡ true) × (x ≡ some a)
picked true x a h = (refl, h)
picked false x a h = absurd (never h)

same-is : (s l : List ℕ) → same_bytes s l ≡ true → s ≡ l
unfolding same_bytes
same-is [] [] h = refl
same-is [] (b ∷ l) h = absurd (not_true h)
same-is (a ∷ s) [] h = absurd (not_true h)
same-is (a ∷ s) (b ∷ l) h = go (same-is s l) (eqb a b) refl h
  where
    go : (same_bytes s l ≡ true → s ≡ l) → (x : Bool) → eqb a b ≡ x → x && same_bytes s l ≡ true → a ∷ s ≡ b ∷ l
    go r true q h = rw (eqb-true a b q, r h)
    go r false q h = absurd (not_true h)

string-is : (l : List ℕ) (x : Option Term) → is_string l x ≡ true → x ≡ some (str l)
unfolding is_string
string-is l none h = absurd (not_true h)
string-is l (some (num k)) h = absurd (not_true h)
string-is l (some (str s)) h = rw (same-is s l h)
string-is l (some (comp t us)) h = absurd (not_true h)

minus_is : (look : ℕ → Option Term) (z : ℤ) → is_minus look z ≡ true → (t : ℕ) × (z ≡ pos t) × (look t ≡ some (str minus))
unfolding is_minus
minus_is look (pos t) h = (t, refl, string-is minus (look t) h)
minus_is look (negsuc t) h = absurd (not_true h)

record Sides (look : ℕ → Option Term) (x : Option Term) (p : Pair) : Type 0 where
  t : ℕ
  pair : x ≡ some (comp (pos t) (p.x ∷ p.y ∷ []))
  sign : look t ≡ some (str minus)

pair_is : (look : ℕ → Option Term) (x : Option Term) (p : Pair) → pair_of look x ≡ some p → Sides look x p
unfolding pair_of
pair_is look none p h = absurd (never h)
pair_is look (some (num k)) p h = absurd (never h)
pair_is look (some (str s)) p h = absurd (never h)
pair_is look (some (comp t [])) p h = absurd (never h)
pair_is look (some (comp t (a ∷ []))) p h = absurd (never h)
pair_is look (some (comp t (a ∷ b ∷ []))) p h =
    let q = picked (is_minus look t) (some (record { x = a; y = b })) p h in
    let m = minus_is look t q.0 in
    let e : record { x = a; y = b } ≡ p = cc q.1 in
    record { t = m.0; pair = ap (λ (z : ℤ). some (comp z (a ∷ b ∷ []))) m.1 ∙ ap (λ (s : Pair). some (comp (pos m.0) (s.x ∷ s.y ∷ []))) e; sign = m.2 }
pair_is look (some (comp t (a ∷ b ∷ c ∷ us))) p h = absurd (never h)

record Inside (look : ℕ → Option Term) (x : Option Element) (p : Pair) : Type 0 where
  w : ℕ
  inside : x ≡ some (elem (w ∷ []) [])
  sides : Sides look (look w) p

inside_is : (look : ℕ → Option Term) (x : Option Element) (p : Pair) → pair_in look x ≡ some p → Inside look x p
unfolding pair_in
inside_is look none p h = absurd (never h)
inside_is look (some (elem [] ls)) p h = absurd (never h)
inside_is look (some (elem (w ∷ []) [])) p h = record { w = w; inside = refl; sides = pair_is look (look w) p h }
inside_is look (some (elem (w ∷ []) (l ∷ ls))) p h = absurd (never h)
inside_is look (some (elem (w ∷ u ∷ us) ls)) p h = absurd (never h)

opposite-is : (x : Option Term) (k : ℤ) → opposite x ≡ some k → (j : ℤ) × (x ≡ some (num j)) × (k ≡ neg_ℤ j)
unfolding opposite
opposite-is none k h = absurd (never h)
opposite-is (some (num j)) k h = (j, refl, cc h)
opposite-is (some (str s)) k h = absurd (never h)
opposite-is (some (comp t us)) k h = absurd (never h)

bound-is : (ls : List Line) (u : ℕ) (x : Option Term) (k : ℤ) → term ls u ≡ x → bound_of (term ls) x ≡ some k → Bound ls u k
unfolding bound_of
bound-is ls u none k e h = absurd (never h)
bound-is ls u (some (num j)) k e h = let q : j ≡ k = cc h in direct (e ∙ rw q)
bound-is ls u (some (str s)) k e h = absurd (never h)
bound-is ls u (some (comp t [])) k e h = absurd (never h)
bound-is ls u (some (comp t (n ∷ []))) k e h =
    let q = picked (is_minus (term ls) t) (opposite (term ls n)) k h in
    let m = minus_is (term ls) t q.0 in
    let o = opposite-is (term ls n) k q.1 in
    under_minus m.0 n o.0 (rw (← m.1) e) m.2 o.1 o.2
bound-is ls u (some (comp t (n ∷ m ∷ us))) k e h = absurd (never h)

joined_is : (p : Option Pair) (q : Option ℤ) (d : Diff) → joined p q ≡ some d → (p ≡ some (record { x = d.x; y = d.y })) × (q ≡ some d.k)
joined_is (some p) (some k) d h =
    let e : record { x = p.x; y = p.y; k = k } ≡ d = cc h in
    (ap (λ (s : Diff). some (record { x = s.x; y = s.y })) e, ap (λ (s : Diff). some s.k) e)
joined_is (some p) none d h = absurd (never h)
joined_is none q d h = absurd (never h)

-- ---- found is said

pub said : (ls : List Line) (p : ℕ) (vs : List ℕ) (g u : ℕ) (d : Diff) → difference_of (term ls) (element_at ls) p vs (guard g u) ≡ some d → Difference ls p vs g u d
unfolding difference_of
said ls p [] g u d h = absurd (never h)
said ls p (v ∷ w ∷ vs) g u d h = absurd (never h)
said ls p (v ∷ []) g u d h =
    let a = picked (is_string diff_word (term ls p)) _ d h in
    let b = picked (is_string at_most (term ls g)) (joined (pair_in (term ls) (element_at ls v)) (bound_of (term ls) (term ls u))) d a.1 in
    let j = joined_is (pair_in (term ls) (element_at ls v)) (bound_of (term ls) (term ls u)) d b.1 in
    let i = inside_is (term ls) (element_at ls v) (record { x = d.x; y = d.y }) j.0 in
    record {
      named = string-is diff_word (term ls p) a.0;
      v = v;
      one = refl;
      w = i.w;
      inside = i.inside;
      t = i.sides.t;
      pair = i.sides.pair;
      sign = i.sides.sign;
      order = string-is at_most (term ls g) b.0;
      bound = bound-is ls u (term ls u) d.k refl j.1;
    }

-- a theory atom without a guard says nothing
pub unsaid : (look : ℕ → Option Term) (els : ℕ → Option Element) (p : ℕ) (vs : List ℕ) (d : Diff) → difference_of look els p vs unguarded ≡ some d → ⊥
unfolding difference_of
unsaid look els p [] d h = never h
unsaid look els p (v ∷ []) d h = never h
unsaid look els p (v ∷ w ∷ vs) d h = never h

-- ---- more lines change nothing that is said

module _ (ls ms : List Line) where
  term-more : (u : ℕ) {x : Term} → term ls u ≡ some x → term (ls ++ ms) u ≡ some x
  term-more u {x} h = term-append ls ms u ∙ rw h

  element_more : (v : ℕ) {x : Element} → element_at ls v ≡ some x → element_at (ls ++ ms) v ≡ some x
  element_more v {x} h = element_append ls ms v ∙ rw h

  bound-more : {u : ℕ} {k : ℤ} → Bound ls u k → Bound (ls ++ ms) u k
  bound-more {u} (direct h) = direct (term-more u h)
  bound-more {u} (under_minus t n j a b c e) = under_minus t n j (term-more u a) (term-more t b) (term-more n c) e

  pub said_more : {p : ℕ} {vs : List ℕ} {g u : ℕ} {d : Diff} → Difference ls p vs g u d → Difference (ls ++ ms) p vs g u d
  said_more {p} {vs} {g} {u} {d} q =
      record {
        named = term-more p q.named;
        v = q.v;
        one = q.one;
        w = q.w;
        inside = element_more q.v q.inside;
        t = q.t;
        pair = term-more q.w q.pair;
        sign = term-more q.t q.sign;
        order = term-more g q.order;
        bound = bound-more q.bound;
      }

-- ---- nothing else is said

clash : {x : Option Term} {k : ℤ} {t : ℤ} {us : List ℕ} → x ≡ some (num k) → x ≡ some (comp t us) → ⊥
clash {x} {k} {t} {us} a b = let z : ◌≡◌ {A = ℕ} 0 1 = (cc) in omega arith

bound-one : {ls : List Line} {u : ℕ} {j k : ℤ} → Bound ls u j → Bound ls u k → j ≡ k
bound-one (direct a) (direct b) = (cc)
bound-one (direct a) (under_minus t n i b c d e) = absurd (clash a b)
bound-one (under_minus t n i b c d e) (direct a) = absurd (clash a b)
bound-one (under_minus t n i b c d e) (under_minus t' n' i' b' c' d' e') = (cc)

diff_eq : (d e : Diff) → d.x ≡ e.x → d.y ≡ e.y → d.k ≡ e.k → d ≡ e
diff_eq d e a b c = go a b c
  where
    go : {x y x' y' : ℕ} {k k' : ℤ} → x ≡ x' → y ≡ y' → k ≡ k' → ◌≡◌ {A = Diff} (record { x = x; y = y; k = k }) (record { x = x'; y = y'; k = k' })
    go {x} {y} {x'} {y'} {k} {k'} a b c = rw (a, b, c)

pub said_one : {ls : List Line} {p : ℕ} {vs : List ℕ} {g u : ℕ} {d e : Diff} → Difference ls p vs g u d → Difference ls p vs g u e → d ≡ e
said_one {ls} {p} {vs} {g} {u} {d} {e} a b = diff_eq d e same.0 same.1 (bound-one a.bound b.bound)
  where
    one : a.v ≡ b.v
    one = cc (a.one, b.one)

    two : a.w ≡ b.w
    two = cc (one, a.inside, b.inside)

    pairs : comp (pos a.t) (d.x ∷ d.y ∷ []) ≡ comp (pos b.t) (e.x ∷ e.y ∷ [])
    pairs = cc (two, a.pair, b.pair)

    same : (d.x ≡ e.x) × (d.y ≡ e.y)
    same = (cc pairs, cc pairs)

-- ---- said is found

same_self : (l : List ℕ) → same_bytes l l ≡ true
unfolding same_bytes
same_self [] = refl
same_self (a ∷ l) = rw (eq-eqb a a refl, same_self l)

string-found : (l : List ℕ) (x : Option Term) → x ≡ some (str l) → is_string l x ≡ true
unfolding is_string
string-found l x h = rw h (same_self l)

minus-found : (look : ℕ → Option Term) (t : ℕ) → look t ≡ some (str minus) → is_minus look (pos t) ≡ true
unfolding is_minus
minus-found look t h = string-found minus (look t) h

bound-found : (ls : List Line) (u : ℕ) (k : ℤ) → Bound ls u k → bound_of (term ls) (term ls u) ≡ some k
unfolding bound_of opposite
bound-found ls u k (direct h) = rw h
bound-found ls u k (under_minus t n j a b c e) = rw (a, minus-found (term ls) t b, c, e)

pair_found : (ls : List Line) (v w t x y : ℕ) → element_at ls v ≡ some (elem (w ∷ []) []) → term ls w ≡ some (comp (pos t) (x ∷ y ∷ [])) → term ls t ≡ some (str minus)
    → pair_in (term ls) (element_at ls v) ≡ some (record { x = x; y = y })
unfolding pair_in pair_of
pair_found ls v w t x y a b c = rw (a, b, minus-found (term ls) t c)

found_said : (ls : List Line) (p : ℕ) (vs : List ℕ) (g u : ℕ) (d : Diff) → Difference ls p vs g u d → difference_of (term ls) (element_at ls) p vs (guard g u) ≡ some d
unfolding difference_of
found_said ls p vs g u d q =
    rw (
      q.one,
      string-found diff_word (term ls p) q.named,
      string-found at_most (term ls g) q.order,
      pair_found ls q.v q.w q.t d.x d.y q.inside q.pair q.sign,
      bound-found ls u d.k q.bound,
    )

-- the test for 64 finds a difference exactly where one is said, and that one
pub difference_exactly : (ls : List Line) (p : ℕ) (vs : List ℕ) (g u : ℕ) (d : Diff) → (difference_of (term ls) (element_at ls) p vs (guard g u) ≡ some d) ↔ Difference ls p vs g u d
difference_exactly ls p vs g u d = (said ls p vs g u d, found_said ls p vs g u d)

-- so a theory atom that is a difference is not refused as none
pub difference-taken : (ls : List Line) (a p : ℕ) (vs : List ℕ) (g u : ℕ) (d : Diff) → Difference ls p vs g u d → not_difference (known ls) (some (states a p vs (guard g u))) ≡ false
difference-taken ls a p vs g u d q = rw (found_said ls p vs g u d q)
