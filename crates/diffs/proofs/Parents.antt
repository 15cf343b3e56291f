-- From a name that was still raised after as many rounds as the fewer of names and differences, the parents lead to a negative cycle.
-- A parent is at most m steps older, so enough parents stand in a row for a name to come twice: parents of different names are different differences,
-- of which there are m. On a closed row some parent was raised after its child, and that difference is slack, so the bounds sum below zero.
use mathlib.Core.Path.{◌≡◌, refl, ap, subst, sym, ◌∙◌}
use mathlib.Core.Logic.{◌⊎◌, inl, inr, ⊎_elim}
use mathlib.Core.List.{List, [], ◌∷◌}
use Prim.Native.Nat.{ℕ, suc, ◌+◌, ◌*◌, ◌≤◌, ◌<◌, min}
use native.Mathlib.Nat.{zero-mul, suc-mul, mul-le-mul_right}
use native.Mathlib.Omega.{arith}
use native.Mathlib.Decide.{dec_le}
use lib.ListN.{length, take, length-map}
use lib.Seq.{length-take-le}
use lib.IntN.{pos}
use lib.Signed.{◌<ℤ◌}
use Rattle.basics.specs.Lists.{All, NotIn, Distinct}
use Rattle.diffs.specs.Diff.{Diff, Path, Sum, NegCycle}
use Rattle.diffs.specs.inner.Answer.{Among}
use Rattle.diffs.specs.inner.Steps.{up, down, Link, Inv}
use Rattle.diffs.proofs.Choosing.{by_dec}
use Rattle.diffs.proofs.Integers.{up_lt, add-up}
use Rattle.diffs.proofs.Names.{ys_of, all_map, all_take, distinct_take, closed-different, pigeon}

module _ (m : ℕ) (c : ℕ → Diff) (b i : ℕ) (t p s : ℕ → ℕ) (v : Inv m c b i t p s) where
  -- d is the parent of some name
  pub record Used (d : Diff) : Type 0 where
    pub of : ℕ
    pub high : 0 < s of
    pub is : c (p of) ≡ d

  used_among : (d : Diff) → Used d → Among m c d
  used_among d u = record { number = p u.of; within = v.index u.of u.high; is = u.is }

  used_link : (d : Diff) → Used d → Link m t s d.y d
  used_link d u =
      let l : Link m t s u.of d = subst (λ (e : Diff). Link m t s u.of e) u.is (v.link u.of u.high) in
      subst (λ (a : ℕ). Link m t s a d) (sym l.ends) l

  -- along parents: the bounds' sum is below what the times lose, or the stamps grow
  Gain : ℕ → List Diff → ℕ → Type 0
  Gain a es z =
      (t z + up (Sum es) < t a + down (Sum es))
      ⊎ ((t z + up (Sum es) ≤ t a + down (Sum es)) × (s a + length es ≤ s z))

  gain_more : (d : Diff) (es : List Diff) (z : ℕ) → Link m t s d.y d → (s d.y ≤ s d.x) ⊎ (s d.x < s d.y) → Gain d.y es z → Gain d.x (d ∷ es) z
  unfolding Gain
  gain_more d es z l (inl h) (inl g) = inl (let f = l.strict h in omega (arith, add-up d.k (Sum es)))
  gain_more d es z l (inl h) (inr g) = inl (let f = l.strict h in omega (arith, add-up d.k (Sum es), g.0))
  gain_more d es z l (inr h) (inl g) = inl (omega (arith, l.tight, add-up d.k (Sum es)))
  gain_more d es z l (inr h) (inr g) = inr (omega (arith, l.tight, add-up d.k (Sum es), g.0), omega (arith, g.1))

  le_or : (a b : ℕ) → (a ≤ b) ⊎ (b < a)
  le_or a b = by_dec (dec_le a b) inl (λ n. inr (omega arith))

  gain : (a : ℕ) (es : List Diff) (z : ℕ) → Path a es z → All Used es → Gain a es z
  unfolding Gain
  gain a [] z q u = inr (omega (arith, ap t q), omega (arith, ap s q))
  gain a (d ∷ es) z q u =
      subst (λ (n : ℕ). Gain n (d ∷ es) z) q.0
      (gain_more d es z (used_link d u.0) (le_or (s d.y) (s d.x)) (gain d.y es z q.1 u.1))

  -- a closed path of parents sums below zero
  closed-below : (a : ℕ) (es : List Diff) → 0 < length es → Path a es a → All Used es → Sum es <ℤ pos 0
  unfolding Gain
  closed-below a es n q u =
      up_lt (⊎_elim (λ g. omega arith) (λ g. let z : ⊥ = omega (arith, g.1) in absurd z) (gain a es a q u))

  closed-cycle : (a : ℕ) (es : List Diff) → 0 < length es → Path a es a → All Used es → Distinct (ys_of es) → NegCycle (Among m c) es
  closed-cycle a es n q u w = record {
    members = all_map Used (Among m c) used_among es u;
    cycle = record { some = n; start = a; closed = q; different = closed-different a es q w };
    below = closed-below a es n q u;
  }

  -- ---- parents of different names have different numbers

  numbers_of : (es : List Diff) → All Used es → List ℕ
  numbers_of [] u = []
  numbers_of (d ∷ es) u = p u.0.of ∷ numbers_of es u.1

  numbers-length : (es : List Diff) (u : All Used es) → length (numbers_of es u) ≡ length es
  unfolding numbers_of
  numbers-length [] u = refl
  numbers-length (d ∷ es) u = ap suc (numbers-length es u.1)

  numbers-below : (es : List Diff) (u : All Used es) → All (λ j. j < m) (numbers_of es u)
  unfolding numbers_of
  numbers-below [] u = tt
  numbers-below (d ∷ es) u = (v.index u.0.of u.0.high, numbers-below es u.1)

  number_new : (j : ℕ) (es : List Diff) (u : All Used es) → NotIn (c j).y (ys_of es) → NotIn j (numbers_of es u)
  unfolding numbers_of
  number_new j [] u h = tt
  number_new j (d ∷ es) u h =
      (λ e. h.0 (ap (λ (i : ℕ). (c i).y) e ∙ ap (λ (f : Diff). f.y) u.0.is), number_new j es u.1 h.1)

  numbers-different : (es : List Diff) (u : All Used es) → Distinct (ys_of es) → Distinct (numbers_of es u)
  unfolding numbers_of
  numbers-different [] u h = tt
  numbers-different (d ∷ es) u h =
      (number_new (p u.0.of) es u.1 (subst (λ (f : Diff). NotIn f.y (ys_of es)) (sym u.0.is) h.0), numbers-different es u.1 h.1)

  few : (es : List Diff) → All Used es → Distinct (ys_of es) → length es ≤ m
  few es u h = omega (arith, pigeon m (numbers_of es u) (numbers-different es u h) (numbers-below es u), numbers-length es u)

  -- ---- the walk: es are the parents from `last` back to a

  module _ (n last : ℕ) (named : (j : ℕ) → j < m → ((c j).x < n) × ((c j).y < n)) where
    pub record Back (a : ℕ) (es : List Diff) : Type 0 where
      pub path : Path a es last
      pub used : All Used es
      pub different : Distinct (ys_of es)
      pub name : a < n
      pub late : min n m * m < s a + length es * m

    pub begins : last < n → min n m * m < s last → Back last []
    begins h g = record { path = refl; used = tt; different = tt; name = h; late = omega (arith, zero-mul m) }

    ys_below : (es : List Diff) → All Used es → All (λ a. a < n) (ys_of es)
    ys_below [] u = tt
    ys_below (d ∷ es) u =
        let a = used_among d u.0 in
        (subst (λ (e : Diff). e.y < n) a.is (named a.number a.within).1, ys_below es u.1)

    -- fewer than n parents so far, and one more
    pub short : (a : ℕ) (es : List Diff) → Back a es → NotIn a (ys_of es) → length es < n
    short a es w h = omega (arith, pigeon n (a ∷ ys_of es) (h, w.different) (w.name, ys_below es w.used), length-map es (λ (d : Diff). d.y))

    pub high : (a : ℕ) (es : List Diff) → Back a es → NotIn a (ys_of es) → 0 < s a
    high a es w h =
        let k : length es ≤ min n m = omega (arith, short a es w h, few es w.used w.different) in
        omega (arith, w.late, mul-le-mul_right m k)

    pub more : (a : ℕ) (es : List Diff) → Back a es → NotIn a (ys_of es) → Back (c (p a)).x (c (p a) ∷ es)
    more a es w h =
        let g : 0 < s a = high a es w h in
        let l : Link m t s a (c (p a)) = v.link a g in
        record {
          path = (refl, subst (λ (q : ℕ). Path q es last) (sym l.ends) w.path);
          used = (record { of = a; high = g; is = refl }, w.used);
          different = (subst (λ (q : ℕ). NotIn q (ys_of es)) (sym l.ends) h, w.different);
          name = (named (p a) (v.index a g)).0;
          late = omega (arith, w.late, l.lag, suc-mul (length es) m);
        }

    -- a is the start, and the end of the first k
    pub found : (a : ℕ) (es : List Diff) → Back a es → (k : ℕ) → 0 < k → k ≤ length es → Path a (take k es) a → NegCycle (Among m c) (take k es)
    found a es w k h j q =
        closed-cycle a (take k es) (omega (arith, length-take-le k es j)) q (all_take Used k es w.used) (distinct_take k es w.different)
