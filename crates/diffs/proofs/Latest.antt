-- How late an earliest time can be: at most K for each name but one, where no bound is below -K.
-- Below a time that is later there would be a gap of K with no time in it, by counting names, and all times above the gap could be one less.
use mathlib.Core.Path.{◌≡◌, refl, ap, subst}
use mathlib.Core.Logic.{◌⊎◌, inl, inr, ⊎_elim}
use mathlib.Core.List.{List, [], ◌∷◌}
use Prim.Native.Nat.{ℕ, zero, suc, ◌+◌, ◌-◌, ◌*◌, ◌≤◌, ◌<◌}
use native.Mathlib.Nat.{suc-mul}
use native.Mathlib.Omega.{arith}
use native.Mathlib.Decide.{dec_le, dec_lt}
use lib.ListN.{length}
use lib.IntN.{pos, neg_ℤ}
use lib.Signed.{◌≤ℤ◌}
use Rattle.basics.specs.Lists.{All, NotIn, Distinct}
use Rattle.diffs.specs.Diff.{Diff, Earliest}
use Rattle.diffs.specs.inner.Steps.{down, Holds}
use Rattle.diffs.proofs.Choosing.{by_dec, pick_dec, pick_yes, pick_no}
use Rattle.diffs.proofs.EarliestTimes.{unnamed_zero}
use Rattle.diffs.proofs.Integers.{one-zero, le_up, neg_up, keeps-holds, holds-keeps}
use Rattle.diffs.proofs.Names.{all_map, pigeon}

-- some a below n has P, or none has
some_below : (P : ℕ → Type 0) → ((a : ℕ) → Dec (P a)) → (n : ℕ) → ((a : ℕ) × (a < n) × P a) ⊎ ((a : ℕ) → a < n → ¬ (P a))
some_below P dec zero = inr (λ a h. let z : ⊥ = omega arith in absurd z)
some_below P dec (suc n) =
    by_dec (dec n) (λ y. inl (n, omega arith, y))
    (λ f. ⊎_elim (λ s. inl (s.0, omega (arith, s.1), s.2)) (λ g. inr (λ a h. by_dec (dec_lt a n) (λ l. g a l) (λ l y. f (subst P (omega arith) y)))) (some_below P dec n))

dec_both : {A B : Type 0} → Dec A → Dec B → Dec (A × B)
dec_both (yes a) (yes b) = yes (a, b)
dec_both (yes a) (no g) = no (λ p. g p.1)
dec_both (no f) b = no (λ p. f p.0)

module _ (S : Diff → Type 0) (n K : ℕ) (named : (d : Diff) → S d → (d.x < n) × (d.y < n)) (bounded : (d : Diff) → S d → neg_ℤ (pos K) ≤ℤ d.k) (u : ℕ → ℕ) (e : Earliest S u) where
  small : (d : Diff) → S d → down d.k ≤ K
  small d s =
      ⊎_elim (λ z. omega (arith, le_up (bounded d s), neg_up (pos K))) (λ z. omega arith) (one-zero d.k)

  holds : (d : Diff) → S d → Holds u d
  holds d s = keeps-holds u d (e.keeps d s)

  -- times that are one less above h
  lower : ℕ → ℕ → ℕ
  lower h a = pick_dec (dec_lt h (u a)) (u a - 1) (u a)

  high : (h a : ℕ) → h < u a → lower h a ≡ u a - 1
  unfolding lower
  high h a l = pick_yes (dec_lt h (u a)) (u a - 1) (u a) l

  low : (h a : ℕ) → ¬ (h < u a) → lower h a ≡ u a
  unfolding lower
  low h a l = pick_no (dec_lt h (u a)) (u a - 1) (u a) l

  -- no time stands in the K after h
  Gap : ℕ → Type 0
  Gap h = (a : ℕ) → a < n → ¬ ((h < u a) × (u a ≤ h + K))

  lower_holds : (h : ℕ) → Gap h → (d : Diff) → S d → Holds (lower h) d
  unfolding Gap
  lower_holds h g d s =
      by_dec (dec_lt h (u d.y))
      (λ y. by_dec (dec_lt h (u d.x))
      (λ x. omega (arith, high h d.x x, high h d.y y, holds d s))
      (λ x. by_dec (dec_le (u d.y) (h + K))
      (λ q. absurd (g d.y (named d s).1 (y, q)))
      (λ q. omega (arith, low h d.x x, high h d.y y, small d s))))
      (λ y. by_dec (dec_lt h (u d.x))
      (λ x. omega (arith, high h d.x x, low h d.y y, holds d s))
      (λ x. omega (arith, low h d.x x, low h d.y y, holds d s)))

  no_gap : (h v : ℕ) → h < u v → ¬ (Gap h)
  no_gap h v l g = omega (arith, high h v l, e.least (lower h) (λ d s. holds-keeps (lower h) d (lower_holds h g d s)) v)

  -- a name whose time is in the K after h
  between : (h v : ℕ) → h < u v → (a : ℕ) × (a < n) × (h < u a) × (u a ≤ h + K)
  unfolding Gap
  between h v l =
      ⊎_elim (λ s. (s.0, s.1, s.2.0, s.2.1)) (λ g. absurd (no_gap h v l g))
      (some_below (λ a. (h < u a) × (u a ≤ h + K)) (λ a. dec_both (dec_lt h (u a)) (dec_le (u a) (h + K))) n)

  -- a name whose time is 0
  less_holds : ((a : ℕ) → a < n → ¬ (u a ≤ 0)) → (d : Diff) → S d → Holds (λ a. u a - 1) d
  less_holds g d s =
      let x = g d.x (named d s).0 in
      let y = g d.y (named d s).1 in
      omega (arith, holds d s)

  zero-time : (v : ℕ) → 0 < u v → (a : ℕ) × (a < n) × (u a ≤ 0)
  zero-time v l =
      ⊎_elim (λ s. s)
      (λ g. let z : ⊥ = omega (arith, e.least (λ a. u a - 1) (λ d s. holds-keeps (λ a. u a - 1) d (less_holds g d s)) v) in absurd z)
      (some_below (λ a. u a ≤ 0) (λ a. dec_le (u a) 0) n)

  -- one name for each K below u v
  record Ladder (j : ℕ) : Type 0 where
    rungs : List ℕ
    many : length rungs ≡ j
    names : All (λ a. a < n) rungs
    times : All (λ a. (0 < u a) × (u a ≤ j * K)) rungs
    distinct : Distinct rungs

  off_high : (a h : ℕ) (l : List ℕ) → h < u a → All (λ b. (0 < u b) × (u b ≤ h)) l → NotIn a l
  off_high a h [] g q = tt
  off_high a h (b ∷ l) g q = (λ r. let z : ⊥ = omega (arith, ap u r, q.0.1) in z, off_high a h l g q.1)

  off_zero : (a : ℕ) (l : List ℕ) → u a ≤ 0 → All (λ b. 0 < u b) l → NotIn a l
  off_zero a [] g q = tt
  off_zero a (b ∷ l) g q = (λ r. let z : ⊥ = omega (arith, ap u r, q.0) in z, off_zero a l g q.1)

  ladder : (v j : ℕ) → j * K < u v → Ladder j
  ladder v zero l = record { rungs = []; many = refl; names = tt; times = tt; distinct = tt }
  ladder v (suc j) l =
      let r : Ladder j = ladder v j (omega (arith, suc-mul j K)) in
      let b = between (j * K) v (omega (arith, suc-mul j K)) in
      record {
        rungs = b.0 ∷ r.rungs;
        many = ap suc r.many;
        names = (b.1, r.names);
        times = ((omega (arith, b.2), omega (arith, b.3, suc-mul j K)), all_map (λ a. (0 < u a) × (u a ≤ j * K)) (λ a. (0 < u a) × (u a ≤ suc j * K)) (λ a q. (q.0, omega (arith, q.1, suc-mul j K))) r.rungs r.times);
        distinct = (off_high b.0 (j * K) r.rungs b.2 r.times, r.distinct);
      }

  -- n names: at most n - 1 times K
  too_many : (v j : ℕ) → v < n → n ≡ suc j → ¬ (j * K < u v)
  too_many v j vn nj l =
      let r : Ladder j = ladder v j l in
      let z = zero-time v (omega arith) in
      let p = pigeon n (z.0 ∷ (v ∷ r.rungs)) (
        ((λ q. let w : ⊥ = omega (arith, ap u q, z.2) in w, off_zero z.0 r.rungs z.2 (all_map (λ a. (0 < u a) × (u a ≤ j * K)) (λ a. 0 < u a) (λ a q. q.0) r.rungs r.times))),
        (off_high v (j * K) r.rungs l r.times, r.distinct),
      )
      (z.1, (vn, r.names))
      in omega (arith, p, r.many)

  -- an earliest time is at most (n - 1) * K, where all names are below n and no bound is below -K
  pub latest-time : (v : ℕ) → u v ≤ (n - 1) * K
  latest-time v =
      by_dec (dec_lt v n)
      (λ h. by_dec (dec_le (u v) ((n - 1) * K)) (λ l. l) (λ f. absurd (too_many v (n - 1) h (omega arith) (omega arith))))
      (λ h. let z : u v ≡ 0 = unnamed_zero S u e v (λ d s. (λ q. h (omega (arith, named d s)), λ q. h (omega (arith, named d s)))) in omega arith)
