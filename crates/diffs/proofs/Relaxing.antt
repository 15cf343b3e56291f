-- One step of relaxing keeps what holds of the times t, the parents p and the stamps s, and so does the start of the next round.
-- The differences are c 0, .., c (m - 1). A stamp, the number of the step that raised a name last, is no part of the code: it orders the parents in time.
use mathlib.Core.Path.{◌≡◌, refl, ap, subst, sym}
use mathlib.Core.Logic.{◌≢◌, ◌⊎◌, inl, inr, ⊎_elim}
use Prim.Native.Nat.{ℕ, ◌+◌, ◌≤◌, ◌<◌}
use native.Mathlib.Omega.{arith}
use native.Mathlib.Decide.{ℕ_discrete, dec_lt}
use Rattle.diffs.specs.Diff.{Diff, Keeps, whole, Earliest}
use Rattle.diffs.specs.inner.Answer.{Among}
use Rattle.diffs.specs.inner.Steps.{up, down, Holds, Link, Inv}
use Rattle.diffs.proofs.Choosing.{by_dec, at_or}
use Rattle.diffs.proofs.Integers.{holds-keeps, keeps-holds}

module _ (m : ℕ) (c : ℕ → Diff) where
  -- step i of the round raises the y of c i
  pub record Raise (b i : ℕ) (t p s t' p' s' : ℕ → ℕ) : Type 0 where
    pub within : i < m
    pub hit : t (c i).y + up (c i).k < t (c i).x + down (c i).k
    pub time : t' (c i).y + up (c i).k ≡ t (c i).x + down (c i).k
    pub parent : p' (c i).y ≡ i
    pub stamp : s' (c i).y ≡ b + i + 1
    pub times : (a : ℕ) → a ≢ (c i).y → t' a ≡ t a
    pub parents : (a : ℕ) → a ≢ (c i).y → p' a ≡ p a
    pub stamps : (a : ℕ) → a ≢ (c i).y → s' a ≡ s a

  module _ (b i : ℕ) (t p s t' p' s' : ℕ → ℕ) (v : Inv m c b i t p s) (r : Raise b i t p s t' p' s') where
    up-t : (a : ℕ) → t a ≤ t' a
    up-t = at_or (λ a. t a ≤ t' a) (c i).y (omega (arith, r.time, r.hit)) (λ a n. omega (arith, r.times a n))

    up-s : (a : ℕ) → s a ≤ s' a
    up-s = at_or (λ a. s a ≤ s' a) (c i).y (omega (arith, r.stamp, v.upto (c i).y)) (λ a n. omega (arith, r.stamps a n))

    -- the raised one's new link
    lag-first : Holds t (c i) ⊎ (b + i < s (c i).x + m) → s' (c i).y ≤ s' (c i).x + m
    lag-first (inl h) = let z : ⊥ = omega (arith, r.hit) in absurd z
    lag-first (inr h) = omega (arith, r.stamp, up-s (c i).x)

    first-strict : (a : ℕ) → s' (c i).y ≤ s' a → t a < t' a
    first-strict =
        at_or (λ a. s' (c i).y ≤ s' a → t a < t' a) (c i).y (λ h. omega (arith, r.time, r.hit))
        (λ a n h. let z : ⊥ = omega (arith, r.stamp, r.stamps a n, v.upto a) in absurd z)

    first : Link m t' s' (c i).y (c i)
    first = record {
      ends = refl;
      lag = lag-first (v.todo i (omega arith) r.within);
      tight = omega (arith, r.time, up-t (c i).x);
      strict = λ h. omega (arith, r.time, first-strict (c i).x h);
    }

    -- another one's link
    later : (a : ℕ) → a ≢ (c i).y → (x : ℕ) → s' a ≤ s' x → (s a ≤ s x) ⊎ (t x < t' x)
    later a n = at_or (λ x. s' a ≤ s' x → (s a ≤ s x) ⊎ (t x < t' x)) (c i).y
        (λ h. inr (omega (arith, r.time, r.hit)))
        (λ x w h. inl (omega (arith, r.stamps a n, r.stamps x w)))

    keep : (a : ℕ) (d : Diff) → a ≢ (c i).y → Link m t s a d → Link m t' s' a d
    keep a d n l = record {
      ends = l.ends;
      lag = omega (arith, r.stamps a n, up-s d.x, l.lag);
      tight = omega (arith, r.times a n, up-t d.x, l.tight);
      strict = λ h. ⊎_elim (λ e. let f = l.strict e in omega (arith, r.times a n, up-t d.x)) (λ e. omega (arith, r.times a n, l.tight)) (later a n d.x h);
    }

    still : (d : Diff) → d.x ≢ (c i).y → Holds t d → Holds t' d
    still d n h = omega (arith, r.times d.x n, up-t d.y)

    now_kept : (c i).x ≢ (c i).y → Holds t' (c i)
    now_kept n = omega (arith, r.times (c i).x n, r.time)

    done' : (j : ℕ) → (j < i) ⊎ (j ≡ i) → Holds t' (c j) ⊎ (b + j < s' (c j).x)
    done' j o =
        by_dec (ℕ_discrete (c j).x (c i).y)
        (λ e. inr (⊎_elim (λ h. omega (arith, r.stamp, ap s' e)) (λ h. omega (arith, r.stamp, ap s' e)) o))
        (λ n. ⊎_elim
        (λ h. ⊎_elim (λ k. inl (still (c j) n k)) (λ k. inr (omega (arith, r.stamps (c j).x n))) (v.done j h))
        (λ h. inl (subst (λ (q : ℕ). (c q).x ≢ (c i).y → Holds t' (c q)) (sym h) now_kept n))
        o)

    todo' : (j : ℕ) → i < j → j < m → Holds t' (c j) ⊎ (b + j < s' (c j).x + m)
    todo' j g h =
        by_dec (ℕ_discrete (c j).x (c i).y)
        (λ e. inr (omega (arith, r.stamp, ap s' e)))
        (λ n. ⊎_elim (λ k. inl (still (c j) n k)) (λ k. inr (omega (arith, r.stamps (c j).x n))) (v.todo j (omega arith) h))

    below_or : (j : ℕ) → j < i + 1 → (j < i) ⊎ (j ≡ i)
    below_or j h = by_dec (dec_lt j i) inl (λ n. inr (omega arith))

    pub raise : Inv m c b (i + 1) t' p' s'
    raise = record {
      low = λ w h. at_or (λ a. t' a ≤ w a) (c i).y
          (omega (arith, r.time, v.low w h (c i).x, h i r.within))
          (λ a n. omega (arith, r.times a n, v.low w h a));
      upto = at_or (λ a. s' a ≤ b + (i + 1)) (c i).y (omega (arith, r.stamp)) (λ a n. omega (arith, r.stamps a n, v.upto a));
      index = at_or (λ a. 0 < s' a → p' a < m) (c i).y
          (λ h. omega (arith, r.parent, r.within))
          (λ a n h. omega (arith, r.parents a n, v.index a (omega (arith, r.stamps a n))));
      link = at_or (λ a. 0 < s' a → Link m t' s' a (c (p' a))) (c i).y
          (λ h. subst (λ (q : ℕ). Link m t' s' (c i).y (c q)) (sym r.parent) first)
          (λ a n h. subst (λ (q : ℕ). Link m t' s' a (c q)) (sym (r.parents a n)) (keep a (c (p a)) n (v.link a (omega (arith, r.stamps a n)))));
      done = λ j h. done' j (below_or j h);
      todo = λ j g h. todo' j (omega arith) h;
    }

  -- c i is kept already
  module _ (b i : ℕ) (t p s : ℕ → ℕ) (v : Inv m c b i t p s) where
    pub skip : Holds t (c i) → Inv m c b (i + 1) t p s
    skip h = record {
      low = v.low;
      upto = λ a. omega (arith, v.upto a);
      index = v.index;
      link = v.link;
      done = λ j g. by_dec (dec_lt j i) (λ l. v.done j l) (λ n. inl (subst (λ (q : ℕ). Holds t (c q)) (same j g n) h));
      todo = λ j g k. v.todo j (omega arith) k;
    }
      where
        same : (j : ℕ) → j < i + 1 → ¬ (j < i) → i ≡ j
        same j g n = omega arith

  pub start : (p : ℕ → ℕ) → Inv m c 0 0 (λ _. 0) p (λ _. 0)
  start p = record {
    low = λ w h a. omega arith;
    upto = λ a. omega arith;
    index = λ a h. let z : ⊥ = omega arith in absurd z;
    link = λ a h. let z : ⊥ = omega arith in absurd z;
    done = λ j h. let z : ⊥ = omega arith in absurd z;
    todo = λ j g h. inr (omega arith);
  }

  module _ (b : ℕ) (t p s : ℕ → ℕ) (v : Inv m c b m t p s) where
    -- the next round
    pub again : Inv m c (b + m) 0 t p s
    again = record {
      low = v.low;
      upto = λ a. omega (arith, v.upto a);
      index = v.index;
      link = v.link;
      done = λ j h. let z : ⊥ = omega arith in absurd z;
      todo = λ j g h. ⊎_elim (λ k. inl k) (λ k. inr (omega arith)) (v.done j h);
    }

    -- no difference is left to keep
    pub settled : ((j : ℕ) → j < m → Holds t (c j)) → Earliest (Among m c) t
    settled h = record {
      keeps = λ d a. subst (λ (e : Diff). Keeps (whole t) e) a.is (holds-keeps t (c a.number) (h a.number a.within));
      least = λ w k n. v.low w (λ j g. keeps-holds w (c j) (k (c j) (record { number = j; within = g; is = refl }))) n;
    }
