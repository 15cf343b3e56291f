-- The rounds as the code makes them, on lists: between two rounds, in the midst of one, and the steps from one to the other.
use borrow.Author.Count.{below_more}
use mathlib.Core.Path.{◌≡◌, refl, ap, subst, sym, ◌∙◌, fun_ext}
use mathlib.Core.Bool.{Bool, true, false}
use mathlib.Core.Logic.{◌⊎◌, inl, inr}
use mathlib.Core.List.{List}
use Prim.Native.Nat.{ℕ, ◌+◌, ◌-◌, ◌*◌, ◌^◌, ◌≤◌, ◌<◌, min}
use native.Mathlib.Nat.{zero-mul, suc-mul, mul-le-mul}
use native.Mathlib.Numerals.{add-one}
use native.Mathlib.Omega.{arith}
use lib.ListN.{length, length-set}
use lib.Seq.{get_or-set_same, get_or-set_other}
use Rattle.faults.specs.declared.TermNo.{TermNo}
use Rattle.faults.specs.Limits.{last_atom}
use Rattle.faults.specs.inner.Places.{term_places}
use Rattle.diffs.specs.Diff.{Diff, Earliest}
use Rattle.diffs.specs.inner.Answer.{cell, diff_at, Among}
use Rattle.diffs.specs.inner.Steps.{up, down, most_down, Holds, Relaxed, Inv, RaisedIn, BeforeRound, Mid, SettledOrStuck}
use Rattle.diffs.specs.declared.Difference.{Difference}
use Rattle.std.specs.Prelude.{Option, Some, None}
use Rattle.diffs.proofs.Choosing.{at_or, upd, upd_same, upd_other}
use Rattle.diffs.proofs.Relaxing.{Raise, raise, skip, start, again, settled}

more-mul : (r m : ℕ) → (r + 1) * m ≡ r * m + m
more-mul r m = ap (λ (k : ℕ). k * m) (add-one r) ∙ suc-mul r m

module _ (m n : ℕ) (c : ℕ → Diff) where
  -- before the first round
  pub first : (t p : List ℕ) → ((a : ℕ) → cell t a ≡ 0) → length t ≡ n → length p ≡ n → BeforeRound m n c 0 None t p
  first t p z lt lp = record {
    s = λ _. 0;
    inv = subst (λ (b : ℕ). Inv m c b 0 (cell t) (cell p) (λ _. 0)) (sym (zero-mul m))
        (subst (λ (u : ℕ → ℕ). Inv m c 0 0 u (cell p) (λ _. 0)) (fun_ext (λ a. sym (z a))) (start m c (cell p)));
    times = lt;
    parents = lp;
    bound = λ a. omega (arith, z a);
    late = refl;
  }

  -- a time leaves room for a bound in 64 bits
  pub room : (r i : ℕ) (last : Option TermNo) (t p : List ℕ) → Mid m n c r i last t p → r ≤ term_places → m ≤ last_atom → i ≤ m → (a : ℕ) → cell t a < 2 ^ 62
  room r i last t p v hr hm hi a =
      let f : r * m ≤ term_places * last_atom = mul-le-mul hr hm in
      omega (arith, v.bound a)

  module _ (r i : ℕ) (last : Option TermNo) (t p t' p' : List ℕ) (v : Mid m n c r i last t p) where
    kept : Relaxed false (c i) i t p t' p' → Mid m n c r (i + 1) last t' p'
    kept q = record {
      s = v.s;
      inv = subst (λ (l : List ℕ). Inv m c (r * m) (i + 1) (cell t') (cell l) v.s) (sym q.2)
          (subst (λ (l : List ℕ). Inv m c (r * m) (i + 1) (cell l) (cell p) v.s) (sym q.1) (skip m c (r * m) i (cell t) (cell p) v.s v.inv q.0));
      times = ap length q.1 ∙ v.times;
      parents = ap length q.2 ∙ v.parents;
      bound = λ a. omega (arith, ap (λ (l : List ℕ). cell l a) q.1, v.bound a);
      raised = subst (λ (l : List ℕ). RaisedIn n (r * m) (i + 1) c (cell l) v.s last) (sym q.1) (one_more last v.raised);
    }
      where
        one_more : (l : Option TermNo) → RaisedIn n (r * m) i c (cell t) v.s l → RaisedIn n (r * m) (i + 1) c (cell t) v.s l
        one_more None h = below_more (λ j. Holds (cell t) (c j)) i h q.0
        one_more (Some a) h = h

    raised : i < m → (c i).y < n → down (c i).k ≤ most_down → Relaxed true (c i) i t p t' p' → Mid m n c r (i + 1) (Some (record { 0 = (c i).y })) t' p'
    raised im yn ks q = record {
      s = s';
      inv = raise m c (r * m) i (cell t) (cell p) v.s (cell t') (cell p') s' v.inv step;
      times = ap length q.1 ∙ length-set t y _ ∙ v.times;
      parents = ap length q.2 ∙ length-set p y i ∙ v.parents;
      bound = at_or (λ a. cell t' a ≤ (r * m + (i + 1)) * most_down) y
          (omega (arith, step.time, v.bound (c i).x))
          (λ a e. omega (arith, step.times a e, v.bound a));
      raised = (yn, omega (arith, step.stamp));
    }
      where
        y : ℕ
        y = (c i).y

        s' : ℕ → ℕ
        s' = upd v.s (c i).y (r * m + i + 1)

        new : cell t' (c i).y ≡ cell t (c i).x + down (c i).k - up (c i).k
        new = ap (λ (l : List ℕ). cell l (c i).y) q.1 ∙ get_or-set_same t (c i).y _ 0 (omega (arith, v.times))

        step : Raise m c (r * m) i (cell t) (cell p) v.s (cell t') (cell p') s'
        step = record {
          within = im;
          hit = q.0;
          time = omega (arith, new, q.0);
          parent = ap (λ (l : List ℕ). cell l (c i).y) q.2 ∙ get_or-set_same p (c i).y i 0 (omega (arith, v.parents));
          stamp = upd_same v.s (c i).y (r * m + i + 1);
          times = λ a e. ap (λ (l : List ℕ). cell l a) q.1 ∙ get_or-set_other t (c i).y a _ 0 e;
          parents = λ a e. ap (λ (l : List ℕ). cell l a) q.2 ∙ get_or-set_other p (c i).y a i 0 e;
          stamps = λ a e. upd_other v.s (c i).y (r * m + i + 1) a e;
        }

  -- a step as the code makes it: q says whether it raised, and last' is the name raised last after it
  pub stepped : (r i : ℕ) (last last' : Option TermNo) (t p t' p' : List ℕ) (q : Bool)
      → Mid m n c r i last t p → i < m → (c i).y < n → down (c i).k ≤ most_down → Relaxed q (c i) i t p t' p'
      → ((q ≡ true) × (last' ≡ Some (record { 0 = (c i).y }))) ⊎ ((q ≡ false) × (last' ≡ last))
      → Mid m n c r (i + 1) last' t' p'
  stepped r i last last' t p t' p' q v im yn ks x (inl w) =
      subst (λ (l : Option TermNo). Mid m n c r (i + 1) l t' p') (sym w.1)
      (raised r i last t p t' p' v im yn ks (subst (λ (b : Bool). Relaxed b (c i) i t p t' p') w.0 x))
  stepped r i last last' t p t' p' q v im yn ks x (inr w) =
      subst (λ (l : Option TermNo). Mid m n c r (i + 1) l t' p') (sym w.1)
      (kept r i last t p t' p' v (subst (λ (b : Bool). Relaxed b (c i) i t p t' p') w.0 x))

  -- a round that raised nothing leaves the earliest times
  pub quiet : (r : ℕ) (t p : List ℕ) → Mid m n c r m None t p → Earliest (Among m c) (cell t)
  quiet r t p v = settled m c (r * m) (cell t) (cell p) v.s v.inv v.raised

  -- after a round that raised something
  pub next : (r : ℕ) (a : TermNo) (t p : List ℕ) → Mid m n c r m (Some a) t p → BeforeRound m n c (r + 1) (Some a) t p
  next r a t p v = record {
    s = v.s;
    inv = subst (λ (b : ℕ). Inv m c b 0 (cell t) (cell p) v.s) (sym (more-mul r m)) (again m c (r * m) (cell t) (cell p) v.s v.inv);
    times = v.times;
    parents = v.parents;
    bound = λ b. omega (arith, v.bound b, more-mul r m);
    late = (v.raised.0, omega (arith, v.raised.1, more-mul r m));
  }

-- the round after as many as the fewer of names and differences raised `last`, or nothing
pub ended : (ds : List Difference) (r : ℕ) (last : Option TermNo) (t p : List ℕ) → Mid (length ds) term_places (diff_at ds) r (length ds) last t p
    → r ≡ min term_places (length ds) → SettledOrStuck ds last t p
ended ds r None t p v e = quiet (length ds) term_places (diff_at ds) r t p v
ended ds r (Some a) t p v e =
    record {
      t = cell t;
      s = v.s;
      b = r * length ds + length ds;
      inv = again (length ds) (diff_at ds) (r * length ds) (cell t) (cell p) v.s v.inv;
      name = v.raised.0;
      late = subst (λ (k : ℕ). k * length ds < v.s a.0) e v.raised.1;
    }
