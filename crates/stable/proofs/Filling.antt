-- A bitmap filled with the external atoms in x, place by place. Assumes nothing.
use Prim.Native.Nat.{ℕ, ◌+◌, ◌≤◌, ◌<◌}
use mathlib.Core.Bool.{◌&&◌}
use mathlib.Core.List.{List}
use mathlib.Core.Path.{◌≡◌, ap, sym, ◌∙◌}
use native.Mathlib.Decide.{dec_lt}
use native.Mathlib.Omega.{arith}
use borrow.Author.Count.{below_more}
use lib.Dec.{eqb}
use lib.ListN.{length, get_or, set, length-set}
use lib.Seq.{get_or-set_same, get_or-set_other}
use Rattle.basics.specs.inner.Bitmaps.{is_marked, NoneFrom}
use Rattle.basics.proofs.Bools.{and_none}
use Rattle.faults.specs.inner.Places.{atom_places}
use Rattle.stable.specs.inner.Steps.{Both}

-- the places below a are filled, those from a on are as they were
pub record Filled (ext x f : List ℕ) (a : ℕ) : Type 0 where
  pub long : length f ≡ atom_places
  pub done : (k : ℕ) → k < a → is_marked f k ≡ (is_marked ext k && is_marked x k)
  pub clear : (k : ℕ) → a ≤ k → get_or f k 0 ≡ 0

module _ {ext x f : List ℕ} {a : ℕ} (p : Filled ext x f a) where
  pub fill : (v : ℕ) → a < atom_places → eqb v 1 ≡ (eqb (get_or ext a 0) 1 && eqb (get_or x a 0) 1) → Filled ext x (set f a v) (a + 1)
  fill v h e = record {
    long = length-set f a v ∙ p.long;
    done = below_more (λ k. is_marked (set f a v) k ≡ (is_marked ext k && is_marked x k)) a
        (λ k l. ap (λ w. eqb w 1) (get_or-set_other f a k v 0 (omega arith)) ∙ p.done k l)
        (ap (λ w. eqb w 1) (get_or-set_same f a v 0 (omega (arith, p.long))) ∙ e);
    clear = λ k l. get_or-set_other f a k v 0 (omega arith) ∙ p.clear k (omega arith);
  }

  pub end : {top : ℕ} → NoneFrom top x → top ≤ a → Both ext x f
  end n h = record { now_in = λ k. go k (dec_lt k a) }
    where
      go : (k : ℕ) → Dec (k < a) → is_marked f k ≡ (is_marked ext k && is_marked x k)
      go k (yes y) = p.done k y
      go k (no o) = rw (p.clear k (omega arith), n k (omega arith)) (sym (and_none (is_marked ext k)))
