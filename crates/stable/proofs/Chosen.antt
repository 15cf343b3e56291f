-- A walk through a choice head that marks its atoms in x: marked or still to come, the atoms stay the same. Assumes nothing.
use Prim.Native.Nat.{ℕ, ◌+◌, ◌≤◌, ◌<◌}
use mathlib.Core.Bool.{Bool, true, false, cond, ◌&&◌, ◌||◌}
use mathlib.Core.List.{List, ◌∷◌}
use mathlib.Core.Path.{◌≡◌, refl, ap, ◌∙◌, sym}
use native.Mathlib.Omega.{arith}
use borrow.Author.Tests.{eq-eqb, ne_eqb, eqb-true}
use lib.Dec.{eqb}
use mir.Val.{bool_byte}
use lib.ListN.{length, get_or, length-set, drop, drop_of_length-le}
use Rattle.basics.specs.Lists.{among}
use Rattle.basics.specs.inner.Bitmaps.{is_marked}
use Rattle.basics.proofs.Bools.{or_none}
use Rattle.faults.specs.inner.Places.{atom_places}
use Rattle.aspif.specs.Statements.{choice}
use Rattle.aspif.specs.inner.Kept.{SmallHead}
use Rattle.stable.specs.inner.Steps.{GrownMarks, MarkedOne, AddedMarks}
use Rattle.stable.proofs.Lines.{drop-next}
use Rattle.stable.proofs.Marks.{marked_le, grown_trans, member_set}

-- the atoms from i on
abbrev pub rest : (x ws : List ℕ) (i b : ℕ) → Bool
rest x ws i b = among b (drop i ws) && is_marked x b

pub record Walk (x ws f₀ f : List ℕ) (i added : ℕ) : Type 0 where
  pub small : SmallHead (choice (drop i ws))
  pub long : length f ≡ atom_places
  pub same : (b : ℕ) → (is_marked f₀ b || rest x ws 0 b) ≡ (is_marked f b || rest x ws i b)
  pub grown : GrownMarks f₀ f added

-- a mark as the code counts it
counted : {f g : List ℕ} {a k : ℕ} (new : Bool) → MarkedOne f g a (cond new 1 0) → k ≡ bool_byte new → MarkedOne f g a k
counted true m e = rw e m
counted false m e = rw e m

-- the head is b itself, or is not
take_it : (m e t o : Bool) → (e ≡ true → o ≡ true) → (m || ((e || t) && o)) ≡ ((e || m) || (t && o))
take_it true true t o f = refl
take_it true false t o f = refl
take_it false true t o f = f refl
take_it false false t o f = refl

leave_it : (m e t o : Bool) → (e ≡ true → o ≡ false) → (m || ((e || t) && o)) ≡ (m || (t && o))
leave_it m false t o f = refl
leave_it true true t o f = refl
leave_it false true true o f = refl
leave_it false true false o f = f refl

module _ {x ws f₀ f : List ℕ} {i added : ℕ} (k : Walk x ws f₀ f i added) where
  long-mark : {g : List ℕ} {a r : ℕ} → MarkedOne f g a r → length g ≡ atom_places
  long-mark m = ap length m.stored ∙ length-set f _ 1 ∙ k.long

  pub more : {g : List ℕ} {a r : ℕ} (new : Bool) → MarkedOne f g a (cond new 1 0) → r ≡ bool_byte new → added + r ≤ atom_places
  more {g} new m e = omega (arith, k.grown.counted, (counted new m e).grown.counted, marked_le g, long-mark m)

  pub end : length ws ≤ i → AddedMarks (λ (b : ℕ). among b ws && is_marked x b) f₀ f added
  end h = record { now_in = λ b. sym (k.same b ∙ rw (drop_of_length-le ws h) (or_none (is_marked f b))); grown = k.grown }

  module _ (h : i < length ws) where
    step : (b : ℕ) → rest x ws i b ≡ ((eqb b (get_or ws i 0) || among b (drop (i + 1) ws)) && is_marked x b)
    step b = rw (drop-next ws i h)

    smalls : SmallHead (choice (get_or ws i 0 ∷ drop (i + 1) ws))
    smalls = rw (drop-next ws i h) at k.small

    small-rest : SmallHead (choice (drop (i + 1) ws))
    small-rest = (smalls.0.1, omega (arith, smalls.1))

    -- the atom is a place of the bitmap
    pub atom : get_or ws i 0 < atom_places
    atom = omega (arith, smalls.0.0.1)

    pub leave : {g : List ℕ} {s : ℕ} → (get_or x (get_or ws i 0) 0 ≡ 1 → ⊥) → g ≡ f → s ≡ added → Walk x ws f₀ g (i + 1) s
    leave e u v = rw (u, v) record {
      small = small-rest;
      long = k.long;
      grown = k.grown;
      same = λ b. k.same b ∙ ap (λ r. is_marked f b || r) (step b)
          ∙ leave_it (is_marked f b) (eqb b (get_or ws i 0)) _ _ (λ q. rw (eqb-true b (get_or ws i 0) q) (ne_eqb _ 1 e));
    }

    pub take : {g h : List ℕ} {r s : ℕ} (new : Bool) → get_or x (get_or ws i 0) 0 ≡ 1 → MarkedOne f g (get_or ws i 0) (cond new 1 0) → r ≡ bool_byte new
        → h ≡ g → s ≡ added + r → Walk x ws f₀ h (i + 1) s
    take new e m n u v = rw (u, v) record {
      small = small-rest;
      long = long-mark m;
      grown = grown_trans k.grown (counted new m n).grown;
      same = λ b. k.same b ∙ ap (λ r. is_marked f b || r) (step b)
          ∙ take_it (is_marked f b) (eqb b (get_or ws i 0)) _ _ (λ q. rw (eqb-true b (get_or ws i 0) q) (eq-eqb _ 1 e))
          ∙ ap (λ c. c || rest x ws (i + 1) b) (sym (member_set f (get_or ws i 0) b (omega (arith, atom, k.long))) ∙ ap (λ l. is_marked l b) (sym m.stored));
    }
