-- At most 4,096 differences are in force: their atoms differ and are to 4,096, and 0 is none of them, since no candidate marks it.
use Prim.Native.Nat.{ℕ, ◌≤◌, ◌<◌}
use mathlib.Core.Path.{◌≡◌, refl, ap, ◌∙◌, sym}
use mathlib.Core.Bool.{Bool, true, false}
use mathlib.Core.List.{List, [], ◌∷◌, map}
use native.Mathlib.Omega.{arith}
use lib.Dec.{lit<}
use lib.ListN.{length, length-map}
use Rattle.faults.specs.Limits.{last_atom}
use Rattle.faults.specs.inner.Places.{atom_places}
use Rattle.basics.specs.Bools.{pick}
use Rattle.basics.specs.inner.Bitmaps.{is_marked}
use Rattle.basics.specs.Lists.{All, NotIn, Distinct}
use Rattle.diffs.proofs.Names.{pigeon}
use Rattle.terms.specs.Terms.{Stated}
use Rattle.judge.specs.inner.Stages.{in_force, SmallStated}
use Rattle.judge.proofs.Firsts.{all_force}

-- the atoms of differences
abbrev atoms_in : List Stated → List ℕ
atoms_in ds = map (λ (s : Stated). s.atom) ds

module _ (x : List ℕ) where
  -- an atom that none has, none in force has
  still_out : (a : ℕ) (ds : List Stated) → NotIn a (atoms_in ds) → NotIn a (atoms_in (in_force x ds))
  unfolding in_force
  still_out a [] h = tt
  still_out a (s ∷ ds) h = go (is_marked x s.atom) (still_out a ds h.1)
    where
      go : (t : Bool) → NotIn a (atoms_in (in_force x ds)) → NotIn a (atoms_in (pick t (s ∷ in_force x ds) (in_force x ds)))
      go true q = (h.0, q)
      go false q = q

  -- atoms that differ do so in force
  still-differ : (ds : List Stated) → Distinct (atoms_in ds) → Distinct (atoms_in (in_force x ds))
  unfolding in_force
  still-differ [] h = tt
  still-differ (s ∷ ds) h = go (is_marked x s.atom) (still_out s.atom ds h.0) (still-differ ds h.1)
    where
      go : (t : Bool) → NotIn s.atom (atoms_in (in_force x ds)) → Distinct (atoms_in (in_force x ds)) → Distinct (atoms_in (pick t (s ∷ in_force x ds) (in_force x ds)))
      go true p q = (p, q)
      go false p q = q

  -- no difference in force is of atom 0
  zero_out : is_marked x 0 ≡ false → (ds : List Stated) → NotIn 0 (atoms_in (in_force x ds))
  unfolding in_force
  zero_out z [] = tt
  zero_out z (s ∷ ds) = go (is_marked x s.atom) refl (zero_out z ds)
    where
      go : (t : Bool) → is_marked x s.atom ≡ t → NotIn 0 (atoms_in (in_force x ds)) → NotIn 0 (atoms_in (pick t (s ∷ in_force x ds) (in_force x ds)))
      go true e q = (λ f. let o : false ≡ true = sym z ∙ ap (is_marked x) f ∙ e in let w : ◌≡◌ {A = ℕ} 0 1 = (cc) in omega arith, q)
      go false e q = q

  -- the atoms are to 4,096
  atoms-below : (ds : List Stated) → All SmallStated ds → All (λ a. a < atom_places) (atoms_in ds)
  atoms-below [] h = tt
  atoms-below (s ∷ ds) h = (h.0.1, atoms-below ds h.1)

  -- no more are in force than there are atoms
  pub few_force : is_marked x 0 ≡ false → (ds : List Stated) → Distinct (atoms_in ds) → All SmallStated ds → length (in_force x ds) ≤ last_atom
  few_force z ds d w =
      let p = pigeon atom_places (0 ∷ atoms_in (in_force x ds)) (zero_out z ds, still-differ ds d) (lit< tt, atoms-below (in_force x ds) (all_force x SmallStated ds w)) in
      omega (arith, length-map (in_force x ds) (λ (s : Stated). s.atom))
