-- Gathering the differences in force, in place: after i of them, the first n places hold those of the first i whose atom is marked, and from i on nothing has changed.
use Prim.Native.Nat.{ℕ, suc, ◌+◌, ◌≤◌, ◌<◌}
use mathlib.Core.Path.{◌≡◌, refl, sym, ap, ◌∙◌}
use mathlib.Core.Bool.{true, false}
use mathlib.Core.List.{List, [], ◌∷◌, ◌++◌, append-nil}
use native.Mathlib.Omega.{arith}
use native.Mathlib.Numerals.{add-one}
use lib.ListN.{length, get_or, set, take, length-set}
use lib.Seq.{length-take-le}
use Rattle.faults.specs.Limits.{last_atom}
use Rattle.basics.specs.inner.Bitmaps.{is_marked}
use Rattle.aspif.specs.inner.Words.{word}
use Rattle.diffs.specs.inner.Answer.{said, zero_difference}
use Rattle.diffs.specs.declared.Difference.{Difference}
use Rattle.terms.specs.inner.Tables.{tabulated, held_at}
use Rattle.terms.specs.inner.Values.{Within}
use Rattle.terms.proofs.Turns.{tabulated-same, others, this}
use Rattle.judge.specs.inner.Stages.{stated, in_force, Gathered, Filled, SmallStated, Labelled, Candidate}
use Rattle.judge.proofs.Firsts.{length-tabulated, in_force-append, tabulated-all, all_force, front-stated}
use Rattle.judge.proofs.Few.{few_force}

-- ---- one place more

module _ (labels : List ℕ) (gathered : List Difference) (n a : ℕ) (d : Difference) (ha : n < length labels) (hd : n < length gathered) where
  -- so the list has one more at its end
  one_more : tabulated (suc n) (held_at (set labels n a) (set gathered n d)) ≡ tabulated n (held_at labels gathered) ++ (record { atom = a; says = said d } ∷ [])
  unfolding tabulated
  one_more =
      rw (tabulated-same n (held_at (set labels n a) (set gathered n d)) (held_at labels gathered) (λ i h. others labels gathered n a d ha hd i (λ e. omega arith)), this labels gathered n a d ha hd)

-- ---- the loop

-- before difference i
pub record Going (atoms : List ℕ) (ds : List Difference) (x labels : List ℕ) (gathered : List Difference) (n i : ℕ) : Type 0 where
  pub for_atoms : length labels ≡ length atoms
  pub for_differences : length gathered ≡ length atoms
  pub few : n ≤ i
  pub so_far : tabulated n (held_at labels gathered) ≡ in_force x (tabulated i (held_at atoms ds))
  pub ahead : (j : ℕ) → i ≤ j → held_at labels gathered j ≡ held_at atoms ds j

-- nothing is gathered
pub going_start : (atoms : List ℕ) (ds : List Difference) (x : List ℕ) → Filled atoms ds → Going atoms ds x atoms ds 0 0
unfolding in_force tabulated
going_start atoms ds x f = record { for_atoms = refl; for_differences = f.alike; few = omega arith; so_far = refl; ahead = λ j h. refl }

module _ (atoms : List ℕ) (ds : List Difference) (x labels : List ℕ) (gathered : List Difference) where
  module _ (n i : ℕ) (g : Going atoms ds x labels gathered n i) (l : i < length atoms) where
    -- difference i is where it was
    here : held_at labels gathered i ≡ held_at atoms ds i
    here = g.ahead i (omega arith)

    -- one more is passed
    passed : in_force x (tabulated (i + 1) (held_at atoms ds)) ≡ in_force x (tabulated i (held_at atoms ds)) ++ in_force x (held_at labels gathered i ∷ [])
    unfolding tabulated
    passed = rw (add-one i, here, in_force-append x (tabulated i (held_at atoms ds)) (held_at atoms ds i ∷ []))

    -- difference i is not in force
    pub going_pass : is_marked x (get_or labels i 0) ≡ false → Going atoms ds x labels gathered n (i + 1)
    unfolding in_force word
    going_pass h =
        record {
          for_atoms = g.for_atoms;
          for_differences = g.for_differences;
          few = omega (arith, g.few);
          so_far = rw (passed, h, append-nil) g.so_far;
          ahead = λ j k. g.ahead j (omega arith);
        }

    -- difference i is in force
    pub going_take : is_marked x (get_or labels i 0) ≡ true → Going atoms ds x (set labels n (get_or labels i 0)) (set gathered n (get_or gathered i zero_difference)) (n + 1) (i + 1)
    unfolding in_force tabulated word
    going_take h =
        let few : n ≤ i = g.few in
        let ha : n < length labels = omega (arith, g.for_atoms) in
        let hd : n < length gathered = omega (arith, g.for_differences) in
        record {
          for_atoms = simp length-set g.for_atoms;
          for_differences = simp length-set g.for_differences;
          few = omega arith;
          so_far = rw (passed, add-one n, h, ← g.so_far) (one_more labels gathered n _ _ ha hd);
          ahead = λ j w. others labels gathered n _ _ ha hd j (λ z. omega arith) ∙ g.ahead j (omega arith);
        }

  -- all are passed
  pub going_end : (n i : ℕ) → Going atoms ds x labels gathered n i → i ≡ length atoms → Gathered (in_force x (stated atoms ds)) n labels gathered
  going_end n i g e =
      let w : Within n labels gathered = record { in_atoms = omega (arith, g.few, g.for_atoms); in_differences = omega (arith, g.few, g.for_differences) } in
      record { within = w; is = front-stated n labels gathered w ∙ rw e at g.so_far }

-- ---- what was gathered

-- the front parts of two slices are as long
pub fronts_alike : {n : ℕ} {labels : List ℕ} {gathered : List Difference} → Within n labels gathered → length (take n labels) ≡ length (take n gathered)
fronts_alike {n} {labels} {gathered} w = length-take-le n labels w.in_atoms ∙ sym (length-take-le n gathered w.in_differences)

module _ (atoms : List ℕ) (ds : List Difference) (f : Filled atoms ds) (x : List ℕ) (cand : Candidate x) (labels : List ℕ) (gathered : List Difference)
    (alike : length labels ≡ length gathered) (g : stated labels gathered ≡ in_force x (stated atoms ds)) where
  -- each that was gathered is within the bounds
  within : (i : ℕ) → i < length labels → SmallStated (held_at labels gathered i)
  within = tabulated-all SmallStated (length labels) (held_at labels gathered) (rw g (all_force x SmallStated (stated atoms ds) f.small))

  -- they are at most as many as there are atoms
  gathered_few : length labels ≤ last_atom
  gathered_few =
      omega (arith, length-tabulated (length labels) (held_at labels gathered), ap length g, few_force x cand.none (stated atoms ds) f.differ f.small)

  -- they are what the times are found of
  pub gathered_labelled : Labelled labels gathered
  gathered_labelled =
      record {
        few = omega (arith, gathered_few);
        labels_length = alike;
        small = λ j l. (within j (omega arith)).0;
      }
