-- Every difference that lines within the bounds say is within them, and so is its atom.
use Prim.Native.Nat.{ℕ, zero, suc, ◌≤◌, ◌<◌}
use mathlib.Core.Path.{◌≡◌, refl}
use mathlib.Core.Logic.{inl, inr, ⊎_elim}
use mathlib.Core.List.{List, [], ◌∷◌, map}
use mathlib.Core.Bool.{Bool, true, false}
use mathlib.Core.Option.{Option, some, none}
use native.Mathlib.Omega.{arith}
use lib.ListN.{length, length-map}
use lib.Dec.{eqb}
use lib.IntN.{ℤ, pos, negsuc, neg_ℤ}
use Rattle.basics.specs.Bools.{pick}
use Rattle.basics.specs.Lists.{All, Some}
use Rattle.faults.specs.Limits.{largest_number}
use Rattle.faults.specs.inner.Places.{atom_places}
use Rattle.aspif.specs.Statements.{Term, num, Theory, defines, collects, states, guard, unguarded, Line, theory_in}
use Rattle.aspif.specs.inner.Kept.{FromTo, TermWith, AllInRange}
use Rattle.diffs.specs.Diff.{Diff}
use Rattle.diffs.proofs.Names.{pigeon}
use Rattle.aspif.proofs.Decoding.{TheoryIf, theory-small}
use Rattle.terms.specs.Says.{or_else, term_in, term, Bound, direct, under_minus, Difference, SaysIn, Says}
use Rattle.terms.specs.Terms.{Stated, Lists}
use Rattle.terms.specs.inner.Tables.{SmallDiff, States}
use Rattle.terms.proofs.ByKind.{Any}
use Rattle.terms.proofs.Differing.{never}
use Rattle.terms.proofs.Stating.{listed-says, atoms-differ}

-- ---- terms

small-found : {x y : Term} → some x ≡ some y → TermWith Any x → TermWith Any y
small-found {x} {y} e q = let h : x ≡ y = cc e in rw (← h) q

small_in : (s : Option Theory) (u : ℕ) (r : Option Term) (x : Term) → TheoryIf Any s → (r ≡ some x → TermWith Any x) → or_else (term_in u s) r ≡ some x → TermWith Any x
small_in (some (defines v y)) u r x q k = go (eqb u v)
  where
    go : (b : Bool) → or_else (pick b (some y) none) r ≡ some x → TermWith Any x
    go true e = small-found e q.1
    go false e = k e
small_in (some (collects v e)) u r x q k = k
small_in (some (states a p vs g)) u r x q k = k
small_in none u r x q k = k

small-term : (ls : List Line) (u : ℕ) (x : Term) → AllInRange ls → term ls u ≡ some x → TermWith Any x
unfolding term
small-term [] u x q e = absurd (never e)
small-term (l ∷ ls) u x q e = small_in (theory_in l.says) u (term ls u) x (theory-small Any l.says q.0) (small-term ls u x q.1) e

-- ---- differences

-- the bounds are symmetric, so a bound under_minus is within them
opposed : (j k : ℤ) → k ≡ neg_ℤ j → FromTo largest_number largest_number j → FromTo largest_number largest_number k
opposed (pos zero) k e q = rw e q
opposed (pos (suc n)) k e q = rw e q
opposed (negsuc n) k e q = rw e q

small-bound : (ls : List Line) (u : ℕ) (k : ℤ) → AllInRange ls → Bound ls u k → FromTo largest_number largest_number k
small-bound ls u k q (direct e) = small-term ls u (num k) q e
small-bound ls u k q (under_minus t n j a b c e) = opposed j k e (small-term ls n (num j) q c)

small-difference : (ls : List Line) (p : ℕ) (vs : List ℕ) (g u : ℕ) (d : Diff) → AllInRange ls → Difference ls p vs g u d → SmallDiff d
small-difference ls p vs g u d q h =
    let s = (small-term ls h.w _ q h.pair).1.0 in
    record { x-small = omega (arith, s.0); y-small = omega (arith, s.1.0); k-small = small-bound ls u d.k q h.bound }

small_said : (ls : List Line) (a : ℕ) (d : Diff) (s : Option Theory) → AllInRange ls → TheoryIf Any s → SaysIn ls a d s → SmallDiff d × (a < atom_places)
small_said ls a d (some (defines u t)) q k h = absurd h
small_said ls a d (some (collects v e)) q k h = absurd h
small_said ls a d (some (states b p vs unguarded)) q k h = absurd h
small_said ls a d (some (states b p vs (guard g u))) q k h = (small-difference ls p vs g u d q h.1, omega (arith, h.0, k.0.1))
small_said ls a d none q k h = absurd h

small-some : (whole ls : List Line) (a : ℕ) (d : Diff) → AllInRange whole → AllInRange ls → Some (λ (l : Line). SaysIn whole a d (theory_in l.says)) ls → SmallDiff d × (a < atom_places)
small-some whole [] a d q k h = absurd h
small-some whole (l ∷ ls) a d q k h =
    ⊎_elim (λ w. small_said whole a d (theory_in l.says) q (theory-small Any l.says k.0) w) (λ w. small-some whole ls a d q k.1 w) h

-- what an atom says is within the bounds
pub says-small : (ls : List Line) (a : ℕ) (d : Diff) → AllInRange ls → Says ls a d → SmallDiff d × (a < atom_places)
says-small ls a d q h = small-some ls ls a d q q h

-- ---- the list of differences

listed-all : (ds : List Stated) (P : Stated → Type 0) → ((a : ℕ) (d : Diff) → Lists ds a d → P (record { atom = a; says = d })) → All P ds
listed-all [] P h = tt
listed-all (s ∷ ds) P h = (h s.atom s.says (inl refl), listed-all ds P (λ a d q. h a d (inr q)))

module _ (ls : List Line) (ds : List Stated) (h : States ls ds) (q : AllInRange ls) where
  -- every difference listed is within the bounds, and so is its atom
  pub listed_small : All (λ (s : Stated). SmallDiff s.says × (s.atom < atom_places)) ds
  listed_small = listed-all ds _ (λ a d w. says-small ls a d q (listed-says ls ds h a d w))

  atoms-small : (es : List Stated) → All (λ (s : Stated). SmallDiff s.says × (s.atom < atom_places)) es → All (λ (a : ℕ). a < atom_places) (map (λ (s : Stated). s.atom) es)
  atoms-small [] k = tt
  atoms-small (s ∷ es) k = (k.0.1, atoms-small es k.1)

  -- the atoms differ and are 0 to 4,096
  pub listed-few : length ds ≤ atom_places
  listed-few = rw (length-map ds (λ (s : Stated). s.atom)) at (pigeon atom_places (map (λ (s : Stated). s.atom) ds) (atoms-differ ls ds h) (atoms-small ds listed_small))
