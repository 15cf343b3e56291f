-- A negative cycle may begin at any of its entries: a path, its names and its sum stay what they are when the list is turned round.
use mathlib.Core.Path.{◌≡◌, refl, ap, subst, sym, ◌∙◌}
use mathlib.Core.List.{List, [], ◌∷◌, ◌++◌, map-append}
use Prim.Native.Nat.{ℕ}
use native.Mathlib.Omega.{arith}
use lib.ListN.{length-append}
use lib.IntN.{ℤ, pos, ◌+ℤ◌, +ℤ_idl, +ℤ_assoc, +ℤ_comm}
use lib.Signed.{◌<ℤ◌}
use Rattle.basics.specs.Lists.{Distinct}
use Rattle.diffs.specs.Diff.{Diff, Path, xs_of, Sum, NegCycle}
use Rattle.diffs.proofs.Names.{all_swap, distinct_swap}

path_join : (a : ℕ) (l : List Diff) (b : ℕ) (r : List Diff) (z : ℕ) → Path a l b → Path b r z → Path a (l ++ r) z
path_join a [] b r z p q = subst (λ (n : ℕ). Path n r z) (sym p) q
path_join a (d ∷ l) b r z p q = (p.0, path_join d.y l b r z p.1 q)

path_parts : (a : ℕ) (l : List Diff) (r : List Diff) (z : ℕ) → Path a (l ++ r) z → (b : ℕ) × Path a l b × Path b r z
path_parts a [] r z p = (a, refl, p)
path_parts a (d ∷ l) r z p =
    let q = path_parts d.y l r z p.1 in
    (q.0, (p.0, q.1), q.2)

pub sum_join : (l r : List Diff) → Sum (l ++ r) ≡ Sum l +ℤ Sum r
sum_join [] r = sym (+ℤ_idl (Sum r))
sum_join (d ∷ l) r = ap (λ (z : ℤ). d.k +ℤ z) (sum_join l r) ∙ sym (+ℤ_assoc d.k (Sum l) (Sum r))

sum_swap : (l r : List Diff) → Sum (l ++ r) ≡ Sum (r ++ l)
sum_swap l r = sum_join l r ∙ +ℤ_comm (Sum l) (Sum r) ∙ sym (sum_join r l)

-- a negative cycle stays one when its first entries are put behind the others
pub turn : (S : Diff → Type 0) (l r : List Diff) → NegCycle S (l ++ r) → NegCycle S (r ++ l)
turn S l r c =
    let q = path_parts c.cycle.start l r c.cycle.start c.cycle.closed in
    record {
      members = all_swap S l r c.members;
      cycle = record {
        some = omega (arith, c.cycle.some, length-append l r, length-append r l);
        start = q.0;
        closed = path_join q.0 r c.cycle.start l q.0 q.2 q.1;
        different = subst Distinct (sym (map-append (λ (d : Diff). d.x) r l)) (distinct_swap (xs_of l) (xs_of r) (subst Distinct (map-append (λ (d : Diff). d.x) l r) c.cycle.different));
      };
      below = subst (λ (z : ℤ). z <ℤ pos 0) (sum_swap l r) c.below;
    }
