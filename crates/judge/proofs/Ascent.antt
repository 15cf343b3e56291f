-- Strictly ascending lists: the members of two that have the same members stand in the same places. Assumes nothing.
use Prim.Native.Nat.{ℕ, ◌<◌}
use mathlib.Core.Path.{◌≡◌, refl, sym, ap, subst, ◌∙◌}
use mathlib.Core.Bool.{Bool, true, false, ◌||◌, true≢false}
use mathlib.Core.List.{List, [], ◌∷◌}
use mathlib.Core.Logic.{◌⊎◌, inl, inr, ⊎_elim}
use native.Mathlib.Omega.{arith}
use borrow.Author.Tests.{eqb-true}
use lib.Dec.{eqb}
use Rattle.basics.specs.Lists.{among, All, Ascending}
use Rattle.basics.proofs.Bools.{or_right}
use Rattle.basics.proofs.Bitmaps.{first_in}
use Rattle.aspif.specs.Statements.{Line}
use Rattle.terms.specs.Says.{Name, Names}

-- a member is the first or one of the others
pub member : (k n : ℕ) (ns : List ℕ) → among k (n ∷ ns) ≡ true → (k ≡ n) ⊎ (among k ns ≡ true)
member k n ns e = go (eqb k n) refl e
  where
    go : (t : Bool) → eqb k n ≡ t → (t || among k ns) ≡ true → (k ≡ n) ⊎ (among k ns ≡ true)
    go true f g = inl (eqb-true k n f)
    go false f g = inr g

-- what holds of each member holds of a member
pub of_member : (P : ℕ → Type 0) (l : List ℕ) (k : ℕ) → All P l → among k l ≡ true → P k
of_member P [] k h e = absurd (true≢false (sym e))
of_member P (n ∷ l) k h e = ⊎_elim (λ p. subst P (sym p) h.0) (λ p. of_member P l k h.1 p) (member k n l e)

module _ (n m : ℕ) (ns ms : List ℕ) (h : All (λ k. n < k) ns) where
  heads-same : All (λ k. m < k) ms → among n (m ∷ ms) ≡ true → among m (n ∷ ns) ≡ true → n ≡ m
  heads-same i e f =
      ⊎_elim (λ p. p)
      (λ p. ⊎_elim (λ q. sym q) (λ q. absurd (omega (arith, of_member (λ k. m < k) ms n i p, of_member (λ k. n < k) ns m h q))) (member m n ns f))
      (member n m ms e)

  tail_in : n ≡ m → (k : ℕ) → among k ns ≡ true → among k (m ∷ ms) ≡ true → among k ms ≡ true
  tail_in p k e f = ⊎_elim (λ q. absurd (omega (arith, of_member (λ j. n < j) ns k h e))) (λ q. q) (member k m ms f)

-- two strictly ascending lists with the same members are equal
pub ascending-same : (ns ms : List ℕ) → Ascending ns → Ascending ms
    → ((k : ℕ) → among k ns ≡ true → among k ms ≡ true) → ((k : ℕ) → among k ms ≡ true → among k ns ≡ true) → ns ≡ ms
ascending-same [] [] a b f g = refl
ascending-same [] (m ∷ ms) a b f g = absurd (true≢false (sym (g m (first_in m ms))))
ascending-same (n ∷ ns) [] a b f g = absurd (true≢false (sym (f n (first_in n ns))))
ascending-same (n ∷ ns) (m ∷ ms) a b f g =
    let p : n ≡ m = heads-same n m ns ms a.0 b.0 (f n (first_in n ns)) (g m (first_in m ms)) in
    let t : ns ≡ ms = ascending-same ns ms a.1 b.1
    (λ k e. tail_in n m ns ms a.0 p k e (f k (or_right (eqb k n) (among k ns) e)))
    (λ k e. tail_in m n ms ns b.0 (sym p) k e (g k (or_right (eqb k m) (among k ms) e))) in
    ap (λ (k : ℕ). k ∷ ns) p ∙ ap (λ (l : List ℕ). m ∷ l) t

-- the names of a text are one list
pub names_unique : (ls : List Line) (ns ms : List ℕ) → Names ls ns → Names ls ms → ns ≡ ms
names_unique ls ns ms a b =
    ascending-same ns ms a.ascending b.ascending
    (λ k e. b.all k (of_member (Name ls) ns k a.only e)) (λ k e. a.all k (of_member (Name ls) ms k b.only e))
