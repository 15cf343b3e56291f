-- Laws of bitmaps: the marked numbers of a blank one, of one with one more mark, of a front, and which numbers are marked. Assumes nothing.
use Prim.Native.Nat.{ℕ, zero, suc, ◌+◌, ◌≤◌, ◌<◌}
use mathlib.Core.Path.{◌≡◌, refl, sym, subst, ◌∙◌}
use mathlib.Core.List.{List, [], ◌∷◌, ◌++◌}
use mathlib.Core.Bool.{Bool, true, false, ◌||◌}
use native.Mathlib.Omega.{arith}
use native.Mathlib.Nat.{add-zero}
use borrow.Author.Tests.{eq-eqb, ne_eqb}
use lib.Dec.{eqb}
use lib.ListN.{length, get_or, set, take, drop}
use lib.Seq.{get_or-drop, drop-nil}
use Rattle.basics.specs.Bools.{pick}
use Rattle.basics.specs.Lists.{among}
use Rattle.basics.specs.inner.Bitmaps.{is_marked, marks, marked_from}
use Rattle.basics.proofs.Bools.{or_assoc}

none_from : (i : ℕ) (x : List ℕ) → ((a : ℕ) → is_marked x a ≡ false) → marks i x ≡ []
unfolding marks
none_from i [] h = refl
none_from i (b ∷ bs) h = rw (h 0) (none_from (i + 1) bs (λ a. h (suc a)))

-- a bitmap in which nothing is marked has no marked number
pub marks-none : (x : List ℕ) → ((a : ℕ) → get_or x a 0 ≡ 0) → marks 0 x ≡ []
marks-none x h = none_from 0 x (λ a. rw (h a))

more-from : (i : ℕ) (x : List ℕ) (v : ℕ) → v < length x → ((a : ℕ) → v ≤ a → get_or x a 0 ≡ 0) → marks i (set x v 1) ≡ marks i x ++ ((i + v) ∷ [])
unfolding marks
more-from i [] v l h = absurd (omega arith)
more-from i (b ∷ bs) zero l h =
    let z : marks (i + 1) bs ≡ [] = none_from (i + 1) bs (λ a. rw (h (suc a) (omega arith))) in
    rw (ne_eqb b 1 (λ e. omega (arith, h 0 (omega arith))), z, add-zero)
more-from i (b ∷ bs) (suc v) l h = go (eqb b 1) (more-from (i + 1) bs v (omega arith) (λ a g. h (suc a) (omega arith)))
  where
    go : (t : Bool) → marks (i + 1) (set bs v 1) ≡ marks (i + 1) bs ++ ((i + 1 + v) ∷ [])
        → pick t (i ∷ marks (i + 1) (set bs v 1)) (marks (i + 1) (set bs v 1)) ≡ pick t (i ∷ marks (i + 1) bs) (marks (i + 1) bs) ++ ((i + suc v) ∷ [])
    go true e = let d : i + suc v ≡ i + 1 + v = omega arith in rw (e, d)
    go false e = let d : i + suc v ≡ i + 1 + v = omega arith in rw (e, d)

-- marking a place at or above which nothing is marked appends it to the marked numbers
pub marks-more : (x : List ℕ) (v : ℕ) → v < length x → ((a : ℕ) → v ≤ a → get_or x a 0 ≡ 0) → marks 0 (set x v 1) ≡ marks 0 x ++ (v ∷ [])
marks-more x v l h = let z : 0 + v ≡ v = omega arith in more-from 0 x v l h ∙ rw z

front-from : (k i n : ℕ) (x : List ℕ) → ((a : ℕ) → n ≤ a → is_marked x a ≡ false) → marks k (drop i (take n x)) ≡ marks k (drop i x)
unfolding marks
front-from k i zero x h = rw (drop-nil i, none_from k (drop i x) (λ a. rw (get_or-drop i x a 0) (h (i + a) (omega arith))))
front-from k i (suc n) [] h = refl
front-from k zero (suc n) (b ∷ bs) h = rw (front-from (k + 1) zero n bs (λ a l. h (suc a) (omega arith)))
front-from k (suc i) (suc n) (b ∷ bs) h = front-from k i n bs (λ a l. h (suc a) (omega arith))

-- where no number from n on is marked, the first n places have the same marked numbers
pub marked-front : (i n : ℕ) (x : List ℕ) → ((a : ℕ) → n ≤ a → is_marked x a ≡ false) → marked_from i (take n x) ≡ marked_from i x
unfolding marked_from
marked-front i n x h = front-from i i n x h

-- ---- which numbers are marked

-- the first of a list is among it
pub first_in : (a : ℕ) (l : List ℕ) → among a (a ∷ l) ≡ true
first_in a l = rw (eq-eqb a a refl)

-- what is among two lists joined is among one of them
pub among-append : (a : ℕ) (xs ys : List ℕ) → among a (xs ++ ys) ≡ (among a xs || among a ys)
among-append a [] ys = refl
among-append a (x ∷ xs) ys = rw (among-append a xs ys) (sym (or_assoc (eqb a x) (among a xs) (among a ys)))

below-from : (i : ℕ) (x : List ℕ) (a : ℕ) → a < i → among a (marks i x) ≡ false
unfolding marks
below-from i [] a h = refl
below-from i (b ∷ bs) a h = go (eqb b 1) (below-from (i + 1) bs a (omega arith))
  where
    go : (t : Bool) → among a (marks (i + 1) bs) ≡ false → among a (pick t (i ∷ marks (i + 1) bs) (marks (i + 1) bs)) ≡ false
    go true e = rw (ne_eqb a i (λ d. omega arith)) e
    go false e = e

holds-from : (i : ℕ) (x : List ℕ) (a : ℕ) → among (i + a) (marks i x) ≡ eqb (get_or x a 0) 1
unfolding marks
holds-from i [] a = refl
holds-from i (b ∷ bs) zero = go (eqb b 1)
  where
    go : (t : Bool) → among (i + 0) (pick t (i ∷ marks (i + 1) bs) (marks (i + 1) bs)) ≡ t
    go true = rw (eq-eqb (i + 0) i (add-zero i))
    go false = below-from (i + 1) bs (i + 0) (omega arith)
holds-from i (b ∷ bs) (suc a) = go (eqb b 1) (holds-from (i + 1) bs a)
  where
    d : i + suc a ≡ i + 1 + a
    d = omega arith

    go : (t : Bool) → among (i + 1 + a) (marks (i + 1) bs) ≡ eqb (get_or bs a 0) 1
        → among (i + suc a) (pick t (i ∷ marks (i + 1) bs) (marks (i + 1) bs)) ≡ eqb (get_or bs a 0) 1
    go true e = rw (ne_eqb (i + suc a) i (λ f. omega arith)) (subst (λ n. among n (marks (i + 1) bs) ≡ eqb (get_or bs a 0) 1) (sym d) e)
    go false e = rw d e

-- among the marked numbers are exactly the places where 1 stands
pub marked-holds : (x : List ℕ) (a : ℕ) → among a (marks 0 x) ≡ is_marked x a
marked-holds x a = let z : 0 + a ≡ a = omega arith in rw z at (holds-from 0 x a)
