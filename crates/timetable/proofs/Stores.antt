-- Runs of stores: one run behind another or before it, and a run in a part of a room.
use Prim.Native.Nat.{ℕ, suc, ◌+◌, ◌-◌, ◌≤◌}
use mathlib.Core.Path.{◌≡◌, refl, ◌∙◌}
use mathlib.Core.List.{List, [], ◌∷◌, ◌++◌, append-nil}
use native.Mathlib.Omega.{arith}
use native.Mathlib.Nat.{zero-add}
use lib.ListN.{length, set, take, drop, length-drop, drop_of_length-le, take-append-drop}
use lib.Seq.{sets, take_all, length-take-le}
use Rattle.basics.proofs.Lists.{sets_append, sets_before}

-- a run that is stored where the run before it ends is one run with it
pub sets_next : (l r : List ℕ) (o p : ℕ) (xs ys : List ℕ) → r ≡ sets l o xs → p ≡ o + length xs
    → sets r p ys ≡ sets l o (xs ++ ys)
sets_next l r o p xs ys e h = rw (e, h) (sets_append l o xs ys)

sets_swap : (l : List ℕ) (i p : ℕ) (xs ys : List ℕ) → i + length ys ≤ p → sets (sets l p xs) i ys ≡ sets (sets l i ys) p xs
sets_swap l i p xs [] h = refl
sets_swap l i p xs (y ∷ ys) h = rw (sets_before l p i y xs (omega arith)) (sets_swap (set l i y) (suc i) p xs ys (omega arith))

-- a run that is stored last, up to where another begins, is one run with it
pub sets_ahead : (l r : List ℕ) (o p : ℕ) (xs ys : List ℕ) → r ≡ sets l p xs → p ≡ o + length ys
    → sets r o ys ≡ sets l o (ys ++ xs)
sets_ahead l r o p xs ys e h = rw (e, h) (sets_swap l o (o + length ys) xs ys (omega arith) ∙ sets_append l o ys xs)

set_after : (p q : List ℕ) (n v : ℕ) → p ++ set q n v ≡ set (p ++ q) (length p + n) v
set_after [] q n v = rw zero-add
set_after (x ∷ p) q n v =
    let e : suc (length p) + n ≡ suc (length p + n) = omega arith in
    rw (e, ← set_after p q n v)

sets_after : (p q : List ℕ) (n : ℕ) (vs : List ℕ) → p ++ sets q n vs ≡ sets (p ++ q) (length p + n) vs
sets_after p q n [] = refl
sets_after p q n (v ∷ vs) =
    let e : length p + suc n ≡ suc (length p + n) = omega arith in
    sets_after p (set q n v) (suc n) vs ∙ rw (e, set_after p q n v)

-- what a callee stored at the front of the part from a on, seen from the whole room
pub part-stored : (l part : List ℕ) (a : ℕ) (vs : List ℕ) → a ≤ length l
    → part ≡ sets (take (length l - a) (drop a l)) 0 vs
    → take a l ++ (part ++ drop (length l - a) (drop a l)) ≡ sets l a vs
part-stored l part a vs h s =
    let n : length (drop a l) ≤ length l - a = omega (arith, length-drop a l) in
    let e : length (take a l) + 0 ≡ a = omega (arith, length-take-le a l h) in
    rw (s, take_all (length l - a) (drop a l) n, drop_of_length-le (drop a l) n, append-nil, sets_after (take a l) (drop a l) 0 vs, e, take-append-drop)
