-- Laws of lists: what holds of all members or of some, runs of stores, and lists of zeros. Assumes nothing.
use Prim.Native.Nat.{ℕ, zero, suc, ◌+◌, ◌<◌}
use mathlib.Core.Path.{◌≡◌, refl}
use mathlib.Core.List.{List, [], ◌∷◌, ◌++◌, map}
use mathlib.Core.Logic.{inl, inr, ⊎_elim}
use native.Mathlib.Omega.{arith}
use native.Mathlib.Nat.{add-zero}
use lib.ListN.{length, get_or, set, replicate}
use lib.Seq.{set_comm, sets}
use Rattle.basics.specs.Lists.{All, Some}

-- what follows of each member
pub all_so : {A : Type 0} {P Q : A → Type 0} → ((a : A) → P a → Q a) → (l : List A) → All P l → All Q l
all_so f [] h = tt
all_so f (a ∷ l) h = (f a h.0, all_so f l h.1)

-- what each image has of which the member has something
pub all_map : {A B : Type 0} {P : A → Type 0} (f : A → B) (Q : B → Type 0) → ((a : A) → P a → Q (f a)) → (l : List A) → All P l → All Q (map f l)
all_map f Q h [] p = tt
all_map f Q h (a ∷ l) p = (h a p.0, all_map f Q h l p.1)

-- nothing is said of any member
pub all_any : {A : Type 0} (l : List A) → All (λ (a : A). Unit {0}) l
all_any [] = tt
all_any (a ∷ l) = (tt, all_any l)

module _ {A : Type 0} (P : A → Type 0) where
  -- a member of the first part is one of the whole
  pub some_left : (l r : List A) → Some P l → Some P (l ++ r)
  some_left [] r h = absurd h
  some_left (a ∷ l) r h = ⊎_elim (λ p. inl p) (λ p. inr (some_left l r p)) h

  -- and so is one of the second
  pub some_right : (l r : List A) → Some P r → Some P (l ++ r)
  some_right [] r h = h
  some_right (a ∷ l) r h = inr (some_right l r h)

-- a map that is undone on each member is undone on the list
pub map_back : {A B : Type 0} {P : A → Type 0} (f : A → B) (g : B → A) → ((a : A) → P a → g (f a) ≡ a) → (l : List A) → All P l → map g (map f l) ≡ l
map_back f g h [] p = refl
map_back f g h (a ∷ l) p = rw (h a p.0, map_back f g h l p.1)

-- a run of stores behind another is one run with it
pub sets_append : (l : List ℕ) (o : ℕ) (xs ys : List ℕ) → sets (sets l o xs) (o + length xs) ys ≡ sets l o (xs ++ ys)
sets_append l o [] ys = rw add-zero
sets_append l o (x ∷ xs) ys =
    let e : o + suc (length xs) ≡ suc o + length xs = omega arith in
    rw e (sets_append (set l o x) (suc o) xs ys)

-- zeros are 0, and so is what stands past them
pub zeros : (n k : ℕ) → ◌≡◌ {A = ℕ} (get_or (replicate n 0) k 0) 0
zeros zero k = refl
zeros (suc n) zero = refl
zeros (suc n) (suc k) = zeros n k

-- a store before a run of stores comes first or last
pub sets_before : (l : List ℕ) (o i v : ℕ) (ws : List ℕ) → i < o → set (sets l o ws) i v ≡ sets (set l i v) o ws
sets_before l o i v [] h = refl
sets_before l o i v (w ∷ ws) h = rw (sets_before (set l o w) (suc o) i v ws (omega arith), set_comm l o i w v (λ e. omega arith))
