-- One of two, by a decision: a value, a number, or a proof at a name and at each other name.
use mathlib.Core.Path.{◌≡◌, refl, subst, sym}
use mathlib.Core.Logic.{◌≢◌}
use Prim.Native.Nat.{ℕ}
use native.Mathlib.Decide.{ℕ_discrete}

pub by_dec : {A B : Type 0} → Dec A → (A → B) → (¬ A → B) → B
by_dec (yes a) f g = f a
by_dec (no n) f g = g n

-- the first number where A holds, else the second
pub pick_dec : {A : Type 0} → Dec A → ℕ → ℕ → ℕ
pick_dec (yes a) n m = n
pick_dec (no f) n m = m

pub pick_yes : {A : Type 0} (q : Dec A) (n m : ℕ) → A → pick_dec q n m ≡ n
unfolding pick_dec
pick_yes (yes a) n m h = refl
pick_yes (no f) n m h = absurd (f h)

pub pick_no : {A : Type 0} (q : Dec A) (n m : ℕ) → ¬ A → pick_dec q n m ≡ m
unfolding pick_dec
pick_no (yes a) n m h = absurd (h a)
pick_no (no f) n m h = refl

-- at y, and at each other name
pub at_or : (P : ℕ → Type 0) (y : ℕ) → P y → ((a : ℕ) → a ≢ y → P a) → (a : ℕ) → P a
at_or P y here there a = by_dec (ℕ_discrete a y) (λ e. subst P (sym e) here) (λ n. there a n)

-- s with v at y
pub upd : (ℕ → ℕ) → ℕ → ℕ → ℕ → ℕ
upd s y v a = pick_dec (ℕ_discrete a y) v (s a)

pub upd_same : (s : ℕ → ℕ) (y v : ℕ) → upd s y v y ≡ v
unfolding upd
upd_same s y v = pick_yes (ℕ_discrete y y) v (s y) refl

pub upd_other : (s : ℕ → ℕ) (y v a : ℕ) → a ≢ y → upd s y v a ≡ s a
unfolding upd
upd_other s y v a n = pick_no (ℕ_discrete a y) v (s a) n
