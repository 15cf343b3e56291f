-- The kinds of refusal as one list: the kind of a number, and what a match on a kind or on a number says. Assumes nothing.
use Prim.Native.Nat.{ℕ, zero, suc, ◌<◌}
use mathlib.Core.Path.{◌≡◌, refl, sym, ap, subst, ◌∙◌}
use mathlib.Core.Bool.{Bool, true, false, ◌&&◌, beq}
use mathlib.Core.List.{List, [], ◌∷◌}
use mathlib.Core.Logic.{◌⊎◌, inl, ⊎_elim}
use native.Mathlib.Omega.{arith}
use borrow.Author.Tests.{eqb-true, ne_eqb}
use lib.Dec.{eqb}
use lib.ListN.{get_or}
use types.Run.{OneOf}
use denote.Enum.Declared.{tag_of}
use Rattle.basics.specs.Bools.{pick}
use Rattle.basics.specs.Lists.{All, among}
use Rattle.basics.proofs.Bools.{and_cases}
use Rattle.faults.specs.Values.{number}
use Rattle.faults.specs.declared.Kind.{Kind}
use Rattle.faults.specs.declared.Kind.TheVariants.{Room, Long, Grammar, Carried, Bounds, Twice, Unknown, Second, NoDifference, Candidate, Broken, Unfounded, Cycle, Late, NotTable, NotNamed}
use Rattle.faults.specs.contracts.Kind as kind

-- the kinds, in the order of the enum
abbrev kinds : List Kind
kinds =
    Room ∷ Long ∷ Grammar ∷ Carried ∷ Bounds ∷ Twice ∷ Unknown ∷ Second ∷ NoDifference ∷ Candidate ∷ Broken ∷ Unfounded ∷ Cycle ∷ Late ∷ NotTable ∷ NotNamed ∷ []

-- by its tag a match knows a kind
abbrev tag : Kind → ℕ
tag k = tag_of kind.the_type k

in_order : (k : Kind) → get_or kinds (tag k) Room ≡ k
in_order Room = refl
in_order Long = refl
in_order Grammar = refl
in_order Carried = refl
in_order Bounds = refl
in_order Twice = refl
in_order Unknown = refl
in_order Second = refl
in_order NoDifference = refl
in_order Candidate = refl
in_order Broken = refl
in_order Unfounded = refl
in_order Cycle = refl
in_order Late = refl
in_order NotTable = refl
in_order NotNamed = refl

-- ---- every kind is in the list

at_tag : (P : Kind → Type 0) (ks : List Kind) → P Room → All P ks → (t : ℕ) → P (get_or ks t Room)
at_tag P [] r a t = r
at_tag P (k ∷ ks) r a zero = a.0
at_tag P (k ∷ ks) r a (suc t) = at_tag P ks r a.1 t

-- what holds of each in the list holds of every kind
each : (P : Kind → Type 0) → All P kinds → (k : Kind) → P k
each P a k = subst P (in_order k) (at_tag P kinds a.0 a (tag k))

same_tag : (a b : Kind) → tag a ≡ tag b → a ≡ b
same_tag a b e = sym (in_order a) ∙ ap (λ (t : ℕ). get_or kinds t Room) e ∙ in_order b

-- each passes a test
abbrev passes : {A : Type 0} → (A → Bool) → List A → Bool
passes f [] = true
passes f (a ∷ l) = f a && passes f l

all_pass : {A : Type 0} (f : A → Bool) (l : List A) → passes f l ≡ true → All (λ a. f a ≡ true) l
all_pass f [] e = tt
all_pass f (a ∷ l) e = let h = and_cases (f a) (passes f l) e in (h.0, all_pass f l h.1)

-- ---- from the number to the kind

abbrev kind_in : List Kind → ℕ → Kind
kind_in [] n = Room
kind_in (k ∷ ks) n = pick (eqb (number k) n) k (kind_in ks n)

-- the kind of a number; of every other number, some kind
abbrev pub kind_of : ℕ → Kind
kind_of n = kind_in kinds n

-- it is the kind whose number was taken
pub kind_back : (k : Kind) → kind_of (number k) ≡ k
kind_back k =
    let h = each (λ j. eqb (tag (kind_of (number j))) (tag j) ≡ true) (all_pass (λ j. eqb (tag (kind_of (number j))) (tag j)) kinds refl) k in
    same_tag (kind_of (number k)) k (eqb-true (tag (kind_of (number k))) (tag k) h)

-- no two kinds have the same number
pub same_kind : (a b : Kind) → number a ≡ number b → a ≡ b
same_kind a b e = sym (kind_back a) ∙ ap kind_of e ∙ kind_back b

-- no kind has number 0
pub numbered : (k : Kind) → 0 < number k
numbered k = go (number k) refl
  where
    go : (n : ℕ) → number k ≡ n → 0 < n
    go zero e = let z : number k ≡ 1 = ap number (sym (kind_back k) ∙ ap kind_of e) in absurd (omega arith)
    go (suc n) e = omega arith

-- ---- a match on a kind

-- the tags of the kinds whose numbers a test answers with b: the keys of that arm, if it has its kinds in the order of the enum
abbrev keys : (ℕ → Bool) → Bool → List Kind → List ℕ
keys f b [] = []
keys f b (k ∷ ks) = pick (beq b (f (number k))) (tag k ∷ keys f b ks) (keys f b ks)

first_or : (t : ℕ) (ts : List ℕ) (u : ℕ) → OneOf (t ∷ ts) u → (u ≡ t) ⊎ OneOf ts u
first_or t [] u h = inl h
first_or t (v ∷ ts) u h = h

same_answer : (a b : Bool) → beq a b ≡ true → a ≡ b
same_answer true true e = refl
same_answer true false e = sym e
same_answer false true e = e
same_answer false false e = refl

module _ (f : ℕ → Bool) (b : Bool) (k : Kind) where
  taken : (j : Kind) → beq b (f (number j)) ≡ true → tag k ≡ tag j → b ≡ f (number k)
  taken j e i = same_answer b (f (number j)) e ∙ ap (λ (l : Kind). f (number l)) (same_tag j k (sym i))

  answered : (ks : List Kind) → OneOf (keys f b ks) (tag k) → b ≡ f (number k)
  answered [] h = absurd h
  answered (j ∷ ks) h = go (beq b (f (number j))) refl (answered ks) h
    where
      go : (t : Bool) → beq b (f (number j)) ≡ t → (OneOf (keys f b ks) (tag k) → b ≡ f (number k))
          → OneOf (pick t (tag j ∷ keys f b ks) (keys f b ks)) (tag k) → b ≡ f (number k)
      go true e others i = ⊎_elim (taken j e) others (first_or (tag j) (keys f b ks) (tag k) i)
      go false e others i = others i

  -- a test of the number, answered by the arms of a match on the kind
  pub arm : OneOf (keys f b kinds) (tag k) → b ≡ f (number k)
  arm = answered kinds

-- ---- a number that no kind has

module _ (n : ℕ) where
  -- it is none of the numbers, as a match with an arm for each number says it
  abbrev NoArm : Type 0 → List Kind → Type 0
  NoArm N [] = N
  NoArm N (k ∷ ks) = NoArm (N × (n ≡ number k → ⊥)) ks

  split : (N : Type 0) (ks : List Kind) → NoArm N ks → N × All (λ k. n ≡ number k → ⊥) ks
  split N [] h = (h, tt)
  split N (k ∷ ks) h = let s = split (N × (n ≡ number k → ⊥)) ks h in (s.0.0, (s.0.1, s.1))

  -- then no kind has it
  pub no_arm : NoArm (Unit {0}) kinds → (k : Kind) → number k ≡ n → ⊥
  no_arm h k e = each (λ j. n ≡ number j → ⊥) (split (Unit {0}) kinds h).1 k (sym e)

  module _ (none : (k : Kind) → number k ≡ n → ⊥) where
    -- a test for the number of a kind fails
    pub no_number : (k : Kind) → eqb n (number k) ≡ false
    no_number k = ne_eqb n (number k) (λ (e : n ≡ number k). none k (sym e))

    -- it is not among numbers of kinds
    pub among_none : (ms : List ℕ) → passes (λ m. eqb (number (kind_of m)) m) ms ≡ true → among n ms ≡ false
    among_none ms e = go ms (all_pass (λ m. eqb (number (kind_of m)) m) ms e)
      where
        go : (ls : List ℕ) → All (λ m. eqb (number (kind_of m)) m ≡ true) ls → among n ls ≡ false
        go [] a = refl
        go (m ∷ ls) a =
            let z : eqb n m ≡ false = ne_eqb n m (λ (i : n ≡ m). none (kind_of m) (eqb-true (number (kind_of m)) m a.0 ∙ sym i)) in
            rw z (go ls a.1)
