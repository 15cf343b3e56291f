-- Inner: what the steps of founding do to the bitmap of atoms found; rules by an index. Assumes nothing.
use Rattle.std.specs.Prelude.{ℕ, ◌+◌, ◌<◌, ◌≡◌, Bool, true, false, not, cond, ◌&&◌, ◌||◌, List, [], ◌∷◌, eqb, leb, length, set}
use Rattle.basics.specs.inner.Bitmaps.{is_marked}
use Rattle.aspif.specs.Statements.{Literal, positive, negated, Premise, Body, Rule}
use Rattle.aspif.specs.inner.Words.{word}
use Rattle.stable.specs.Meaning.{Atoms, premises, lower_bound, reduct_head, Obeyed, Founding, founded, unfounded_at}
use Rattle.stable.specs.inner.Index.{rule_at}

-- truth of a literal in the reduct: a negated atom is looked up in X, another in S
abbrev pub literal_holds : Atoms → Atoms → Literal → Bool
literal_holds X S (positive a) = S a
literal_holds X S (negated a) = not (X a)

-- of literals
abbrev pub all_hold : Atoms → Atoms → List Literal → Bool
all_hold X S [] = true
all_hold X S (l ∷ ls) = literal_holds X S l && all_hold X S ls

-- the weights of the literals that are
abbrev pub reached_by : Atoms → Atoms → List Premise → ℕ
reached_by X S [] = 0
reached_by X S (p ∷ ps) = cond (literal_holds X S p.literal) p.weight 0 + reached_by X S ps

-- of a body, in one walk
abbrev pub body_holds : Atoms → Atoms → Body → Bool
body_holds X S b = leb (lower_bound b) (reached_by X S (premises b))

-- how many atoms are marked
abbrev pub marked_count : List ℕ → ℕ
marked_count [] = 0
marked_count (v ∷ l) = cond (eqb v 1) 1 0 + marked_count l

-- k new marks took f to g
pub record GrownMarks (f g : List ℕ) (k : ℕ) : Type 0 where
  pub counted : marked_count g ≡ marked_count f + k
  pub same : k ≡ 0 → g ≡ f

-- a is marked
pub record MarkedOne (f g : List ℕ) (a k : ℕ) : Type 0 where
  pub stored : g ≡ set f a 1
  pub grown : GrownMarks f g k

-- the atoms `new` are marked too
pub record AddedMarks (new : Atoms) (f g : List ℕ) (k : ℕ) : Type 0 where
  pub now_in : (a : ℕ) → is_marked g a ≡ (is_marked f a || new a)
  pub grown : GrownMarks f g k

-- what a rule adds to the atoms S: its heads in the reduct, if its body is true
abbrev pub fires : Atoms → Atoms → Rule → Atoms
fires X S r a = body_holds X S r.body && reduct_head X r.head a

-- a model of the reduct, by the rules of an index
pub record ClosedBy (X ext : Atoms) (t index : List ℕ) (S : Atoms) : Type 0 where
  pub facts : (a : ℕ) → ext a ≡ true → X a ≡ true → S a ≡ true
  pub rules : (i : ℕ) → i < length index → Obeyed X S (rule_at t (word index i))

-- every rule has been visited once
pub record Round (X : Atoms) (t index : List ℕ) (f g : List ℕ) (k : ℕ) : Type 0 where
  pub grown : GrownMarks f g k
  pub grows : (a : ℕ) → is_marked f a ≡ true → is_marked g a ≡ true
  pub sound : (ext S : Atoms) → ClosedBy X ext t index S → ((a : ℕ) → is_marked f a ≡ true → S a ≡ true) → (a : ℕ) → is_marked g a ≡ true → S a ≡ true
  pub done : k ≡ 0 → (i : ℕ) → i < length index → (a : ℕ) → fires X (is_marked f) (rule_at t (word index i)) a ≡ true → is_marked f a ≡ true

-- f holds the external atoms in x
pub record Both (ext x f : List ℕ) : Type 0 where
  pub now_in : (a : ℕ) → is_marked f a ≡ (is_marked ext a && is_marked x a)

-- f is the least model, by the rules of an index
pub record LeastBy (X ext : Atoms) (t index : List ℕ) (f : List ℕ) : Type 0 where
  pub model : ClosedBy X ext t index (is_marked f)
  pub below : (S : Atoms) → ClosedBy X ext t index S → (a : ℕ) → is_marked f a ≡ true → S a ≡ true

-- the smallest atom of x that is not in f, if there is one
abbrev pub Sought : Founding → List ℕ → List ℕ → Type 0
Sought founded x f = (a : ℕ) → is_marked x a ≡ true → is_marked f a ≡ true
Sought (unfounded_at a) x f =
    (is_marked x a ≡ true) × (is_marked f a ≡ false) × ((b : ℕ) → b < a → is_marked x b ≡ true → is_marked f b ≡ true)
