-- Believed: broken rules, unfounded atoms and stable candidates, over the lines of a plan: docs/RULES.md, 'Meaning'.
-- What docs/RULES.md says of normal bodies alone is in Normal. Assumes nothing.
use Rattle.std.specs.Prelude.{ℕ, ◌+◌, ◌-◌, ◌<◌, ◌≡◌, ◌↔◌, Bool, true, false, not, cond, ◌&&◌, List, [], ◌∷◌, map, eqb, leb, length}
use Rattle.std.proofs.Math.Option.{Option, some, none}
use Rattle.basics.specs.Bools.{pick}
use Rattle.basics.specs.Lists.{Some, among}
use Rattle.aspif.specs.Statements.{Literal, positive, negated, Head, empty, single, choice, Premise, Body, normal, weights, Line, Rule, rule_in}

-- a set of atoms
abbrev pub Atoms : Type 0
Atoms = ℕ → Bool

-- some line is the rule r
abbrev pub HasRule : List Line → Rule → Type 0
HasRule ls r = Some (λ (l : Line). rule_in l.says ≡ some r) ls

-- ---- truth

-- a literal is true by membership in the candidate X
abbrev pub literal_true : Atoms → Literal → Bool
literal_true X (positive a) = X a
literal_true X (negated a) = not (X a)

-- a literal of a normal body counts 1
abbrev pub one : Literal → Premise
one l = record { literal = l; weight = 1 }

-- what may count for a body ..
abbrev pub premises : Body → List Premise
premises (normal ls) = map one ls
premises (weights k ps) = ps

-- .. and how much must: for a normal body, all
abbrev pub lower_bound : Body → ℕ
lower_bound (normal ls) = length ls
lower_bound (weights k ps) = k

-- the weights of the true literals; a literal written twice counts twice
abbrev pub reached : Atoms → List Premise → ℕ
reached X [] = 0
reached X (p ∷ ps) = cond (literal_true X p.literal) p.weight 0 + reached X ps

-- a body is true when the weights of its true literals reach the bound
abbrev pub body_true : Atoms → Body → Bool
body_true X b = leb (lower_bound b) (reached X (premises b))

-- ---- broken rules

-- a plain rule is broken when its body is true and its head is empty or its atom isn't in X; a choice rule is never broken
abbrev pub broken_rule : Atoms → Head → Body → Bool
broken_rule X empty b = body_true X b
broken_rule X (single a) b = body_true X b && not (X a)
broken_rule X (choice hs) b = false

-- only a rule can be broken
abbrev pub broken : Atoms → Option Rule → Bool
broken X none = false
broken X (some r) = broken_rule X r.head r.body

-- no rule is broken
abbrev pub Unbroken : Atoms → List Line → Type 0
Unbroken X ls = (r : Rule) → HasRule ls r → broken_rule X r.head r.body ≡ false

-- no rule is broken, or the first that is stands at a place
pub data Broken : Type 0 where
  unbroken : Broken
  broken_at : (place : ℕ) → Broken

-- the first broken rule in the text
unfoldable pub first_broken : Atoms → List Line → Broken
first_broken X [] = unbroken
first_broken X (x ∷ xs) = pick (broken X (rule_in x.says)) (broken_at x.place) (first_broken X xs)

-- ---- the reduct, with the external atoms ext

-- the weight of a negated atom outside X
abbrev pub taken_off : Atoms → Literal → (weight : ℕ) → ℕ
taken_off X (positive a) w = 0
taken_off X (negated a) w = cond (X a) 0 w

-- of all of them
abbrev pub all_taken_off : Atoms → List Premise → ℕ
all_taken_off X [] = 0
all_taken_off X (p ∷ ps) = taken_off X p.literal p.weight + all_taken_off X ps

abbrev pub is_positive : Literal → Bool
is_positive (positive a) = true
is_positive (negated a) = false

-- the positive literals
abbrev pub positives : List Premise → List Premise
positives [] = []
positives (p ∷ ps) = pick (is_positive p.literal) (p ∷ positives ps) (positives ps)

-- the weights of negated atoms outside X are taken off the bound, never below 0, and the positive literals stay
abbrev pub reduct : Atoms → Body → Body
reduct X b = weights (lower_bound b - all_taken_off X (premises b)) (positives (premises b))

-- a heads a rule of it; a choice rule gives one rule for each head atom that is in X
abbrev pub reduct_head : Atoms → Head → ℕ → Bool
reduct_head X empty a = false
reduct_head X (single b) a = eqb a b
reduct_head X (choice hs) a = among a hs && X a

-- S obeys a rule of it: its heads are in S where the reduct of its body is true in S
abbrev pub Obeyed : (X S : Atoms) → Rule → Type 0
Obeyed X S r = body_true S (reduct X r.body) ≡ true → (a : ℕ) → reduct_head X r.head a ≡ true → S a ≡ true

-- S is a model of the reduct by X, in which an external atom in X counts as a fact
pub record Closed (X ext : Atoms) (ls : List Line) (S : Atoms) : Type 0 where
  pub facts : (a : ℕ) → ext a ≡ true → X a ≡ true → S a ≡ true
  pub rules : (r : Rule) → HasRule ls r → Obeyed X S r

-- the least model of the reduct: what is in every model
abbrev pub InLeast : Atoms → Atoms → List Line → ℕ → Type 0
InLeast X ext ls a = (S : Atoms) → Closed X ext ls S → S a ≡ true

-- ---- unfounded atoms

-- an atom of X outside the reduct's least model
pub record Unfounded (X ext : Atoms) (ls : List Line) (a : ℕ) : Type 0 where
  pub holds : X a ≡ true
  pub outside : InLeast X ext ls a → ⊥

-- no atom is unfounded
abbrev pub Founded : Atoms → Atoms → List Line → Type 0
Founded X ext ls = (a : ℕ) → Unfounded X ext ls a → ⊥

-- the smallest such atom
pub record SmallestUnfounded (X ext : Atoms) (ls : List Line) (a : ℕ) : Type 0 where
  pub unfounded : Unfounded X ext ls a
  pub before : (b : ℕ) → b < a → Unfounded X ext ls b → ⊥

-- no atom is unfounded, or the smallest that is
pub data Founding : Type 0 where
  founded : Founding
  unfounded_at : (atom : ℕ) → Founding

-- which of the two holds
abbrev pub FoundedBy : Founding → Atoms → Atoms → List Line → Type 0
FoundedBy founded X ext ls = Founded X ext ls
FoundedBy (unfounded_at a) X ext ls = SmallestUnfounded X ext ls a

-- ---- stable

-- X breaks no rule, and is the least model of its reduct
pub record Stable (X ext : Atoms) (ls : List Line) : Type 0 where
  pub model : Unbroken X ls
  pub least : (a : ℕ) → (X a ≡ true) ↔ InLeast X ext ls a
