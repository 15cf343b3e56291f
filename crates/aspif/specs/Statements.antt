-- Believed: what the lines of a plan say: docs/RULES.md, 'Reading the text'. Assumes nothing.
use Rattle.std.specs.Prelude.{ℕ, Bool, List, [], ◌∷◌, ◌++◌, map, ℤ}
use Rattle.std.proofs.Math.Option.{Option, some, none}
use Rattle.basics.specs.Lists.{among}

-- an atom, or an atom under default negation
pub data Literal : Type 0 where
  positive negated : (atom : ℕ) → Literal

-- an empty, single or choice head
pub data Head : Type 0 where
  empty : Head
  single : (atom : ℕ) → Head
  choice : (atoms : List ℕ) → Head

-- the atoms of a head
abbrev pub head_atoms : Head → List ℕ
head_atoms empty = []
head_atoms (single a) = a ∷ []
head_atoms (choice hs) = hs

-- a stands in a head
abbrev pub in_head : ℕ → Head → Bool
in_head a h = among a (head_atoms h)

-- a literal, and what it counts
pub record Premise : Type 0 where
  pub literal : Literal
  pub weight : ℕ

-- a normal body; or a weight body: a lower bound, and literals with weights
pub data Body : Type 0 where
  normal : (literals : List Literal) → Body
  weights : (bound : ℕ) → (premises : List Premise) → Body

-- what a term number stands for; a compound's t is a term number, or -1, -2, -3 (tuple, set, list)
pub data Term : Type 0 where
  num : ℤ → Term
  str : (bytes : List ℕ) → Term
  comp : (t : ℤ) → (arguments : List ℕ) → Term

-- what an element number stands for
pub data Element : Type 0 where
  elem : (terms : List ℕ) → (condition : List Literal) → Element

-- the operator and the bound of a theory atom, where it has them
pub data Guard : Type 0 where
  unguarded : Guard
  guard : (operator bound : ℕ) → Guard

-- a theory statement defines a term, or collects an element, or states a theory atom
pub data Theory : Type 0 where
  defines : (term : ℕ) → Term → Theory
  collects : (element : ℕ) → Element → Theory
  states : (atom name : ℕ) → (elements : List ℕ) → Guard → Theory

-- atoms, terms and elements by their numbers, strings by their bytes
pub data Statement : Type 0 where
  rule : Head → Body → Statement
  output : (bytes : List ℕ) → (condition : List Literal) → Statement
  theory : Theory → Statement
  comment : (bytes : List ℕ) → Statement

-- a line: the place of its first byte, and what it says
pub record Line : Type 0 where
  pub place : ℕ
  pub says : Statement

-- ---- the atoms that stand in a statement

abbrev pub atom_of : Literal → ℕ
atom_of (positive a) = a
atom_of (negated a) = a

abbrev pub literal_atoms : List Literal → List ℕ
literal_atoms ls = map atom_of ls

abbrev pub premise_atom : Premise → ℕ
premise_atom p = atom_of p.literal

abbrev pub body_atoms : Body → List ℕ
body_atoms (normal ls) = literal_atoms ls
body_atoms (weights k ps) = map premise_atom ps

-- those of a head and a body, of a condition, and of a theory atom
abbrev pub statement_atoms : Statement → List ℕ
statement_atoms (rule h b) = head_atoms h ++ body_atoms b
statement_atoms (output bs c) = literal_atoms c
statement_atoms (theory (defines u t)) = []
statement_atoms (theory (collects v (elem us c))) = literal_atoms c
statement_atoms (theory (states a p vs g)) = a ∷ []
statement_atoms (comment bs) = []

-- ---- a statement as one of a kind, or none

-- a head and a body
pub record Rule : Type 0 where
  pub head : Head
  pub body : Body

abbrev pub rule_in : Statement → Option Rule
rule_in (rule h b) = some (record { head = h; body = b })
rule_in (output bs c) = none
rule_in (theory x) = none
rule_in (comment bs) = none

abbrev pub theory_in : Statement → Option Theory
theory_in (rule h b) = none
theory_in (output bs c) = none
theory_in (theory x) = some x
theory_in (comment bs) = none
