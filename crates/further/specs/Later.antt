-- Believed: a plan with further time rules: demand 3's relation between an old plan and a new one, on the lines of both texts. Assumes nothing.
use Rattle.std.specs.Prelude.{ℕ, ◌≡◌, true, false, ◌||◌, ◌⊎◌, List, [], ◌∷◌, ◌++◌, ℤ, pos, negsuc}
use Rattle.std.proofs.Math.Option.{Option, some, none}
use Rattle.basics.specs.Lists.{among, All}
use Rattle.aspif.specs.Statements.{single, normal, Term, num, str, comp, Element, elem, Guard, unguarded, guard, Theory, defines, collects, states, Statement, rule, theory, Line, statement_atoms, Rule, theory_in}
use Rattle.terms.specs.Terms.{taken}
use Rattle.stable.specs.Meaning.{HasRule}
use Rattle.judge.specs.Plan.{Ready}

-- ---- the numbers of each kind that stand in a line

-- a compound's t, where it is a term number
abbrev pub functor : ℤ → List ℕ
functor (pos t) = t ∷ []
functor (negsuc n) = []

-- what a term uses: a compound's t and arguments
abbrev pub in_term : Term → List ℕ
in_term (num w) = []
in_term (str bs) = []
in_term (comp t us) = functor t ++ us

abbrev pub in_guard : Guard → List ℕ
in_guard unguarded = []
in_guard (guard g u) = g ∷ u ∷ []

-- terms: the one defined and what it uses, those of an element, and name, operator and bound of a theory atom
abbrev pub theory_terms : Theory → List ℕ
theory_terms (defines u t) = u ∷ in_term t
theory_terms (collects v (elem us c)) = us
theory_terms (states a p vs g) = p ∷ in_guard g

-- elements: the one defined, and those of a theory atom
abbrev pub theory_elements : Theory → List ℕ
theory_elements (defines u t) = []
theory_elements (collects v e) = v ∷ []
theory_elements (states a p vs g) = vs

-- those of a theory statement; in any other there is none
abbrev pub in_theory : (Theory → List ℕ) → Option Theory → List ℕ
in_theory f (some x) = f x
in_theory f none = []

abbrev pub terms : Statement → List ℕ
terms s = in_theory theory_terms (theory_in s)

abbrev pub elements : Statement → List ℕ
elements s = in_theory theory_elements (theory_in s)

-- no line has n among its numbers of a kind
abbrev pub Unused : (kind : Statement → List ℕ) → List Line → ℕ → Type 0
Unused kind ls n = All (λ (l : Line). among n (kind l.says) ≡ false) ls

-- ---- the lines

-- what may be added to the lines ls: terms and elements under unused numbers; of each atom of `new` its theory atom and its fact; nothing else
pub data Added (ls : List Line) (new : List ℕ) : Statement → Type 0 where
  a_term : (u : ℕ) (t : Term) → Unused terms ls u → Added ls new (theory (defines u t))
  an_element : (v : ℕ) (e : Element) → Unused elements ls v → Added ls new (theory (collects v e))
  an_atom : (a p : ℕ) (vs : List ℕ) (g u : ℕ) → among a new ≡ true → Added ls new (theory (states a p vs (guard g u)))
  a_fact : (a : ℕ) → among a new ≡ true → Added ls new (rule (single a) (normal []))

-- the second list is the first, line by line in order, each at any place, with lines of P anywhere between
pub data Grown (P : Statement → Type 0) : List Line → List Line → Type 0 where
  done : Grown P [] []
  keep : (l m : Line) {ls ms : List Line} → l.says ≡ m.says → Grown P ls ms → Grown P (l ∷ ls) (m ∷ ms)
  add : (m : Line) {ls ms : List Line} → P m.says → Grown P ls ms → Grown P ls (m ∷ ms)

-- p is the place of an old line, and p' of the same line among the new
abbrev pub Moved : {P : Statement → Type 0} {ls ms : List Line} → Grown P ls ms → (p p' : ℕ) → Type 0
Moved done p p' = ⊥
Moved (keep l m e g) p p' = ((l.place ≡ p) × (m.place ≡ p')) ⊎ Moved g p p'
Moved (add m h g) p p' = Moved g p p'

-- ---- the plan and the candidate

-- a rule with an empty body
abbrev pub fact : ℕ → Rule
fact a = record { head = single a; body = normal [] }

-- q' is q with time rules added, whose atoms are `new`
pub record Later (q q' : Ready) (new : List ℕ) : Type 0 where
  -- the old lines in order; terms, elements, theory atoms and facts between
  pub lines : Grown (Added q.lines new) q.lines q'.lines
  -- each new atom is a theory atom; the new plan is readable, so it is a difference
  pub stated : All (λ a. taken q'.lines a ≡ true) new
  -- each is also a fact
  pub facts : All (λ a. HasRule q'.lines (fact a)) new
  -- none stands in the old text
  pub unused : All (Unused statement_atoms q.lines) new
  -- nor in the old candidate
  pub outside : All (λ a. among a q.atoms ≡ false) new
  -- the new candidate is the old one and these
  pub candidate : (a : ℕ) → among a q'.atoms ≡ (among a q.atoms || among a new)
