-- Believed: what is wrong with a line's terms, and the difference that it states: docs/RULES.md, 'Difference atoms'. Lines are taken in order, each with
-- what the lines before it define. It can be run. Assumes nothing.
use Rattle.std.specs.Prelude.{ℕ, ◌≡◌, List, [], ◌∷◌, ◌++◌, Bool, true, false, ◌&&◌, ◌||◌, not, eqb, ℤ, pos, negsuc, neg_ℤ}
use Rattle.std.proofs.Math.Option.{Option, some, none}
use Rattle.basics.specs.Bools.{pick}
use Rattle.basics.specs.Lists.{Some}
use Rattle.faults.specs.Answer.{Answer, mapped}
use Rattle.aspif.specs.Statements.{Term, num, str, comp, Element, elem, Guard, unguarded, guard, Theory, defines, collects, states, Line, theory_in}
use Rattle.diffs.specs.Diff.{Diff}
use Rattle.terms.specs.Says.{term, element_at, diff_word, minus, at_most, headed}

-- ---- what lines have defined and stated

-- the line states a theory atom of a
abbrev pub states_in : ℕ → Option Theory → Bool
states_in a (some (defines u t)) = false
states_in a (some (collects v e)) = false
states_in a (some (states b p vs g)) = eqb a b
states_in a none = false

-- the atom a has a theory atom statement
unfoldable pub taken : List Line → ℕ → Bool
taken [] a = false
taken (l ∷ ls) a = states_in a (theory_in l.says) || taken ls a

-- what lines say of each number
pub record Env : Type 0 where
  pub terms : ℕ → Option Term
  pub elements : ℕ → Option Element
  pub taken : ℕ → Bool

-- what these lines say
abbrev pub known : List Line → Env
known ls = record { terms = term ls; elements = element_at ls; taken = taken ls }

-- something is there
abbrev pub defined : {A : Type 0} → Option A → Bool
defined (some a) = true
defined none = false

-- every number of the list is defined
unfoldable pub all_defined : {A : Type 0} → (ℕ → Option A) → List ℕ → Bool
all_defined look [] = true
all_defined look (u ∷ us) = defined (look u) && all_defined look us

-- ---- which difference a theory atom states

-- two strings have the same bytes
unfoldable pub same_bytes : List ℕ → List ℕ → Bool
same_bytes [] [] = true
same_bytes [] (b ∷ bs) = false
same_bytes (a ∷ s) [] = false
same_bytes (a ∷ s) (b ∷ bs) = eqb a b && same_bytes s bs

-- a term is the string l
unfoldable pub is_string : List ℕ → Option Term → Bool
is_string l none = false
is_string l (some (num k)) = false
is_string l (some (str s)) = same_bytes s l
is_string l (some (comp t us)) = false

-- a compound's t is the string `-`
unfoldable pub is_minus : (ℕ → Option Term) → ℤ → Bool
is_minus look (pos t) = is_string minus (look t)
is_minus look (negsuc t) = false

-- a numeric term, negated
unfoldable pub opposite : Option Term → Option ℤ
opposite none = none
opposite (some (num k)) = some (neg_ℤ k)
opposite (some (str s)) = none
opposite (some (comp t us)) = none

-- a numeric term, or a compound of `-` with one numeric argument
unfoldable pub bound_of : (ℕ → Option Term) → Option Term → Option ℤ
bound_of look none = none
bound_of look (some (num k)) = some k
bound_of look (some (str s)) = none
bound_of look (some (comp t [])) = none
bound_of look (some (comp t (n ∷ []))) = pick (is_minus look t) (opposite (look n)) none
bound_of look (some (comp t (n ∷ m ∷ us))) = none

-- x and y of a difference
pub record Pair : Type 0 where
  pub x : ℕ
  pub y : ℕ

-- a compound of `-` with two arguments
unfoldable pub pair_of : (ℕ → Option Term) → Option Term → Option Pair
pair_of look none = none
pair_of look (some (num k)) = none
pair_of look (some (str s)) = none
pair_of look (some (comp t [])) = none
pair_of look (some (comp t (x ∷ []))) = none
pair_of look (some (comp t (x ∷ y ∷ []))) = pick (is_minus look t) (some (record { x = x; y = y })) none
pair_of look (some (comp t (x ∷ y ∷ z ∷ us))) = none

-- an element with one term, which is such a compound, and no condition
unfoldable pub pair_in : (ℕ → Option Term) → Option Element → Option Pair
pair_in look none = none
pair_in look (some (elem [] ls)) = none
pair_in look (some (elem (w ∷ []) [])) = pair_of look (look w)
pair_in look (some (elem (w ∷ []) (l ∷ ls))) = none
pair_in look (some (elem (w ∷ u ∷ us) ls)) = none

-- x, y and k together
abbrev pub joined : Option Pair → Option ℤ → Option Diff
joined (some p) (some k) = some (record { x = p.x; y = p.y; k = k })
joined (some p) none = none
joined none b = none

-- the difference of name p, elements vs, and operator and bound
unfoldable pub difference_of : (ℕ → Option Term) → (ℕ → Option Element) → (p : ℕ) → List ℕ → Guard → Option Diff
difference_of look els p [] g = none
difference_of look els p (v ∷ w ∷ vs) g = none
difference_of look els p (v ∷ []) unguarded = none
difference_of look els p (v ∷ []) (guard g u) =
    pick (is_string diff_word (look p))
    (pick (is_string at_most (look g)) (joined (pair_in look (els v)) (bound_of look (look u))) none)
    none

-- ---- the four tests

-- a term or element number is defined twice
abbrev pub twice : Env → Option Theory → Bool
twice env (some (defines u t)) = defined (env.terms u)
twice env (some (collects v e)) = defined (env.elements v)
twice env (some (states a p vs g)) = false
twice env none = false

-- t is defined, where it is a term number
abbrev pub functor_known : (ℕ → Option Term) → ℤ → Bool
functor_known look (pos t) = defined (look t)
functor_known look (negsuc t) = true

-- a term uses what is defined
abbrev pub term_uses : (ℕ → Option Term) → Term → Bool
term_uses look (num k) = true
term_uses look (str s) = true
term_uses look (comp t us) = functor_known look t && all_defined look us

-- and so does an element
abbrev pub element_uses : (ℕ → Option Term) → Element → Bool
element_uses look (elem us ls) = all_defined look us

-- and so do operator and bound
abbrev pub guard_uses : (ℕ → Option Term) → Guard → Bool
guard_uses look unguarded = true
guard_uses look (guard g u) = defined (look g) && defined (look u)

-- a term or element is used that no earlier line defines: t, arguments; an element's terms; p, elements, g, u
abbrev pub undefined_use : Env → Option Theory → Bool
undefined_use env (some (defines u t)) = not (term_uses env.terms t)
undefined_use env (some (collects v e)) = not (element_uses env.terms e)
undefined_use env (some (states a p vs g)) =
    not (defined (env.terms p) && (all_defined env.elements vs && guard_uses env.terms g))
undefined_use env none = false

-- an atom has a second theory atom statement
abbrev pub second : Env → Option Theory → Bool
second env (some (defines u t)) = false
second env (some (collects v e)) = false
second env (some (states a p vs g)) = env.taken a
second env none = false

-- a theory atom isn't a difference
abbrev pub not_difference : Env → Option Theory → Bool
not_difference env (some (defines u t)) = false
not_difference env (some (collects v e)) = false
not_difference env (some (states a p vs g)) = not (defined (difference_of env.terms env.elements p vs g))
not_difference env none = false

-- one of the four: document 01's test for 6
unfoldable pub unsound : Env → Option Theory → Bool
unsound env s = twice env s || (undefined_use env s || (second env s || not_difference env s))

-- the place of the first unsound line of ls, behind the lines before
unfoldable pub unsound_from : (before ls : List Line) → Option ℕ
unsound_from before [] = none
unsound_from before (l ∷ ls) =
    pick (unsound (known before) (theory_in l.says)) (some l.place) (unsound_from (before ++ (l ∷ [])) ls)

-- the place at which document 01 gives 6
abbrev pub first_unsound : List Line → Option ℕ
first_unsound ls = unsound_from [] ls

-- ---- the difference that a line states

-- an atom, and the difference that it says
pub record Stated : Type 0 where
  pub atom : ℕ
  pub says : Diff

-- a difference as that of a
abbrev pub stated_as : ℕ → Option Diff → Option Stated
stated_as a (some d) = some (record { atom = a; says = d })
stated_as a none = none

-- the difference that a line states
abbrev pub stated_by : Env → Option Theory → Option Stated
stated_by env (some (defines u t)) = none
stated_by env (some (collects v e)) = none
stated_by env (some (states a p vs g)) = stated_as a (difference_of env.terms env.elements p vs g)
stated_by env none = none

-- a difference in front of the others
abbrev pub more : Option Stated → Answer (List Stated) → Answer (List Stated)
more (some d) r = mapped (λ (ds : List Stated). d ∷ ds) r
more none r = r

-- among these, a says d
abbrev pub Lists : List Stated → ℕ → Diff → Type 0
Lists ds a d = Some (λ (s : Stated). s ≡ record { atom = a; says = d }) ds

-- ---- external atoms

-- a difference atom that stands in no rule head
abbrev pub external : List Line → ℕ → Bool
external ls a = taken ls a && not (headed ls a)
