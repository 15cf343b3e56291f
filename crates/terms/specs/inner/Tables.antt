-- Inner: what the code's tables stand for. A table has a place for each number: 0 where no line defined it yet, or q + 1 where the
-- statement at q of the tape, its kind there, did; that of atoms says whether a line stated it. Assumes nothing.
use Rattle.std.specs.Prelude.{ℕ, zero, suc, ◌<◌, ◌≡◌, List, [], ◌∷◌, ◌++◌, Bool, true, false, ◌&&◌, length, get_or, eqb, ℤ, pos, negsuc, is_some, Some, None}
use Rattle.std.specs.Prelude as code
use Rattle.std.proofs.Math.Option.{Option, some, none}
use Rattle.basics.specs.Bools.{pick}
use Rattle.faults.specs.Limits.{largest_number}
use Rattle.faults.specs.inner.Places.{term_places}
use Rattle.faults.specs.Answer.{Answer, got, mapped}
use Rattle.aspif.specs.Statements.{Term, num, str, comp, Element, elem, Theory, defines, collects, states, Line, theory_in}
use Rattle.aspif.specs.inner.Words.{number_kind, string_kind, compound_kind, element_kind, atom_kind, guarded_kind, word, says_at}
use Rattle.aspif.specs.inner.Kept.{FromTo}
use Rattle.diffs.specs.Diff.{Diff}
use Rattle.diffs.specs.inner.Answer.{diff_at}
use Rattle.diffs.specs.declared.Difference.{Difference}
use Rattle.terms.specs.Terms.{Env, is_minus, Stated, difference_of, stated_by, more}
use Rattle.terms.specs.Reasons.{reason_of, answered, differences}
use Rattle.terms.specs.declared.lines.Role.{Role}
use Rattle.terms.specs.declared.tables.Known.{Known}
use Rattle.terms.specs.declared.lines.Role.TheVariants as role

-- what the statements of a kind are for
unfoldable pub role_of : (kind : ℕ) → Role
role_of k =
    pick (eqb k number_kind) role.Term
    (pick (eqb k string_kind) role.Term
    (pick (eqb k compound_kind) role.Term
    (pick (eqb k element_kind) role.Element
    (pick (eqb k atom_kind) role.Atom
    (pick (eqb k guarded_kind) role.Atom role.Other)))))

-- a compound's t is a term number
abbrev pub is_term : ℤ → Bool
is_term (pos n) = true
is_term (negsuc n) = false

-- a compound of `-` with that many arguments
abbrev pub minus_of : (ℕ → Option Term) → (count : ℕ) → Term → Bool
minus_of look n (num k) = false
minus_of look n (str s) = false
minus_of look n (comp t us) = eqb (length us) n && is_minus look t

-- ---- what an entry and a table mean

-- the term that a statement defines; an empty tuple, which is part of no difference, where it defines none
abbrev pub term_of : Option Theory → Term
term_of (some (defines u x)) = x
term_of (some (collects v e)) = comp (negsuc 0) []
term_of (some (states a p vs g)) = comp (negsuc 0) []
term_of none = comp (negsuc 0) []

-- the element that it collects, or one of nothing
abbrev pub element_of : Option Theory → Element
element_of (some (defines u x)) = elem [] []
element_of (some (collects v e)) = e
element_of (some (states a p vs g)) = elem [] []
element_of none = elem [] []

-- the place of the statement that an entry stands for
abbrev pub place_by : (entry : ℕ) → code.Option ℕ
place_by zero = None
place_by (suc q) = Some q

-- the place of the statement that defines a number
abbrev pub place_in : (table : List ℕ) → ℕ → code.Option ℕ
place_in table u = place_by (word table u)

-- the term of the statement at q
abbrev pub term_at : List ℕ → (q : ℕ) → Term
term_at t q = term_of (theory_in (says_at t q))

-- that of the statement at a place, if there is one
unfoldable pub term_on : List ℕ → code.Option ℕ → Option Term
term_on t None = none
term_on t (Some q) = some (term_at t q)

-- the element of the statement at a place, if there is one
unfoldable pub element_on : List ℕ → code.Option ℕ → Option Element
element_on t None = none
element_on t (Some q) = some (element_of (theory_in (says_at t q)))

-- what a table of terms says of a number
unfoldable pub look_in : List ℕ → (table : List ℕ) → ℕ → Option Term
look_in t terms u = term_on t (place_in terms u)

-- what a table of elements says of a number
unfoldable pub elements_in : List ℕ → (table : List ℕ) → ℕ → Option Element
elements_in t elements v = element_on t (place_in elements v)

-- the terms and the elements that the code knows
abbrev pub terms_by : Known → ℕ → Option Term
terms_by k = look_in k.tape.now k.terms.now

abbrev pub elements_by : Known → ℕ → Option Element
elements_by k = elements_in k.tape.now k.elements.now

-- a number is entered in a table, of terms or of elements
unfoldable pub entered : (table : List ℕ) → ℕ → Bool
entered table u = is_some (place_in table u)

-- what three tables say
unfoldable pub env_of : List ℕ → (terms elements : List ℕ) → (seen : List Bool) → Env
env_of t terms elements seen =
    record { terms = look_in t terms; elements = elements_in t elements; taken = λ a. get_or seen a false }

-- the difference that a theory atom states
abbrev pub difference_in : (ℕ → Option Term) → (ℕ → Option Element) → Option Theory → Option Diff
difference_in look els (some (defines u x)) = none
difference_in look els (some (collects v e)) = none
difference_in look els (some (states a p vs g)) = difference_of look els p vs g
difference_in look els none = none

-- that of the statement at q
unfoldable pub stated_on : List ℕ → (terms elements : List ℕ) → ℕ → Option Diff
stated_on t terms elements q = difference_in (look_in t terms) (elements_in t elements) (theory_in (says_at t q))

-- ---- the walk over the lines, with what was defined on the way

-- f, but a at i
abbrev pub changed : {A : Type 0} → (ℕ → A) → ℕ → A → ℕ → A
changed f i a j = pick (eqb j i) a (f j)

-- what was known, and what a statement adds
unfoldable pub known_with : Env → Option Theory → Env
known_with env (some (defines u x)) = record { terms = changed env.terms u (some x); elements = env.elements; taken = env.taken }
known_with env (some (collects v e)) = record { terms = env.terms; elements = changed env.elements v (some e); taken = env.taken }
known_with env (some (states a p vs g)) = record { terms = env.terms; elements = env.elements; taken = changed env.taken a true }
known_with env none = env

-- the differences that lines of the text state, behind what is known; or what is wrong with the first of which something is
unfoldable pub walk : (text : List ℕ) → Env → List Line → Answer (List Stated)
walk text env [] = got []
walk text env (l ∷ ls) =
    answered text l.place (reason_of env (theory_in l.says))
    (more (stated_by env (theory_in l.says)) (walk text (known_with env (theory_in l.says)) ls))

-- the lines ls state the differences ds: a text only places what is wrong
abbrev pub States : List Line → List Stated → Type 0
States ls ds = (text : List ℕ) → differences text ls ≡ got ds

-- ---- the differences that two slices hold

-- the difference in the places i of them
abbrev pub held_at : (atoms : List ℕ) → List Difference → ℕ → Stated
held_at atoms ds i = record { atom = word atoms i; says = diff_at ds i }

-- f 0, .., f (n - 1)
unfoldable pub tabulated : {A : Type 0} → ℕ → (ℕ → A) → List A
tabulated zero f = []
tabulated (suc n) f = tabulated n f ++ (f n ∷ [])

-- those, and what is to come
unfoldable pub gather : ℕ → (ℕ → Stated) → Answer (List Stated) → Answer (List Stated)
gather n f r = mapped (λ (ds : List Stated). tabulated n f ++ ds) r

-- x and y are term numbers, and the bound is from -1,000,000 to 1,000,000
pub record SmallDiff (d : Diff) : Type 0 where
  pub x-small : d.x < term_places
  pub y-small : d.y < term_places
  pub k-small : FromTo largest_number largest_number d.k
