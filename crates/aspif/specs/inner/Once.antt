-- Inner: that lines stand on a tape has at most one proof, and that a bitmap ends too, so that a ghost field may hold it. Assumes nothing.
use Rattle.std.specs.Prelude.{ℕ, zero, suc, List, [], ◌∷◌, ℤ, pos, negsuc}
use Rattle.std.specs.Coded.{×_prop, Unit-prop}
use denote.Struct.Props.{props}
use Rattle.basics.specs.Lists.{All}
use Rattle.faults.specs.Limits.{largest_number, last_term}
use Rattle.fields.specs.inner.Kept.{IsAtom}
use Rattle.aspif.specs.Statements.{Head, empty, single, choice, Body, normal, weights, Term, num, str, comp, elem, Guard, unguarded, guard, Theory, defines, collects, states, Statement, rule, output, theory, comment, literal_atoms}
use Rattle.aspif.specs.inner.Words.{after}
use Rattle.aspif.specs.inner.Kept.{IsTerm, IsElement, IsByte, FromTo, Counted, SmallHead, SmallBody, SmallGuard, TermWith, TheoryWith, Small, LineOn, Ahead}
use Rattle.aspif.specs.inner.Bitmap.{EndsAt}

all_once : {A : Type 0} {P : A → Type 0} → ((a : A) → IsProp (P a)) → (l : List A) → IsProp (All P l)
all_once p [] = Unit-prop
all_once p (a ∷ l) = ×_prop (p a) (all_once p l)

list_once : {A : Type 0} {P : A → Type 0} → ((a : A) → IsProp (P a)) → (l : List A) → IsProp (Counted P l)
list_once p l = ×_prop (all_once p l) (hlevel props)

integer_once : (low high : ℕ) (w : ℤ) → IsProp (FromTo low high w)
integer_once low high (pos n) = hlevel props
integer_once low high (negsuc n) = hlevel props

atoms_once : (l : List ℕ) → IsProp (Counted IsAtom l)
atoms_once = list_once (λ a. hlevel props)

terms_once : (l : List ℕ) → IsProp (Counted IsTerm l)
terms_once = list_once (λ u. hlevel props)

elements_once : (l : List ℕ) → IsProp (Counted IsElement l)
elements_once = list_once (λ v. hlevel props)

bytes_once : (l : List ℕ) → IsProp (All IsByte l)
bytes_once = all_once (λ b. hlevel props)

head_once : (h : Head) → IsProp (SmallHead h)
head_once empty = hlevel props
head_once (single a) = hlevel props
head_once (choice hs) = atoms_once hs

body_once : (b : Body) → IsProp (SmallBody b)
body_once (normal ls) = atoms_once (literal_atoms ls)
body_once (weights k ps) = ×_prop (hlevel props) (list_once (λ p. hlevel props) ps)

guard_once : (g : Guard) → IsProp (SmallGuard g)
guard_once unguarded = hlevel props
guard_once (guard g u) = hlevel props

term_once : (t : Term) → IsProp (TermWith IsByte t)
term_once (num w) = integer_once largest_number largest_number w
term_once (str bs) = hlevel (props, bytes_once)
term_once (comp t us) = ×_prop (integer_once 3 last_term t) (terms_once us)

theory_once : (x : Theory) → IsProp (TheoryWith IsByte x)
theory_once (defines u t) = hlevel (props, term_once)
theory_once (collects v (elem us c)) = hlevel (props, terms_once, atoms_once)
theory_once (states a p vs g) = hlevel (props, elements_once, guard_once)

small_once : (s : Statement) → IsProp (Small s)
small_once (rule h b) = ×_prop (head_once h) (body_once b)
small_once (output bs c) = hlevel (props, bytes_once, atoms_once)
small_once (theory x) = theory_once x
small_once (comment bs) = bytes_once bs

line_once : (t : List ℕ) (p : ℕ) → IsProp (LineOn t p)
line_once t p = hlevel (props, small_once)

pub ahead_once : (t : List ℕ) (p n : ℕ) → IsProp (Ahead t p n)
unfolding Ahead
ahead_once t p zero = hlevel props
ahead_once t p (suc n) = ×_prop (line_once t p) (ahead_once t (after t p) n)

pub ends_once : (last : ℕ) (x : List ℕ) → IsProp (EndsAt last x)
ends_once last x = hlevel props
