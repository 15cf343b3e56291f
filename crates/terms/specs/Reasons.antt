-- Believed: refusals 61 to 64, and the differences of a text that has none of them: docs/RULES.md, 'Difference atoms'. It can be run. Assumes nothing.
use Rattle.std.specs.Prelude.{ℕ, ◌+◌, List, [], ◌∷◌, ◌++◌, Bool, ℤ, pos, negsuc, length}
use Rattle.std.proofs.Math.Option.{Option, some, none}
use Rattle.basics.specs.Bools.{pick}
use Rattle.faults.specs.Answer.{Answer, got, refused}
use Rattle.fields.specs.Fields.{field_place}
use Rattle.aspif.specs.Statements.{Term, num, str, comp, Element, elem, Guard, unguarded, guard, Theory, defines, collects, states, Line, theory_in}
use Rattle.terms.specs.Says.{or_else}
use Rattle.terms.specs.Terms.{Env, known, defined, twice, second, not_difference, Stated, stated_by, more}

-- ---- the leftmost use of what no earlier line defines, by the number of its field; the line's first field is 0

-- among numbers that stand in the fields from k on
unfoldable pub unknown_from : (is_known : ℕ → Bool) → (k : ℕ) → List ℕ → Option ℕ
unknown_from is_known k [] = none
unknown_from is_known k (u ∷ us) = pick (is_known u) (unknown_from is_known (k + 1) us) (some k)

-- the term number is defined, and so the element number
abbrev pub knows_term : Env → ℕ → Bool
knows_term env u = defined (env.terms u)

abbrev pub knows_element : Env → ℕ → Bool
knows_element env v = defined (env.elements v)

-- t is used where it is a term number
abbrev pub functor_use : ℤ → List ℕ
functor_use (pos t) = t ∷ []
functor_use (negsuc t) = []

-- t is field 3 of `9 2 u t n u1..un`, u1 is field 5
abbrev pub term_use : Env → Term → Option ℕ
term_use env (num k) = none
term_use env (str s) = none
term_use env (comp t us) = or_else (unknown_from (knows_term env) 3 (functor_use t)) (unknown_from (knows_term env) 5 us)

-- u1 is field 4 of `9 4 v n u1..un m l1..lm`
abbrev pub element_use : Env → Element → Option ℕ
element_use env (elem us ls) = unknown_from (knows_term env) 4 us

-- g and u stand behind the elements
abbrev pub guard_use : Env → (k : ℕ) → Guard → Option ℕ
guard_use env k unguarded = none
guard_use env k (guard g u) = unknown_from (knows_term env) k (g ∷ u ∷ [])

-- p is field 3 of `9 6 a p n v1..vn g u`, v1 is field 5
abbrev pub unknown_use : Env → Option Theory → Option ℕ
unknown_use env (some (defines u t)) = term_use env t
unknown_use env (some (collects v e)) = element_use env e
unknown_use env (some (states a p vs g)) =
    or_else (unknown_from (knows_term env) 3 (p ∷ []))
    (or_else (unknown_from (knows_element env) 5 vs) (guard_use env (5 + length vs) g))
unknown_use env none = none

-- ---- what is wrong with a line

-- the refusal's number, and the field whose first byte is its place
pub record Reason : Type 0 where
  pub number : ℕ
  pub field : ℕ

abbrev pub reason : (number field : ℕ) → Option Reason
reason k f = some (record { number = k; field = f })

-- 62 at a use, or else what comes after it
abbrev pub at_use : Option ℕ → Option Reason → Option Reason
at_use (some f) r = reason 62 f
at_use none r = r

-- within one line the order is 61, 62, 63, 64; all but 62 stand at the line's first byte
unfoldable pub reason_of : Env → Option Theory → Option Reason
reason_of env s =
    pick (twice env s) (reason 61 0)
    (at_use (unknown_use env s)
    (pick (second env s) (reason 63 0)
    (pick (not_difference env s) (reason 64 0) none)))

-- ---- the differences of a text

-- the refusal of a line that begins at the place, or else what comes after it
abbrev pub answered : (text : List ℕ) → (place : ℕ) → Option Reason → Answer (List Stated) → Answer (List Stated)
answered text place (some r) a = refused r.number (field_place text r.field place)
answered text place none a = a

-- of the lines ls, behind the lines before
unfoldable pub differences_from : (text : List ℕ) → (before ls : List Line) → Answer (List Stated)
differences_from text before [] = got []
differences_from text before (l ∷ ls) =
    answered text l.place (reason_of (known before) (theory_in l.says))
    (more (stated_by (known before) (theory_in l.says)) (differences_from text (before ++ (l ∷ [])) ls))

-- the differences that the lines of the text state, in order; or what is wrong with the first line of which something is
unfoldable pub differences : (text : List ℕ) → List Line → Answer (List Stated)
differences text ls = differences_from text [] ls
