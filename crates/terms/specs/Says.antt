-- Believed: what difference atoms say, over the lines of a plan: docs/RULES.md, 'Difference atoms' and 'Meaning'. Assumes nothing.
use Rattle.std.specs.Prelude.{◌≡◌, Bool, true, false, ◌||◌, List, [], ◌∷◌, ◌⊎◌, ℕ, eqb, ℤ, pos, neg_ℤ}
use Rattle.std.proofs.Math.Option.{Option, some, none}
use Rattle.basics.specs.Bools.{pick}
use Rattle.basics.specs.Lists.{All, Some, Ascending, among}
use Rattle.aspif.specs.Statements.{in_head, Term, num, str, comp, Element, elem, unguarded, guard, Theory, defines, collects, states, Line, Rule, rule_in, theory_in}
use Rattle.diffs.specs.Diff.{Diff}

-- ---- what the lines define

-- the first, or else the second
abbrev pub or_else : {A : Type 0} → Option A → Option A → Option A
or_else (some a) b = some a
or_else none b = b

-- what one line says of the term u
abbrev pub term_in : ℕ → Option Theory → Option Term
term_in u (some (defines v t)) = pick (eqb u v) (some t) none
term_in u (some (collects v e)) = none
term_in u (some (states a p vs g)) = none
term_in u none = none

-- what the term number u stands for
unfoldable pub term : List Line → ℕ → Option Term
term [] u = none
term (l ∷ ls) u = or_else (term_in u (theory_in l.says)) (term ls u)

-- what one line says of the element w
abbrev pub element_in : ℕ → Option Theory → Option Element
element_in w (some (defines u t)) = none
element_in w (some (collects v e)) = pick (eqb w v) (some e) none
element_in w (some (states a p vs g)) = none
element_in w none = none

-- what the element number v stands for
unfoldable pub element_at : List Line → ℕ → Option Element
element_at [] v = none
element_at (l ∷ ls) v = or_else (element_in v (theory_in l.says)) (element_at ls v)

-- ---- differences

-- the bytes of `diff`, `-` and `<=`
abbrev pub diff_word : List ℕ
diff_word = 100 ∷ 105 ∷ 102 ∷ 102 ∷ []

abbrev pub minus : List ℕ
minus = 45 ∷ []

abbrev pub at_most : List ℕ
at_most = 60 ∷ 61 ∷ []

-- k is the bound that the term u gives: a numeric term, or `-` with one numeric argument, then that number negated
pub data Bound (ls : List Line) (u : ℕ) (k : ℤ) : Type 0 where
  direct : term ls u ≡ some (num k) → Bound ls u k
  under_minus : (t n : ℕ) (j : ℤ)
      → term ls u ≡ some (comp (pos t) (n ∷ [])) → term ls t ≡ some (str minus) → term ls n ≡ some (num j) → k ≡ neg_ℤ j
      → Bound ls u k

-- name p, elements vs, operator g and bound u are the difference d
pub record Difference (ls : List Line) (p : ℕ) (vs : List ℕ) (g u : ℕ) (d : Diff) : Type 0 where
  pub named : term ls p ≡ some (str diff_word)
  pub v : ℕ
  pub one : vs ≡ v ∷ []
  pub w : ℕ
  pub inside : element_at ls v ≡ some (elem (w ∷ []) [])
  pub t : ℕ
  pub pair : term ls w ≡ some (comp (pos t) (d.x ∷ d.y ∷ []))
  pub sign : term ls t ≡ some (str minus)
  pub order : term ls g ≡ some (str at_most)
  pub bound : Bound ls u d.k

-- one line says that a is d
abbrev pub SaysIn : List Line → ℕ → Diff → Option Theory → Type 0
SaysIn ls a d (some (defines u t)) = ⊥
SaysIn ls a d (some (collects v e)) = ⊥
SaysIn ls a d (some (states b p vs unguarded)) = ⊥
SaysIn ls a d (some (states b p vs (guard g u))) = (b ≡ a) × Difference ls p vs g u d
SaysIn ls a d none = ⊥

-- the theory atom a says d. Numbers are looked up in the whole text: in one that 61 to 64 do not refuse, each is defined once and before its use
abbrev pub Says : List Line → ℕ → Diff → Type 0
Says ls a d = Some (λ (l : Line). SaysIn ls a d (theory_in l.says)) ls

-- ---- names

-- n is a name: it stands as x or y in a difference atom, whether that atom holds or not
pub record Name (ls : List Line) (n : ℕ) : Type 0 where
  pub atom : ℕ
  pub diff : Diff
  pub says : Says ls atom diff
  pub side : (diff.x ≡ n) ⊎ (diff.y ≡ n)

-- ns are the names, strictly ascending
pub record Names (ls : List Line) (ns : List ℕ) : Type 0 where
  pub ascending : Ascending ns
  pub all : (n : ℕ) → Name ls n → among n ns ≡ true
  pub only : All (Name ls) ns

-- ---- heads

-- a stands in the head of a rule
abbrev pub head_in : ℕ → Option Rule → Bool
head_in a (some r) = in_head a r.head
head_in a none = false

-- a stands in the head of some rule, choice rules included
unfoldable pub headed : List Line → ℕ → Bool
headed [] a = false
headed (l ∷ ls) a = head_in a (rule_in l.says) || headed ls a
