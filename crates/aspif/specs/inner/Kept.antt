-- Inner: the bounds that every line read keeps to, and lines that stand on a tape. Assumes nothing.
use Rattle.std.specs.Prelude.{ℕ, zero, suc, ◌+◌, ◌≤◌, ◌<◌, ◌≡◌, List, ℤ, pos, negsuc, length}
use Rattle.basics.specs.Lists.{All}
use Rattle.faults.specs.Limits.{last_term, last_element, most_count, largest_number, largest_bound}
use Rattle.fields.specs.inner.Kept.{IsAtom, IsWeight}
use Rattle.aspif.specs.Statements.{Literal, Head, empty, single, choice, Premise, Body, normal, weights, Term, num, str, comp, Element, elem, Guard, unguarded, guard, Theory, defines, collects, states, Statement, rule, output, theory, comment, Line, literal_atoms, premise_atom}
use Rattle.aspif.specs.inner.Words.{words, words_from, says_at, line_at, after}

-- ---- bounds: docs/RULES.md, 'Numbers that bound it'

abbrev pub IsTerm : ℕ → Type 0
IsTerm u = u ≤ last_term

abbrev pub IsElement : ℕ → Type 0
IsElement v = v ≤ last_element

abbrev pub IsByte : ℕ → Type 0
IsByte b = b < 256

-- an integer from - low to high
abbrev pub FromTo : (low high : ℕ) → ℤ → Type 0
FromTo low high (pos n) = n ≤ high
FromTo low high (negsuc n) = suc n ≤ low

-- each of P, and no more of them than a count may say
abbrev pub Counted : {A : Type 0} → (A → Type 0) → List A → Type 0
Counted P l = All P l × (length l ≤ most_count)

abbrev pub SmallLiterals : List Literal → Type 0
SmallLiterals ls = Counted IsAtom (literal_atoms ls)

abbrev pub SmallHead : Head → Type 0
SmallHead empty = Unit {0}
SmallHead (single a) = IsAtom a
SmallHead (choice hs) = Counted IsAtom hs

abbrev pub SmallPremise : Premise → Type 0
SmallPremise p = IsAtom (premise_atom p) × IsWeight p.weight

abbrev pub SmallBody : Body → Type 0
SmallBody (normal ls) = SmallLiterals ls
SmallBody (weights k ps) = (k ≤ largest_bound) × Counted SmallPremise ps

abbrev pub SmallElement : Element → Type 0
SmallElement (elem us c) = Counted IsTerm us × SmallLiterals c

abbrev pub SmallGuard : Guard → Type 0
SmallGuard unguarded = Unit {0}
SmallGuard (guard g u) = IsTerm g × IsTerm u

-- a statement within its bounds, and B of each byte of a string
module _ (B : ℕ → Type 0) where
  abbrev pub TermWith : Term → Type 0
  TermWith (num w) = FromTo largest_number largest_number w
  TermWith (str bs) = Counted B bs
  TermWith (comp t us) = FromTo 3 last_term t × Counted IsTerm us

  abbrev pub TheoryWith : Theory → Type 0
  TheoryWith (defines u t) = IsTerm u × TermWith t
  TheoryWith (collects v e) = IsElement v × SmallElement e
  TheoryWith (states a p vs g) = IsAtom a × IsTerm p × Counted IsElement vs × SmallGuard g

  abbrev pub SmallWith : Statement → Type 0
  SmallWith (rule h b) = SmallHead h × SmallBody b
  SmallWith (output bs c) = Counted B bs × SmallLiterals c
  SmallWith (theory x) = TheoryWith x
  SmallWith (comment bs) = All B bs

  abbrev pub AllSmallWith : List Line → Type 0
  AllSmallWith xs = All (λ (x : Line). SmallWith x.says) xs

abbrev pub Small : Statement → Type 0
Small = SmallWith IsByte

abbrev pub AllSmall : List Line → Type 0
AllSmall = AllSmallWith IsByte

-- the same of lines whose bytes may be anything
abbrev pub AllInRange : List Line → Type 0
AllInRange = AllSmallWith (λ b. Unit {0})

-- ---- lines on the tape

-- words stand on the tape from p on
pub record Stand (ws t : List ℕ) (p : ℕ) : Type 0 where
  pub inside : p + length ws ≤ length t
  pub are : words_from t p (length ws) ≡ ws

-- the words of the line at p stand there, and it keeps to its bounds
pub record LineOn (t : List ℕ) (p : ℕ) : Type 0 where
  pub stand : Stand (words (line_at t p)) t p
  pub small : Small (says_at t (p + 2))

-- n lines stand on the tape from p on
unfoldable pub Ahead : List ℕ → (p n : ℕ) → Type 0
Ahead t p zero = p ≤ length t
Ahead t p (suc n) = LineOn t p × Ahead t (after t p) n
