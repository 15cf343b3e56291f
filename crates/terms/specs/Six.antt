-- Believed: what is proved of 61 to 64: they are given exactly where document 01 gave 6, and 62 points at a number that no earlier line defines.
-- Assumes nothing.
use Rattle.std.specs.Prelude.{ℕ, ◌+◌, ◌≡◌, ◌⊎◌, ◌↔◌, List, [], ◌∷◌, ◌++◌, true, length}
use Rattle.std.proofs.Math.Option.{Option, some, none}
use Rattle.basics.specs.Lists.{Some, among}
use Rattle.faults.specs.Answer.{got, refused}
use Rattle.faults.specs.Limits.{last_term}
use Rattle.fields.specs.Reading.{found}
use Rattle.fields.specs.Fields.{field_place, natural}
use Rattle.aspif.specs.Statements.{Term, num, str, comp, Element, elem, Guard, unguarded, guard, Theory, defines, collects, states, Line, theory_in}
use Rattle.aspif.specs.Grammar.{statements}
use Rattle.terms.specs.Says.{term, element_at}
use Rattle.terms.specs.Terms.{first_unsound, Stated}
use Rattle.terms.specs.Reasons.{functor_use, differences}

-- ---- in place of 6

-- the four
abbrev pub reasons : List ℕ
reasons = 61 ∷ 62 ∷ 63 ∷ 64 ∷ []

-- one of the four is given for the line at p: at its first byte, or 62 at a field counted from there
pub record GivenAt (text : List ℕ) (ls : List Line) (p : ℕ) : Type 0 where
  pub number : ℕ
  pub field : ℕ
  pub one : among number reasons ≡ true
  pub first_byte : (number ≡ 62 → ⊥) → field ≡ 0
  pub is : differences text ls ≡ refused number (field_place text field p)

-- no line is unsound exactly if the differences are got; else one of the four is given for the first that is
pub record InPlaceOfSix (text : List ℕ) (ls : List Line) : Type 0 where
  pub sound : (first_unsound ls ≡ none) ↔ ((ds : List Stated) × (differences text ls ≡ got ds))
  pub unsound : (p : ℕ) → first_unsound ls ≡ some p → GivenAt text ls p

-- ---- 62 points at a number that is not defined

-- a number that a statement uses, and the field in which it stands
pub record Usage : Type 0 where
  pub field : ℕ
  pub number : ℕ

-- numbers in the fields from k on
abbrev pub used_from : (k : ℕ) → List ℕ → List Usage
used_from k [] = []
used_from k (u ∷ us) = record { field = k; number = u } ∷ used_from (k + 1) us

-- the terms that a statement uses
abbrev pub terms_in : Term → List Usage
terms_in (num k) = []
terms_in (str s) = []
terms_in (comp t us) = used_from 3 (functor_use t) ++ used_from 5 us

abbrev pub terms_of : Element → List Usage
terms_of (elem us ls) = used_from 4 us

abbrev pub operands : Guard → List ℕ
operands unguarded = []
operands (guard g u) = g ∷ u ∷ []

abbrev pub terms_used : Option Theory → List Usage
terms_used (some (defines u t)) = terms_in t
terms_used (some (collects v e)) = terms_of e
terms_used (some (states a p vs g)) = used_from 3 (p ∷ []) ++ used_from (5 + length vs) (operands g)
terms_used none = []

-- and the elements
abbrev pub elements_used : Option Theory → List Usage
elements_used (some (defines u t)) = []
elements_used (some (collects v e)) = []
elements_used (some (states a p vs g)) = used_from 5 vs
elements_used none = []

-- among these, the number is used in the field
abbrev pub UsedIn : List Usage → (field number : ℕ) → Type 0
UsedIn xs f n = Some (λ (x : Usage). x ≡ record { field = f; number = n }) xs

-- q is a field of the first unsound line in which a number is used; that number is read at q, and no line before defines it.
-- Terms and elements are both numbered to 1,023
pub record UsedAt (text : List ℕ) (ls : List Line) (q : ℕ) : Type 0 where
  pub before : List Line
  pub line : Line
  pub behind : List Line
  pub among-lines : ls ≡ before ++ (line ∷ behind)
  pub first : first_unsound ls ≡ some line.place
  pub field : ℕ
  pub place : q ≡ field_place text field line.place
  pub number : ℕ
  pub after : ℕ
  pub read : natural 5 last_term text q ≡ found number after
  pub undefined :
      (UsedIn (terms_used (theory_in line.says)) field number × (term before number ≡ none))
      ⊎ (UsedIn (elements_used (theory_in line.says)) field number × (element_at before number ≡ none))

-- of every text that reads
abbrev pub PointsAtUse : Type 0
PointsAtUse = (text : List ℕ) (ls : List Line) (q : ℕ) → statements text ≡ got ls → differences text ls ≡ refused 62 q → UsedAt text ls q
