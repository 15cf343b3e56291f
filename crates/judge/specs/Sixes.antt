-- Believed: whatever document 01 gave 6 gets exactly one of 61 to 64, and nothing else does, as one statement about what `Judged` allows. Assumes nothing.
use Rattle.std.specs.Prelude.{ℕ, ◌≤◌, ◌≡◌, true, List, length}
use Rattle.std.proofs.Math.Option.{some}
use Rattle.basics.specs.Lists.{among}
use Rattle.faults.specs.Limits.{longest_text}
use Rattle.faults.specs.Answer.{got}
use Rattle.fields.specs.Fields.{field_place}
use Rattle.aspif.specs.Statements.{Line}
use Rattle.aspif.specs.Grammar.{statements}
use Rattle.terms.specs.Terms.{first_unsound}
use Rattle.terms.specs.Six.{reasons}
use Rattle.judge.specs.Plan.{Asked, Rooms, lent}
use Rattle.judge.specs.Judged.{Result, refusing, Judged}

-- document 01 gave 6 at p: none of 1 to 5 refuses what was asked, and the first unsound line stands at p
pub record GotSix (a : Asked) (b : Rooms) (p : ℕ) : Type 0 where
  pub roomy : lent b ≡ got tt
  pub short : length a.text ≤ longest_text
  pub lines : List Line
  pub read : statements a.text ≡ got lines
  pub unsound : first_unsound lines ≡ some p

-- one of the four is given, at p; or 62 at a field counted from there
pub record GetsOne (a : Asked) (b : Rooms) (p : ℕ) (r : Result) : Type 0 where
  pub number : ℕ
  pub field : ℕ
  pub one : among number reasons ≡ true
  pub first_byte : (number ≡ 62 → ⊥) → field ≡ 0
  pub is : r ≡ refusing b number (field_place a.text field p)

-- of every result that is allowed
pub record InPlace (a : Asked) (b : Rooms) (r : Result) : Type 0 where
  pub whatever : (p : ℕ) → GotSix a b p → GetsOne a b p r
  pub nothing_else : (k q : ℕ) → among k reasons ≡ true → r ≡ refusing b k q → (p : ℕ) × GotSix a b p

abbrev pub Sixes : Type 0
Sixes = (a : Asked) (b : Rooms) (r : Result) → Judged a b r → InPlace a b r
