-- Inner: how rules stand on the tape, and an index of them, the places of their words, by which the code reaches a rule. Assumes nothing.
use Rattle.std.specs.Prelude.{ℕ, ◌+◌, ◌≤◌, ◌<◌, ◌≡◌, List, length}
use Rattle.aspif.specs.Statements.{Rule}
use Rattle.aspif.specs.Grammar.{head_of}
use Rattle.aspif.specs.inner.Words.{word, list_at, body_at, behind, lines_of}
use Rattle.aspif.specs.inner.Kept.{SmallHead, SmallBody}
use Rattle.stable.specs.Meaning.{HasRule}

-- the rule whose kind stands at q
abbrev pub rule_at : List ℕ → ℕ → Rule
rule_at t q = record { head = head_of (word t (q + 1)) (list_at t (q + 2)); body = body_at t (behind t (q + 2)) }

-- the body whose kind stands at p can be read
pub record BodyOn (t : List ℕ) (p : ℕ) : Type 0 where
  pub inside : behind t (p + 2) ≤ length t
  pub small : SmallBody (body_at t p)

-- the rule whose kind stands at q can be read
pub record RuleOn (t : List ℕ) (q : ℕ) : Type 0 where
  pub head : SmallHead (rule_at t q).head
  pub body : BodyOn t (behind t (q + 2))

-- the words of the shortest rule: the place and the size of its line, three of its head, three of its body
abbrev pub rule_words : ℕ
rule_words = 8

-- the rules of an index can be read
pub record Readable (t index : List ℕ) : Type 0 where
  pub each : (i : ℕ) → i < length index → RuleOn t (word index i)

-- r is one of the rules of an index
pub record InIndex (t index : List ℕ) (r : Rule) : Type 0 where
  pub i : ℕ
  pub below : i < length index
  pub is : rule_at t (word index i) ≡ r

-- the rules of an index are the rules among n lines
pub record Indexed (t : List ℕ) (n : ℕ) (index : List ℕ) : Type 0 where
  pub readable : Readable t index
  pub sound : (i : ℕ) → i < length index → HasRule (lines_of t n) (rule_at t (word index i))
  pub whole : (r : Rule) → HasRule (lines_of t n) r → InIndex t index r
