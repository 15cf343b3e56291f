-- Believed: the grammar of a plan, one definition a sentence of docs/RULES.md, 'Reading the text'. It can be run.
-- A reader is given the place of the line's first byte where that is the place of a refusal. Assumes nothing.
use Rattle.std.specs.Prelude.{ℕ, zero, suc, ◌+◌, ◌/◌, ◌%◌, List, [], ◌∷◌, map, length, eqb, ℤ, pos, neg_ℤ}
use Rattle.basics.specs.Bools.{pick}
use Rattle.faults.specs.Limits.{last_term, most_count, largest_number, largest_bound}
use Rattle.faults.specs.Answer.{Answer, got, refused}
use Rattle.fields.specs.declared.Item.TheVariants as of
use Rattle.fields.specs.declared.LineEnd.{LineEnd}
use Rattle.fields.specs.Reading.{Reading, found, fault, Reader, and_then, ◌>>=◌, ◌>>◌, pure}
use Rattle.fields.specs.Fields.{space, byte_at, byte, bytes, line_end, line_end_of, text_end, natural, next_natural, next_integer, next_atom, next_term, next_element, weight_unit, counted, string, rest}
use Rattle.aspif.specs.declared.lines.Header.{Header}
use Rattle.aspif.specs.Statements.{Literal, positive, negated, Head, empty, single, choice, Premise, Body, normal, weights, num, str, comp, elem, unguarded, guard, defines, collects, states, Statement, rule, output, theory, comment, Line}

-- ---- a literal and an integer are read as one number: 2 v, and 2 v + 1 after a minus

abbrev pub literal_of : ℕ → Literal
literal_of w = pick (eqb (w % 2) 0) (positive (w / 2)) (negated (w / 2))

abbrev pub integer_of : ℕ → ℤ
integer_of w = pick (eqb (w % 2) 0) (pos (w / 2)) (neg_ℤ (pos (w / 2)))

-- a literal and its weight are read as one number

abbrev pub premise_of : ℕ → Premise
premise_of w = record { literal = literal_of (w % weight_unit); weight = w / weight_unit }

-- ---- statements

-- a plain head holds no atom or one
abbrev pub plain_head : List ℕ → Head
plain_head [] = empty
plain_head (a ∷ rest) = single a

abbrev pub head_of : (kind : ℕ) → List ℕ → Head
head_of kind hs = pick (eqb kind 0) (plain_head hs) (choice hs)

-- the atoms of a head: in a plain one, a count of 2 or more is not carried
unfoldable pub heads : (kind : ℕ) → Reader (List ℕ)
heads kind = counted of.Atom (pick (eqb kind 0) 4 5) (pick (eqb kind 0) 1 most_count)

unfoldable pub literals : Reader (List ℕ)
literals = counted of.Literal 5 most_count

-- the rest of `0`, a count, that many literals
unfoldable pub normal_body : Reader Body
normal_body = do
  ls ← literals
  pure (normal (map literal_of ls))

-- the rest of `1`, a lower bound, a count, then literal and weight in turn
unfoldable pub weight_body : Reader Body
weight_body = do
  k ← next_natural 5 largest_bound
  ps ← counted of.Premise 5 most_count
  pure (weights k (map premise_of ps))

-- a normal body is of kind 0, a weight body of kind 1
unfoldable pub body : Reader Body
body = do
  kind ← next_natural 3 1
  pick (eqb kind 0) normal_body weight_body

-- the rest of `1`, head, body
unfoldable pub rule_line : Reader Statement
rule_line = do
  kind ← next_natural 3 1
  hs ← heads kind
  b ← body
  pure (rule (head_of kind hs) b)

-- the rest of `4`, length, string, count, literals
unfoldable pub output_line : Reader Statement
output_line = do
  bs ← string
  ls ← literals
  pure (output bs (map literal_of ls))

-- the rest of `9 0 u w`
unfoldable pub numeric_line : Reader Statement
numeric_line = do
  u ← next_term
  w ← next_integer largest_number largest_number
  pure (theory (defines u (num (integer_of w))))

-- the rest of `9 1 u n s`
unfoldable pub string_line : Reader Statement
string_line = do
  u ← next_term
  bs ← string
  pure (theory (defines u (str bs)))

-- the rest of `9 2 u t n u1..un`: t is -1, -2, -3 or a term number
unfoldable pub compound_line : Reader Statement
compound_line = do
  u ← next_term
  t ← next_integer 3 last_term
  us ← counted of.Term 5 most_count
  pure (theory (defines u (comp (integer_of t) us)))

-- the rest of `9 4 v n u1..un m l1..lm`
unfoldable pub element_line : Reader Statement
element_line = do
  v ← next_element
  us ← counted of.Term 5 most_count
  ls ← literals
  pure (theory (collects v (elem us (map literal_of ls))))

-- `a p n v1..vn` of a theory atom: atom 0, a directive, is not carried
pub record Front : Type 0 where
  pub atom : ℕ
  pub name : ℕ
  pub elements : List ℕ

unfoldable pub front : Reader Front
front = do
  a ← next_atom 4
  p ← next_term
  vs ← counted of.Element 5 most_count
  pure (record { atom = a; name = p; elements = vs })

-- the rest of `9 5 a p n v1..vn`
unfoldable pub theory_line : Reader Statement
theory_line = do
  f ← front
  pure (theory (states f.atom f.name f.elements unguarded))

-- the rest of `9 6 a p n v1..vn g u`
unfoldable pub guarded_line : Reader Statement
guarded_line = do
  f ← front
  g ← next_term
  u ← next_term
  pure (theory (states f.atom f.name f.elements (guard g u)))

-- the rest of `10`, a space, and anything up to the line end
unfoldable pub comment_line : (ends : LineEnd) → Reader Statement
comment_line ends = do
  byte space
  bs ← rest ends
  pure (comment bs)

-- ---- selectors: a number that the standard doesn't list is refused by 3

-- a theory statement of the type k, which stands at the place: 0, 1, 2, 4, 5 or 6
unfoldable pub theory_of : (k place : ℕ) → Reader Statement
theory_of k place =
    pick (eqb k 0) numeric_line
    (pick (eqb k 1) string_line
    (pick (eqb k 2) compound_line
    (pick (eqb k 4) element_line
    (pick (eqb k 5) theory_line
    (pick (eqb k 6) guarded_line (λ s at. fault 3 place))))))

-- the rest of `9`, theory type, ..
unfoldable pub theory_part : Reader Statement
theory_part s at = and_then (next_natural 3 6 s at) (λ k n. theory_of k (at + 1) s n)

-- a statement of the type k: 2, 3 and 5 to 8 are not carried
unfoldable pub statement_of : (ends : LineEnd) (k place : ℕ) → Reader Statement
statement_of ends k place =
    pick (eqb k 1) rule_line
    (pick (eqb k 4) output_line
    (pick (eqb k 9) theory_part
    (pick (eqb k 10) (comment_line ends) (λ s at. fault 4 place))))

-- ---- the text

-- the rest of a line of the type k: what it says, and its end
unfoldable pub line_of : (ends : LineEnd) (k place : ℕ) → Reader Line
line_of ends k place = do
  x ← statement_of ends k place
  line_end_of ends
  pure (record { place = place; says = x })

-- the end of the last line, and nothing after it
unfoldable pub last_line : (ends : LineEnd) → Reader Unit
last_line ends = do
  line_end_of ends
  text_end

-- at most n lines behind the first, of which the line `0` is the last: all end as the first does
unfoldable pub lines : (first : Header) (n : ℕ) → Reader (List Line)
lines first zero s at = fault 3 at
lines first (suc n) s at =
    and_then (natural 3 10 s at) (λ k m.
    (pick (eqb k 0)
    (last_line first.ends >> pure [])
    (line_of first.ends k at >>= (λ x. lines first n >>= (λ xs. pure (x ∷ xs))))) s m)

-- the end of the first line: a tag, after a space, is not carried
unfoldable pub no_tag : Reader LineEnd
no_tag s at = pick (eqb (byte_at s at) space) (fault 4 at) (line_end s at)

-- `asp 1 0 0`
abbrev pub opening : List ℕ
opening = 97 ∷ 115 ∷ 112 ∷ 32 ∷ 49 ∷ 32 ∷ 48 ∷ 32 ∷ 48 ∷ []

-- the first line, and how it ends
unfoldable pub first_line : Reader Header
first_line = do
  bytes opening
  e ← no_tag
  pure (record { ends = e })

-- a text has at most as many lines as bytes
unfoldable pub plan : Reader (List Line)
plan s at = and_then (first_line s at) (λ h n. lines h (length s) s n)

abbrev pub answer : {A : Type 0} → Reading A → Answer A
answer (found x n) = got x
answer (fault k p) = refused k p

-- what a text says, or 3, 4 or 5
unfoldable pub statements : List ℕ → Answer (List Line)
statements s = answer (plan s 0)
