-- What the texts and candidates of the starred cases say: lines, differences and atoms, each computed once. Assumes nothing.
use Prim.Native.Nat.{ℕ, ◌+◌, ◌≤◌}
use mathlib.Core.Path.{◌≡◌, refl}
use mathlib.Core.List.{List, [], ◌∷◌}
use lib.Dec.{lit≤}
use lib.IntN.{pos, neg_ℤ}
use lib.ListN.{length}
use Rattle.faults.specs.Limits.{longest_text}
use Rattle.faults.specs.Answer.{got}
use Rattle.fields.specs.Fields.{byte_at, byte, bytes, line_end, line_end_of, text_end, until, field, all_digits, is_natural, value, natural, next_natural, negative, integer, next_integer, literal, from_one, atom, next_atom, next_term, next_element, char, item, items, counted, natural_then, string}
use Rattle.aspif.specs.Statements.{positive, negated, single, choice, normal, num, str, comp, elem, guard, defines, collects, states, Statement, rule, theory, Line}
use Rattle.aspif.specs.Grammar.{line_of, heads, normal_body, literals, body, rule_line, numeric_line, string_line, compound_line, element_line, front, guarded_line, theory_of, theory_part, statement_of, last_line, lines, no_tag, first_line, plan, statements}
use Rattle.aspif.specs.Candidate.{atom_above, ending, ascending, candidate_line, candidate}
use Rattle.diffs.specs.Diff.{Diff}
use Rattle.terms.specs.Says.{term, element_at, diff_word, minus, at_most}
use Rattle.terms.specs.Terms.{Stated, taken, all_defined, same_bytes, is_string, is_minus, opposite, bound_of, pair_of, pair_in, difference_of}
use Rattle.terms.specs.Reasons.{unknown_from, reason_of, differences_from, differences}
use Rattle.terms.specs.inner.Tables.{States}
use Rattle.judge.specs.Texts.{bytes_of, plan_p, plan_q, plan_tight, plan_external, plan_loop, plan_odd}

-- ---- candidates

-- the atoms of the candidates
pub record Candidates : Type 0 where
  pub none : candidate (bytes_of "\n") ≡ got []
  pub one : candidate (bytes_of "1\n") ≡ got (1 ∷ [])
  pub three : candidate (bytes_of "3\n") ≡ got (3 ∷ [])
  pub one-two : candidate (bytes_of "1 2\n") ≡ got (1 ∷ 2 ∷ [])
  pub one_three : candidate (bytes_of "1 3\n") ≡ got (1 ∷ 3 ∷ [])
  pub two_three : candidate (bytes_of "2 3\n") ≡ got (2 ∷ 3 ∷ [])
  pub one_two_three : candidate (bytes_of "1 2 3\n") ≡ got (1 ∷ 2 ∷ 3 ∷ [])

-- each is computed
pub candidates : Candidates
unfolding candidate candidate_line ascending ending line_end text_end atom_above natural field until is_natural all_digits value byte_at
candidates = record { none = refl; one = refl; three = refl; one-two = refl; one_three = refl; two_three = refl; one_two_three = refl }

-- ---- texts

-- a text that is short enough, its lines, and the differences that these state
pub record SaysLines (text : List ℕ) (ls : List Line) (ds : List Stated) : Type 0 where
  pub short : length text ≤ longest_text
  pub lines : statements text ≡ got ls
  pub stated : States ls ds

abbrev line : (place : ℕ) → Statement → Line
line p x = record { place = p; says = x }

-- the time rules of P from the place s on, with the numbers 5 and 8; the line behind each number stands at a and c
abbrev pub time_rules : (five eight s a c : ℕ) → List Line
time_rules five eight s a c =
    line s (theory (defines 0 (str diff_word)))
    ∷ line (s + 13) (theory (defines 1 (str minus)))
    ∷ line (s + 23) (theory (defines 2 (str at_most)))
    ∷ line (s + 34) (theory (defines 3 (str (bytes_of "send"))))
    ∷ line (s + 47) (theory (defines 4 (str (bytes_of "recv"))))
    ∷ line (s + 60) (theory (defines 5 (num (pos five))))
    ∷ line a (theory (defines 6 (comp (pos 1) (4 ∷ 3 ∷ []))))
    ∷ line (a + 14) (theory (collects 0 (elem (6 ∷ []) [])))
    ∷ line (a + 26) (theory (states 2 0 (0 ∷ []) (guard 2 5)))
    ∷ line (a + 42) (theory (defines 8 (num (pos eight))))
    ∷ line c (theory (defines 9 (comp (pos 1) (8 ∷ []))))
    ∷ line (c + 12) (theory (defines 7 (comp (pos 1) (3 ∷ 4 ∷ []))))
    ∷ line (c + 26) (theory (collects 1 (elem (7 ∷ []) [])))
    ∷ line (c + 38) (theory (states 3 0 (1 ∷ []) (guard 2 9)))
    ∷ []

-- the lines of P and its neighbours
abbrev pub lines_p : (five eight a c : ℕ) → List Line
lines_p five eight a c =
    line 10 (rule (choice (1 ∷ [])) (normal []))
    ∷ line 22 (rule (single 2) (normal (positive 1 ∷ [])))
    ∷ line 36 (rule (single 3) (normal []))
    ∷ time_rules five eight 48 a c

-- .. without the third line
abbrev pub lines_external : List Line
lines_external = line 10 (rule (choice (1 ∷ [])) (normal [])) ∷ line 22 (rule (single 3) (normal [])) ∷ time_rules 40 5 34 103 153

-- rules 1 from 2 and 2 from 1
abbrev pub lines_loop : List Line
lines_loop = line 10 (rule (single 1) (normal (positive 2 ∷ []))) ∷ line 24 (rule (single 2) (normal (positive 1 ∷ []))) ∷ []

-- the rule 1 from not 1
abbrev pub lines_odd : List Line
lines_odd = line 10 (rule (single 1) (normal (negated 1 ∷ []))) ∷ []

-- recv - send ≤ five
abbrev pub two : (five : ℕ) → Diff
two five = record { x = 4; y = 3; k = pos five }

-- send - recv ≤ - eight
abbrev pub three : (eight : ℕ) → Diff
three eight = record { x = 3; y = 4; k = neg_ℤ (pos eight) }

-- which the atoms 2 and 3 say
abbrev pub stated : (five eight : ℕ) → List Stated
stated five eight = record { atom = 2; says = two five } ∷ record { atom = 3; says = three eight } ∷ []

differences_P : (five eight a c : ℕ) → States (lines_p five eight a c) (stated five eight)
unfolding differences differences_from unknown_from reason_of taken term element_at all_defined same_bytes is_string is_minus opposite bound_of pair_of pair_in difference_of
differences_P five eight a c text = refl

differences-external : States lines_external (stated 40 5)
unfolding differences differences_from unknown_from reason_of taken term element_at all_defined same_bytes is_string is_minus opposite bound_of pair_of pair_in difference_of
differences-external text = refl

differences_loop : States lines_loop []
unfolding differences differences_from unknown_from reason_of
differences_loop text = refl

differences-odd : States lines_odd []
unfolding differences differences_from unknown_from reason_of
differences-odd text = refl

-- what each of the texts says
pub record Texts : Type 0 where
  pub p : SaysLines plan_p (lines_p 40 5 117 167) (stated 40 5)
  pub q : SaysLines plan_q (lines_p 40 45 117 168) (stated 40 45)
  pub tight : SaysLines plan_tight (lines_p 5 5 116 166) (stated 5 5)
  pub external : SaysLines plan_external lines_external (stated 40 5)
  pub loop : SaysLines plan_loop lines_loop []
  pub odd : SaysLines plan_odd lines_odd []

-- each is computed from its bytes
pub texts : Texts
unfolding plan_p plan_q plan_tight plan_external plan_loop plan_odd byte_at byte bytes line_end line_end_of text_end until field all_digits is_natural value natural next_natural negative integer next_integer literal from_one atom next_atom next_term next_element char item items counted natural_then string line_of heads normal_body literals body rule_line numeric_line string_line compound_line element_line front guarded_line theory_of theory_part statement_of last_line lines no_tag first_line plan statements
texts = record {
  p = record { short = lit≤ tt; lines = refl; stated = differences_P 40 5 117 167 };
  q = record { short = lit≤ tt; lines = refl; stated = differences_P 40 45 117 168 };
  tight = record { short = lit≤ tt; lines = refl; stated = differences_P 5 5 116 166 };
  external = record { short = lit≤ tt; lines = refl; stated = differences-external };
  loop = record { short = lit≤ tt; lines = refl; stated = differences_loop };
  odd = record { short = lit≤ tt; lines = refl; stated = differences-odd };
}
