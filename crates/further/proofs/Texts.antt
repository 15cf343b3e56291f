-- Plans P and Q of docs/RULES.md with one further time rule, send - recv ≤ -w as atom 4: their texts, their lines and what these state. Assumes nothing.
use Prim.Native.Nat.{ℕ, ◌+◌}
use Prim.Native.String.{String}
use mathlib.Core.Path.{◌≡◌, refl}
use mathlib.Core.List.{List, [], ◌∷◌, ◌++◌}
use lib.Dec.{lit≤}
use lib.IntN.{pos}
use Rattle.faults.specs.Answer.{got}
use Rattle.fields.specs.Fields.{byte_at, byte, bytes, line_end, line_end_of, text_end, until, field, all_digits, is_natural, value, natural, next_natural, negative, integer, next_integer, literal, from_one, atom, next_atom, next_term, next_element, char, item, items, counted, natural_then, string}
use Rattle.aspif.specs.Statements.{positive, single, choice, normal, num, comp, elem, guard, defines, collects, states, Statement, rule, theory, Line}
use Rattle.aspif.specs.Grammar.{line_of, heads, normal_body, literals, body, rule_line, numeric_line, string_line, compound_line, element_line, front, guarded_line, theory_of, theory_part, statement_of, last_line, lines, no_tag, first_line, plan, statements}
use Rattle.aspif.specs.Candidate.{atom_above, ending, ascending, candidate_line, candidate}
use Rattle.terms.specs.Says.{term, element_at}
use Rattle.terms.specs.Terms.{Stated, taken, all_defined, same_bytes, is_string, is_minus, opposite, bound_of, pair_of, pair_in, difference_of}
use Rattle.terms.specs.Reasons.{unknown_from, reason_of, differences_from, differences}
use Rattle.terms.specs.inner.Tables.{States}
use Rattle.judge.specs.Texts.{bytes_of}
use Rattle.judge.proofs.Texts.{SaysLines, time_rules, three, stated}

-- ---- the texts

-- P, with term 8 as given: a fact for atom 4 behind its first rule; behind its last line the terms 10, as given, and 11, its negation, element 2 and atom 4
abbrev with_rule : (eight ten : String) → List ℕ
with_rule eight ten =
    bytes_of "asp 1 0 0\n1 1 1 1 0 0\n1 0 1 4 0 0\n1 0 1 2 0 1 1\n1 0 1 3 0 0\n9 1 0 4 diff\n9 1 1 1 -\n9 1 2 2 <=\n9 1 3 4 send\n9 1 4 4 recv\n"
    ++ bytes_of "9 0 5 40\n9 2 6 1 2 4 3\n9 4 0 1 6 0\n9 6 2 0 1 0 2 5\n"
    ++ bytes_of eight
    ++ bytes_of "9 2 9 1 1 8\n9 2 7 1 2 3 4\n9 4 1 1 7 0\n9 6 3 0 1 1 2 9\n"
    ++ bytes_of ten
    ++ bytes_of "9 2 11 1 1 10\n9 4 2 1 7 0\n9 6 4 0 1 2 2 11\n0\n"

-- P with send - recv ≤ -3
pub text_p3 : List ℕ
text_p3 = with_rule "9 0 8 5\n" "9 0 10 3\n"

-- P with send - recv ≤ -7
pub text_p7 : List ℕ
text_p7 = with_rule "9 0 8 5\n" "9 0 10 7\n"

-- P with send - recv ≤ -45
pub text_p45 : List ℕ
text_p45 = with_rule "9 0 8 5\n" "9 0 10 45\n"

-- Q with send - recv ≤ -3
pub text_q3 : List ℕ
text_q3 = with_rule "9 0 8 45\n" "9 0 10 3\n"

-- ---- their lines

abbrev line : (place : ℕ) → Statement → Line
line p x = record { place = p; says = x }

-- with the numbers 8 and 10; the line behind each stands at c and n
abbrev pub lines_with : (eight c w n : ℕ) → List Line
lines_with eight c w n =
    line 10 (rule (choice (1 ∷ [])) (normal []))
    ∷ line 22 (rule (single 4) (normal []))
    ∷ line 34 (rule (single 2) (normal (positive 1 ∷ [])))
    ∷ line 48 (rule (single 3) (normal []))
    ∷ (time_rules 40 eight 60 129 c
    ++ (line (c + 54) (theory (defines 10 (num (pos w))))
    ∷ line n (theory (defines 11 (comp (pos 1) (10 ∷ []))))
    ∷ line (n + 14) (theory (collects 2 (elem (7 ∷ []) [])))
    ∷ line (n + 26) (theory (states 4 0 (2 ∷ []) (guard 2 11)))
    ∷ []))

-- atoms 2 and 3 say what they said, and atom 4 says send - recv ≤ -w
abbrev pub stated_with : (eight w : ℕ) → List Stated
stated_with eight w = stated 40 eight ++ (record { atom = 4; says = three w } ∷ [])

differences_with : (eight c w n : ℕ) → States (lines_with eight c w n) (stated_with eight w)
unfolding differences differences_from unknown_from reason_of taken term element_at all_defined same_bytes is_string is_minus opposite bound_of pair_of pair_in difference_of
differences_with eight c w n text = refl

-- what each of the texts says
pub record Texts : Type 0 where
  pub p3 : SaysLines text_p3 (lines_with 5 179 3 242) (stated_with 5 3)
  pub p7 : SaysLines text_p7 (lines_with 5 179 7 242) (stated_with 5 7)
  pub p45 : SaysLines text_p45 (lines_with 5 179 45 243) (stated_with 5 45)
  pub q3 : SaysLines text_q3 (lines_with 45 180 3 243) (stated_with 45 3)

-- each is computed from its bytes
pub texts : Texts
unfolding text_p3 text_p7 text_p45 text_q3 byte_at byte bytes line_end line_end_of text_end until field all_digits is_natural value natural next_natural negative integer next_integer literal from_one atom next_atom next_term next_element char item items counted natural_then string line_of heads normal_body literals body rule_line numeric_line string_line compound_line element_line front guarded_line theory_of theory_part statement_of last_line lines no_tag first_line plan statements
texts = record {
  p3 = record { short = lit≤ tt; lines = refl; stated = differences_with 5 179 3 242 };
  p7 = record { short = lit≤ tt; lines = refl; stated = differences_with 5 179 7 242 };
  p45 = record { short = lit≤ tt; lines = refl; stated = differences_with 5 179 45 243 };
  q3 = record { short = lit≤ tt; lines = refl; stated = differences_with 45 180 3 243 };
}

-- the atoms of the candidates with 4
pub record Candidates : Type 0 where
  pub one_two_three_four : candidate (bytes_of "1 2 3 4\n") ≡ got (1 ∷ 2 ∷ 3 ∷ 4 ∷ [])
  pub one_three_four : candidate (bytes_of "1 3 4\n") ≡ got (1 ∷ 3 ∷ 4 ∷ [])
  pub two_three_four : candidate (bytes_of "2 3 4\n") ≡ got (2 ∷ 3 ∷ 4 ∷ [])

-- each is computed
pub candidates : Candidates
unfolding candidate candidate_line ascending ending line_end text_end atom_above natural field until is_natural all_digits value byte_at
candidates = record { one_two_three_four = refl; one_three_four = refl; two_three_four = refl }
