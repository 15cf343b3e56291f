-- Inner: the tape. The words of each line, and the line that words say. A line's words are its place, the count of the words
-- behind these two, and what it says, in the order of its fields behind its kind:
--   1 choice n heads.. body..           4 n bytes.. m literals..       10 n bytes..
--   90 u w                              91 u n bytes..                 92 u t n terms..
--   94 v n terms.. m literals..         95 a p n elements..            96 a p n elements.. g u
-- A body is 0 0 m literals.. or 1 bound m premises.. A literal's word is 2 a, or 2 a + 1 if negated; w and t are 2 v, or 2 v + 1 for - v;
-- a premise's word is its literal's, and a unit for each 1 of its weight. Assumes nothing.
use Rattle.std.specs.Prelude.{ℕ, zero, suc, ◌+◌, ◌*◌, List, [], ◌∷◌, ◌++◌, map, eqb, ℤ, pos, negsuc, get_or}
use Rattle.basics.specs.Bools.{pick}
use Rattle.fields.specs.Fields.{weight_unit}
use Rattle.fields.specs.inner.Tape.{listed}
use Rattle.aspif.specs.Statements.{Literal, positive, negated, Head, empty, single, choice, Premise, Body, normal, weights, num, str, comp, elem, unguarded, guard, Theory, defines, collects, states, Statement, rule, output, theory, comment, Line}
use Rattle.aspif.specs.Grammar.{Front, literal_of, integer_of, premise_of, head_of}

-- ---- the kinds

abbrev pub rule_kind : ℕ
rule_kind = 1

abbrev pub output_kind : ℕ
output_kind = 4

abbrev pub comment_kind : ℕ
comment_kind = 10

abbrev pub number_kind : ℕ
number_kind = 90

abbrev pub string_kind : ℕ
string_kind = 91

abbrev pub compound_kind : ℕ
compound_kind = 92

abbrev pub element_kind : ℕ
element_kind = 94

abbrev pub atom_kind : ℕ
atom_kind = 95

abbrev pub guarded_kind : ℕ
guarded_kind = 96

-- the kinds of bodies
abbrev pub normal_kind : ℕ
normal_kind = 0

abbrev pub weight_kind : ℕ
weight_kind = 1

-- ---- the words of a line

abbrev pub literal_word : Literal → ℕ
literal_word (positive a) = 2 * a
literal_word (negated a) = 2 * a + 1

abbrev pub integer_word : ℤ → ℕ
integer_word (pos n) = 2 * n
integer_word (negsuc n) = 2 * suc n + 1

abbrev pub literal_words : List Literal → List ℕ
literal_words ls = listed (map literal_word ls)

abbrev pub premise_word : Premise → ℕ
premise_word p = weight_unit * p.weight + literal_word p.literal

abbrev pub head_words : Head → List ℕ
head_words empty = 0 ∷ listed []
head_words (single a) = 0 ∷ listed (a ∷ [])
head_words (choice hs) = 1 ∷ listed hs

abbrev pub body_words : Body → List ℕ
body_words (normal ls) = normal_kind ∷ 0 ∷ literal_words ls
body_words (weights k ps) = weight_kind ∷ k ∷ listed (map premise_word ps)

abbrev pub front_words : (kind : ℕ) → Front → List ℕ
front_words kind f = kind ∷ f.atom ∷ f.name ∷ listed f.elements

abbrev pub theory_words : Theory → List ℕ
theory_words (defines u (num w)) = number_kind ∷ u ∷ integer_word w ∷ []
theory_words (defines u (str bs)) = string_kind ∷ u ∷ listed bs
theory_words (defines u (comp t us)) = compound_kind ∷ u ∷ integer_word t ∷ listed us
theory_words (collects v (elem us c)) = element_kind ∷ v ∷ listed us ++ literal_words c
theory_words (states a p vs unguarded) = atom_kind ∷ a ∷ p ∷ listed vs
theory_words (states a p vs (guard g u)) = guarded_kind ∷ a ∷ p ∷ listed vs ++ (g ∷ u ∷ [])

abbrev pub words_of : Statement → List ℕ
words_of (rule h b) = rule_kind ∷ head_words h ++ body_words b
words_of (output bs c) = output_kind ∷ listed bs ++ literal_words c
words_of (theory x) = theory_words x
words_of (comment bs) = comment_kind ∷ listed bs

abbrev pub words : Line → List ℕ
words x = x.place ∷ listed (words_of x.says)

abbrev pub all_words : List Line → List ℕ
all_words [] = []
all_words (x ∷ xs) = words x ++ all_words xs

-- ---- the line that stands at a place of a tape

-- the word at a place, and 0 past the end
unfoldable pub word : List ℕ → ℕ → ℕ
word t p = get_or t p 0

-- n words from p on
unfoldable pub words_from : List ℕ → (p n : ℕ) → List ℕ
words_from t p zero = []
words_from t p (suc n) = word t p ∷ words_from t (p + 1) n

-- the list whose count stands at p, and the place behind it
abbrev pub list_at : List ℕ → ℕ → List ℕ
list_at t p = words_from t (p + 1) (word t p)

abbrev pub behind : List ℕ → ℕ → ℕ
behind t p = p + 1 + word t p

abbrev pub literals_at : List ℕ → ℕ → List Literal
literals_at t p = map literal_of (list_at t p)

abbrev pub premises_at : List ℕ → ℕ → List Premise
premises_at t p = map premise_of (list_at t p)

-- the body whose kind stands at p
abbrev pub body_at : List ℕ → ℕ → Body
body_at t p = pick (eqb (word t p) normal_kind) (normal (literals_at t (p + 2))) (weights (word t (p + 1)) (premises_at t (p + 2)))

-- what the words from q on say, the first of which is their kind
unfoldable pub says_at : List ℕ → ℕ → Statement
says_at t q =
    pick (eqb (word t q) rule_kind) (rule (head_of (word t (q + 1)) (list_at t (q + 2))) (body_at t (behind t (q + 2))))
    (pick (eqb (word t q) output_kind) (output (list_at t (q + 1)) (literals_at t (behind t (q + 1))))
    (pick (eqb (word t q) number_kind) (theory (defines (word t (q + 1)) (num (integer_of (word t (q + 2))))))
    (pick (eqb (word t q) string_kind) (theory (defines (word t (q + 1)) (str (list_at t (q + 2)))))
    (pick (eqb (word t q) compound_kind) (theory (defines (word t (q + 1)) (comp (integer_of (word t (q + 2))) (list_at t (q + 3)))))
    (pick (eqb (word t q) element_kind) (theory (collects (word t (q + 1)) (elem (list_at t (q + 2)) (literals_at t (behind t (q + 2))))))
    (pick (eqb (word t q) atom_kind) (theory (states (word t (q + 1)) (word t (q + 2)) (list_at t (q + 3)) unguarded))
    (pick (eqb (word t q) guarded_kind)
    (theory (states (word t (q + 1)) (word t (q + 2)) (list_at t (q + 3)) (guard (word t (behind t (q + 3))) (word t (behind t (q + 3) + 1)))))
    (comment (list_at t (q + 1))))))))))

-- the place of a line is its first word, the count behind it the second; its kind is the third
abbrev pub line_at : List ℕ → ℕ → Line
line_at t p = record { place = word t p; says = says_at t (p + 2) }

-- the place after the line at p
abbrev pub after : List ℕ → ℕ → ℕ
after t p = behind t (p + 1)

-- n lines from p on
unfoldable pub lines_from : List ℕ → (p n : ℕ) → List Line
lines_from t p zero = []
lines_from t p (suc n) = line_at t p ∷ lines_from t (after t p) n

-- the place of line i of a tape, and those of n lines from p on
abbrev pub place_of : List ℕ → (i : ℕ) → ℕ
place_of t zero = 0
place_of t (suc i) = after t (place_of t i)

unfoldable pub places_from : List ℕ → (p n : ℕ) → List ℕ
places_from t p zero = []
places_from t p (suc n) = p ∷ places_from t (after t p) n

-- the n lines of a tape
abbrev pub lines_of : List ℕ → (n : ℕ) → List Line
lines_of t n = lines_from t 0 n
