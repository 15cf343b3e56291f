-- What stands on the tape says the lines that it was written from. Assumes nothing.
use Prim.Native.Nat.{ℕ, suc, ◌+◌, ◌*◌, ◌/◌, ◌%◌, ◌≤◌}
use mathlib.Core.Path.{◌≡◌, refl, sym, ap, ◌∙◌}
use mathlib.Core.List.{List, [], ◌∷◌, ◌++◌, map, append_assoc}
use mathlib.Core.Option.{Option, some, none}
use mathlib.Core.Bool.{Bool, true, false}
use native.Mathlib.Omega.{arith}
use native.Mathlib.Nat.{add-zero}
use borrow.Author.Tests.{eqb-true, eqb-false, ne_eqb}
use lib.Dec.{eqb}
use lib.IntN.{ℤ, pos, negsuc}
use lib.ListN.{length, get_or, drop, length-append}
use lib.Seq.{sets, sets-eq, length-sets, get_or-drop, drop-drop, drop-append_seam}
use Rattle.basics.specs.Bools.{pick}
use Rattle.basics.proofs.Bools.{picked}
use Rattle.basics.proofs.Lists.{all_any, map_back}
use Rattle.basics.specs.Lists.{All}
use Rattle.fields.specs.inner.Tape.{listed}
use Rattle.fields.specs.inner.Kept.{IsAtom}
use Rattle.fields.proofs.Readers.{premise_parts}
use Rattle.aspif.specs.Statements.{Literal, positive, negated, Head, head_atoms, Premise, Body, normal, weights, num, str, comp, elem, unguarded, guard, defines, collects, states, Theory, Statement, rule, output, theory, comment, Line, Rule, rule_in, theory_in}
use Rattle.aspif.specs.Grammar.{literal_of, integer_of, premise_of}
use Rattle.aspif.specs.inner.Words.{rule_kind, output_kind, comment_kind, number_kind, string_kind, compound_kind, element_kind, atom_kind, guarded_kind, normal_kind, weight_kind, literal_word, integer_word, premise_word, literal_words, body_words, words_of, words, all_words, word, words_from, list_at, behind, literals_at, body_at, says_at, after, lines_from, lines_of}
use Rattle.aspif.specs.inner.Kept.{SmallPremise, SmallBody, TheoryWith, SmallWith, Small, AllSmall, Ahead}
use Rattle.aspif.proofs.Coding.{kind_of, head-words, head-back}
use Rattle.aspif.proofs.Kept.{atom_of_lem}

-- ---- a word says what it was written for

module _ (a : ℕ) where
  even-half : 2 * a / 2 ≡ a
  even-half = omega arith

  even-rest : 2 * a % 2 ≡ 0
  even-rest = omega arith

  odd-half : (2 * a + 1) / 2 ≡ a
  odd-half = omega arith

  odd-rest : (2 * a + 1) % 2 ≡ 1
  odd-rest = omega arith

-- the word of a literal says the literal
pub literal-back : (l : Literal) → literal_of (literal_word l) ≡ l
literal-back (positive a) = rw (even-rest a, even-half a)
literal-back (negated a) = rw (odd-rest a, odd-half a)

-- the words of literals say the literals
pub literals-back : (ls : List Literal) → map literal_of (map literal_word ls) ≡ ls
literals-back ls = map_back literal_word literal_of (λ l u. literal-back l) ls (all_any ls)

-- the word of a premise within its bounds says the premise
premise-back : (p : Premise) → SmallPremise p → premise_of (premise_word p) ≡ p
premise-back p h =
    let i : IsAtom (literal_word p.literal / 2) = rw (← (atom_of_lem (literal_word p.literal)), literal-back p.literal) h.0 in
    let e = premise_parts (literal_word p.literal) p.weight i in
    rw (e.0, e.1, literal-back p.literal)

premises-back : (ps : List Premise) → All SmallPremise ps → map premise_of (map premise_word ps) ≡ ps
premises-back = map_back premise_word premise_of premise-back

-- the word of an integer says the integer
pub integer-back : (z : ℤ) → integer_of (integer_word z) ≡ z
integer-back (pos n) = rw (even-rest n, even-half n)
integer-back (negsuc n) = rw (odd-rest (suc n), odd-half (suc n))

-- ---- what stands from a place on

module _ (t : List ℕ) (p : ℕ) where
  -- the word i further
  word_in : (i : ℕ) (l : List ℕ) → drop p t ≡ l → word t (p + i) ≡ get_or l i 0
  unfolding word
  word_in i l e = sym (get_or-drop p t i 0) ∙ rw e

  word_first : (x : ℕ) (l : List ℕ) → drop p t ≡ x ∷ l → word t p ≡ x
  word_first x l e = ap (word t) (sym (add-zero p)) ∙ word_in 0 (x ∷ l) e

  drop_in : (i : ℕ) (l : List ℕ) → drop p t ≡ l → drop (p + i) t ≡ drop i l
  drop_in i l e = sym (drop-drop i p t) ∙ rw e

-- words that stand from p on, one by one
words_in : (t : List ℕ) (p : ℕ) (ws rest : List ℕ) → drop p t ≡ ws ++ rest → words_from t p (length ws) ≡ ws
unfolding words_from
words_in t p [] rest e = refl
words_in t p (x ∷ ws) rest e =
    rw (word_first t p x (ws ++ rest) e) (ap (λ l. x ∷ l) (words_in t (p + 1) ws rest (drop_in t p 1 (x ∷ ws ++ rest) e)))

-- a list behind its count stands at q, and what follows it behind
record ListOn (t : List ℕ) (q : ℕ) (us rest : List ℕ) : Type 0 where
  count : word t q ≡ length us
  says : list_at t q ≡ us
  then : drop (behind t q) t ≡ rest

list_on : (t : List ℕ) (q : ℕ) (us rest : List ℕ) → drop q t ≡ length us ∷ us ++ rest → ListOn t q us rest
list_on t q us rest e =
    let n : word t q ≡ length us = word_first t q (length us) (us ++ rest) e in
    let d : drop (q + 1) t ≡ us ++ rest = drop_in t q 1 (length us ∷ us ++ rest) e in
    record { count = n; says = rw n (words_in t (q + 1) us rest d); then = rw n (drop_in t (q + 1) (length us) (us ++ rest) d ∙ drop-append_seam us rest) }

-- ---- what the words of a body say

body_back : (t : List ℕ) (p : ℕ) (rest : List ℕ) (b : Body) → SmallBody b → drop p t ≡ body_words b ++ rest → body_at t p ≡ b
body_back t p rest (normal ls) s e =
    let all : List ℕ = normal_kind ∷ 0 ∷ literal_words ls ++ rest in
    let k : word t p ≡ normal_kind = word_first t p normal_kind _ e in
    let f = list_on t (p + 2) (map literal_word ls) rest (drop_in t p 2 all e) in
    rw (k, f.says, literals-back ls)
body_back t p rest (weights k ps) s e =
    let all : List ℕ = weight_kind ∷ k ∷ listed (map premise_word ps) ++ rest in
    let c : word t p ≡ weight_kind = word_first t p weight_kind _ e in
    let d : word t (p + 1) ≡ k = word_in t p 1 all e in
    let f = list_on t (p + 2) (map premise_word ps) rest (drop_in t p 2 all e) in
    rw (c, d, f.says, premises-back ps s.1.0)

-- ---- what the words of a statement say

module _ (t : List ℕ) (q : ℕ) (rest : List ℕ) where
  -- its words stand from q on
  abbrev At : Statement → Type 0
  At x = drop q t ≡ words_of x ++ rest

  says-rule : (h : Head) (b : Body) → SmallBody b → At (rule h b) → says_at t q ≡ rule h b
  unfolding says_at
  says-rule h b s e =
      let tail : List ℕ = body_words b ++ rest in
      let all : List ℕ = rule_kind ∷ kind_of h ∷ length (head_atoms h) ∷ head_atoms h ++ tail in
      let e'' : drop q t ≡ rule_kind ∷ kind_of h ∷ listed (head_atoms h) ++ body_words b ++ rest = e ∙ rw (head-words h) in
      let e' : drop q t ≡ all = e'' ∙ simp append_assoc in
      let k : word t q ≡ rule_kind = word_first t q rule_kind _ e' in
      let c : word t (q + 1) ≡ kind_of h = word_in t q 1 all e' in
      let f = list_on t (q + 2) (head_atoms h) tail (drop_in t q 2 all e') in
      rw (k, c, f.says, head-back h, body_back t (behind t (q + 2)) rest b s f.then)

  says-output : (bs : List ℕ) (ls : List Literal) → At (output bs ls) → says_at t q ≡ output bs ls
  unfolding says_at
  says-output bs ls e =
      let tail : List ℕ = literal_words ls ++ rest in
      let all : List ℕ = output_kind ∷ length bs ∷ bs ++ tail in
      let e' : drop q t ≡ all = e ∙ simp append_assoc in
      let k : word t q ≡ output_kind = word_first t q output_kind _ e' in
      let f = list_on t (q + 1) bs tail (drop_in t q 1 all e') in
      let g = list_on t (behind t (q + 1)) (map literal_word ls) rest f.then in
      rw (k, f.says, g.says, literals-back ls)

  says-theory : (x : Theory) → At (theory x) → says_at t q ≡ theory x
  unfolding says_at
  says-theory (defines u (num w)) e =
      let all : List ℕ = number_kind ∷ u ∷ integer_word w ∷ rest in
      let k : word t q ≡ number_kind = word_first t q number_kind _ e in
      let c : word t (q + 1) ≡ u = word_in t q 1 all e in
      let d : word t (q + 2) ≡ integer_word w = word_in t q 2 all e in
      rw (k, c, d, integer-back w)
  says-theory (defines u (str bs)) e =
      let all : List ℕ = string_kind ∷ u ∷ length bs ∷ bs ++ rest in
      let k : word t q ≡ string_kind = word_first t q string_kind _ e in
      let c : word t (q + 1) ≡ u = word_in t q 1 all e in
      let f = list_on t (q + 2) bs rest (drop_in t q 2 all e) in
      rw (k, c, f.says)
  says-theory (defines u (comp w us)) e =
      let all : List ℕ = compound_kind ∷ u ∷ integer_word w ∷ length us ∷ us ++ rest in
      let k : word t q ≡ compound_kind = word_first t q compound_kind _ e in
      let c : word t (q + 1) ≡ u = word_in t q 1 all e in
      let d : word t (q + 2) ≡ integer_word w = word_in t q 2 all e in
      let f = list_on t (q + 3) us rest (drop_in t q 3 all e) in
      rw (k, c, d, f.says, integer-back w)
  says-theory (collects v (elem us ls)) e =
      let tail : List ℕ = literal_words ls ++ rest in
      let all : List ℕ = element_kind ∷ v ∷ length us ∷ us ++ tail in
      let e' : drop q t ≡ all = e ∙ simp append_assoc in
      let k : word t q ≡ element_kind = word_first t q element_kind _ e' in
      let c : word t (q + 1) ≡ v = word_in t q 1 all e' in
      let f = list_on t (q + 2) us tail (drop_in t q 2 all e') in
      let g = list_on t (behind t (q + 2)) (map literal_word ls) rest f.then in
      rw (k, c, f.says, g.says, literals-back ls)
  says-theory (states a p vs unguarded) e =
      let all : List ℕ = atom_kind ∷ a ∷ p ∷ length vs ∷ vs ++ rest in
      let k : word t q ≡ atom_kind = word_first t q atom_kind _ e in
      let c : word t (q + 1) ≡ a = word_in t q 1 all e in
      let d : word t (q + 2) ≡ p = word_in t q 2 all e in
      let f = list_on t (q + 3) vs rest (drop_in t q 3 all e) in
      rw (k, c, d, f.says)
  says-theory (states a p vs (guard g u)) e =
      let tail : List ℕ = g ∷ u ∷ rest in
      let all : List ℕ = guarded_kind ∷ a ∷ p ∷ length vs ∷ vs ++ tail in
      let e' : drop q t ≡ all = e ∙ simp append_assoc in
      let k : word t q ≡ guarded_kind = word_first t q guarded_kind _ e' in
      let c : word t (q + 1) ≡ a = word_in t q 1 all e' in
      let d : word t (q + 2) ≡ p = word_in t q 2 all e' in
      let f = list_on t (q + 3) vs tail (drop_in t q 3 all e') in
      let x : word t (behind t (q + 3)) ≡ g = word_first t (behind t (q + 3)) g (u ∷ rest) f.then in
      let y : word t (behind t (q + 3) + 1) ≡ u = word_in t (behind t (q + 3)) 1 tail f.then in
      rw (k, c, d, f.says, x, y)

  says-comment : (bs : List ℕ) → At (comment bs) → says_at t q ≡ comment bs
  unfolding says_at
  says-comment bs e =
      let all : List ℕ = comment_kind ∷ length bs ∷ bs ++ rest in
      let k : word t q ≡ comment_kind = word_first t q comment_kind _ e in
      let f = list_on t (q + 1) bs rest (drop_in t q 1 all e) in
      rw (k, f.says)

  says_back : (x : Statement) → Small x → At x → says_at t q ≡ x
  says_back (rule h b) s = says-rule h b s.1
  says_back (output bs ls) s = says-output bs ls
  says_back (theory x) s = says-theory x
  says_back (comment bs) s = says-comment bs

-- ---- lines

-- the line x stands at p, and what follows it behind
record Here (t : List ℕ) (p : ℕ) (x : Line) (rest : List ℕ) : Type 0 where
  place : word t p ≡ x.place
  says : says_at t (p + 2) ≡ x.says
  ends : after t p ≡ p + length (words x)
  then : drop (after t p) t ≡ rest

here : (t : List ℕ) (p : ℕ) (x : Line) (rest : List ℕ) → Small x.says → drop p t ≡ words x ++ rest → Here t p x rest
here t p x rest s e =
    let ws : List ℕ = words_of x.says in
    let all : List ℕ = x.place ∷ length ws ∷ ws ++ rest in
    let f = list_on t (p + 1) ws rest (drop_in t p 1 all e) in
    record { place = word_first t p x.place _ e; says = says_back t (p + 2) rest x.says s (drop_in t p 2 all e); ends = rw f.count (omega arith); then = f.then }

module _ (t rest : List ℕ) where
  -- the words of lines that stand from p on say the lines
  lines_at : (xs : List Line) (p : ℕ) → AllSmall xs → drop p t ≡ all_words xs ++ rest → lines_from t p (length xs) ≡ xs
  unfolding lines_from
  lines_at [] p s e = refl
  lines_at (x ∷ xs) p s e =
      let h = here t p x (all_words xs ++ rest) s.0 (e ∙ append_assoc (words x) (all_words xs) rest) in
      rw (h.place, h.says, lines_at xs (after t p) s.1 h.then)

  -- lines whose words stand from p on, within the tape, are ahead of it
  ahead_at : (xs : List Line) (p : ℕ) → AllSmall xs → drop p t ≡ all_words xs ++ rest → p + length (all_words xs) ≤ length t → Ahead t p (length xs)
  unfolding Ahead
  ahead_at [] p s e w = omega arith
  ahead_at (x ∷ xs) p s e w =
      let n = length-append (words x) (all_words xs) in
      let d = e ∙ append_assoc (words x) (all_words xs) rest in
      let h = here t p x (all_words xs ++ rest) s.0 d in (
        record { stand = rw (h.place, h.says) (record { inside = omega arith; are = words_in t p (words x) (all_words xs ++ rest) d }); small = rw h.says s.0 },
        ahead_at xs (after t p) s.1 h.then (omega (arith, h.ends)),
      )

-- the words stand at the start of the tape that they were written to
at_start : (ws t : List ℕ) → length ws ≤ length t → drop 0 (sets t 0 ws) ≡ ws ++ drop (length ws) t
at_start ws t h =
    let e : 0 + length ws ≡ length ws = omega arith in
    rw (sets-eq ws t 0 (omega arith), e)

-- lines within their bounds, written to a tape ..
module _ (xs : List Line) (t : List ℕ) (fits : length (all_words xs) ≤ length t) (small : AllSmall xs) where
  -- .. are the lines that it says
  pub lines-back : lines_of (sets t 0 (all_words xs)) (length xs) ≡ xs
  lines-back = lines_at (sets t 0 (all_words xs)) (drop (length (all_words xs)) t) xs 0 small (at_start (all_words xs) t fits)

  -- and can be walked
  pub ahead-back : Ahead (sets t 0 (all_words xs)) 0 (length xs)
  ahead-back = ahead_at (sets t 0 (all_words xs)) (drop (length (all_words xs)) t) xs 0 small (at_start (all_words xs) t fits) (omega (arith, length-sets t 0 (all_words xs)))

-- ---- a statement is the one that its view says

pub rule-is : (s : Statement) (r : Rule) → rule_in s ≡ some r → s ≡ rule r.head r.body
rule-is (rule h b) r e =
    let z : record { head = h; body = b } ≡ r = (cc) in
    ap (λ (x : Rule). rule x.head x.body) z
rule-is (output bs c) r e = let z : ◌≡◌ {A = ℕ} 0 1 = (cc) in absurd (omega arith)
rule-is (theory x) r e = let z : ◌≡◌ {A = ℕ} 0 1 = (cc) in absurd (omega arith)
rule-is (comment bs) r e = let z : ◌≡◌ {A = ℕ} 0 1 = (cc) in absurd (omega arith)

pub theory-is : (s : Statement) (x : Theory) → theory_in s ≡ some x → s ≡ theory x
theory-is (rule h b) x e = let z : ◌≡◌ {A = ℕ} 0 1 = (cc) in absurd (omega arith)
theory-is (output bs c) x e = let z : ◌≡◌ {A = ℕ} 0 1 = (cc) in absurd (omega arith)
theory-is (theory y) x e = let z : y ≡ x = (cc) in ap theory z
theory-is (comment bs) x e = let z : ◌≡◌ {A = ℕ} 0 1 = (cc) in absurd (omega arith)

-- the bounds of a theory statement, and of none
abbrev pub TheoryIf : (ℕ → Type 0) → Option Theory → Type 0
TheoryIf B (some x) = TheoryWith B x
TheoryIf B none = Unit {0}

pub theory-small : (B : ℕ → Type 0) (s : Statement) → SmallWith B s → TheoryIf B (theory_in s)
theory-small B (rule h b) k = tt
theory-small B (output bs c) k = tt
theory-small B (theory x) k = k
theory-small B (comment bs) k = tt

-- ---- what stands at a place of the tape, by its kind

-- a kind of no theory statement
abbrev pub Plain : (kind : ℕ) → Type 0
Plain k = (k ≡ number_kind → ⊥) × (k ≡ string_kind → ⊥) × (k ≡ compound_kind → ⊥) × (k ≡ element_kind → ⊥) × (k ≡ atom_kind → ⊥) × (k ≡ guarded_kind → ⊥)

-- by a test
either : (P : Option Theory → Type 0) (k n : ℕ) (x y : Statement) → (k ≡ n → P (theory_in x)) → ((k ≡ n → ⊥) → P (theory_in y)) → P (theory_in (pick (eqb k n) x y))
either P k n x y f g = go (eqb k n) refl
  where
    go : (b : Bool) → eqb k n ≡ b → P (theory_in (pick b x y))
    go true e = f (eqb-true k n e)
    go false e = g (eqb-false k n e)

module _ (t : List ℕ) (q : ℕ) where
  abbrev kind : ℕ
  kind = word t q

  -- only kind 1 is that of a rule
  pub not-rule : (kind ≡ rule_kind → ⊥) → rule_in (says_at t q) ≡ none
  unfolding says_at
  not-rule n =
      rw (ne_eqb kind rule_kind n)
      (other output_kind _ _ refl
      (other number_kind _ _ refl
      (other string_kind _ _ refl
      (other compound_kind _ _ refl
      (other element_kind _ _ refl
      (other atom_kind _ _ refl
      (other guarded_kind _ _ refl refl)))))))
    where
      other : (k : ℕ) (x y : Statement) → rule_in x ≡ none → rule_in y ≡ none → rule_in (pick (eqb kind k) x y) ≡ none
      other k = picked (λ s. rule_in s ≡ none) (eqb kind k)

  plain_as : (k : ℕ) → kind ≡ k
      → (eqb k number_kind ≡ false) × (eqb k string_kind ≡ false) × (eqb k compound_kind ≡ false) × (eqb k element_kind ≡ false) × (eqb k atom_kind ≡ false) × (eqb k guarded_kind ≡ false)
      → Plain kind
  plain_as k e n = rw e (eqb-false k _ n.0, eqb-false k _ n.1, eqb-false k _ n.2, eqb-false k _ n.3, eqb-false k _ n.4, eqb-false k _ n.5)

  -- what holds of the theory statement of each kind, and of none, holds of what stands there
  pub theory_by : (P : Option Theory → Type 0)
      → (kind ≡ number_kind → P (some (defines (word t (q + 1)) (num (integer_of (word t (q + 2)))))))
      → (kind ≡ string_kind → P (some (defines (word t (q + 1)) (str (list_at t (q + 2))))))
      → (kind ≡ compound_kind → P (some (defines (word t (q + 1)) (comp (integer_of (word t (q + 2))) (list_at t (q + 3))))))
      → (kind ≡ element_kind → P (some (collects (word t (q + 1)) (elem (list_at t (q + 2)) (literals_at t (behind t (q + 2)))))))
      → (kind ≡ atom_kind → P (some (states (word t (q + 1)) (word t (q + 2)) (list_at t (q + 3)) unguarded)))
      → (kind ≡ guarded_kind → P (some (states (word t (q + 1)) (word t (q + 2)) (list_at t (q + 3)) (guard (word t (behind t (q + 3))) (word t (behind t (q + 3) + 1))))))
      → (Plain kind → P none)
      → P (theory_in (says_at t q))
  unfolding says_at
  theory_by P n s c e a g o =
      either P kind rule_kind _ _ (λ h. o (plain_as rule_kind h (refl, refl, refl, refl, refl, refl)))
      (λ _. either P kind output_kind _ _ (λ h. o (plain_as output_kind h (refl, refl, refl, refl, refl, refl)))
      (λ _. either P kind number_kind _ _ n
      (λ hn. either P kind string_kind _ _ s
      (λ hs. either P kind compound_kind _ _ c
      (λ hc. either P kind element_kind _ _ e
      (λ he. either P kind atom_kind _ _ a
      (λ ha. either P kind guarded_kind _ _ g
      (λ hg. o (hn, hs, hc, he, ha, hg)))))))))
