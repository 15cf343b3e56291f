-- What words say has these words: a literal's, a premise's, an integer's, a head's. Assumes nothing.
use Prim.Native.Nat.{ℕ, zero, suc, ◌+◌, ◌*◌, ◌/◌, ◌%◌, ◌≤◌}
use mathlib.Core.Path.{◌≡◌, refl, sym}
use mathlib.Core.List.{List, [], ◌∷◌, map}
use mathlib.Core.Bool.{Bool, true, false}
use native.Mathlib.Omega.{arith}
use borrow.Author.Tests.{eqb-true, eqb-false}
use lib.Dec.{eqb, lit<}
use lib.IntN.{pos, neg_ℤ}
use lib.ListN.{length}
use Rattle.basics.specs.Bools.{pick}
use Rattle.basics.proofs.Lists.{all_any, map_back}
use Rattle.fields.specs.Reading.{found}
use Rattle.fields.specs.Fields.{next_integer, weight_unit}
use Rattle.fields.specs.inner.Tape.{listed}
use Rattle.fields.proofs.Readers.{by_carried, reads-ends, next_integer-reads, counted-reads}
use Rattle.aspif.specs.Statements.{positive, negated, Head, empty, single, choice, head_atoms}
use Rattle.aspif.specs.Grammar.{literal_of, integer_of, premise_of, head_of, heads}
use Rattle.aspif.specs.inner.Words.{literal_word, integer_word, premise_word, head_words}
use Rattle.fields.specs.declared.Item.TheVariants as of

-- ---- the halves of a word

module _ (w : ℕ) where
  word_even : w % 2 ≡ 0 → 2 * (w / 2) ≡ w
  word_even h = omega arith

  word-odd : (w % 2 ≡ 0 → ⊥) → 2 * (w / 2) + 1 ≡ w
  word-odd h = omega (arith, h)

-- ---- a literal

-- a word is the word of the literal that it says
pub literal_forth : (w : ℕ) → literal_word (literal_of w) ≡ w
literal_forth w = go (eqb (w % 2) 0) refl
  where
    go : (t : Bool) → eqb (w % 2) 0 ≡ t → literal_word (pick t (positive (w / 2)) (negated (w / 2))) ≡ w
    go true q = word_even w (eqb-true (w % 2) 0 q)
    go false q = word-odd w (eqb-false (w % 2) 0 q)

-- words are the words of the literals that they say
pub literals_forth : (ws : List ℕ) → map literal_word (map literal_of ws) ≡ ws
literals_forth ws = map_back literal_of literal_word (λ w u. literal_forth w) ws (all_any ws)

-- a word is the word of the premise that it says
premise_forth : (w : ℕ) → premise_word (premise_of w) ≡ w
premise_forth w = rw (literal_forth (w % weight_unit)) (omega arith)

pub premises_forth : (ws : List ℕ) → map premise_word (map premise_of ws) ≡ ws
premises_forth ws = map_back premise_of premise_word (λ w u. premise_forth w) ws (all_any ws)

-- ---- an integer

-- a word other than 1, minus 0, is the word of the integer that it says
integer-word : (w : ℕ) → (w ≡ 1 → ⊥) → integer_word (integer_of w) ≡ w
integer-word w o = go (eqb (w % 2) 0) refl
  where
    minus : (v : ℕ) → 2 * v + 1 ≡ w → integer_word (neg_ℤ (pos v)) ≡ w
    minus zero e = absurd (o (sym e))
    minus (suc v) e = e

    go : (t : Bool) → eqb (w % 2) 0 ≡ t → integer_word (pick t (pos (w / 2)) (neg_ℤ (pos (w / 2)))) ≡ w
    go true q = word_even w (eqb-true (w % 2) 0 q)
    go false q = minus (w / 2) (word-odd w (eqb-false (w % 2) 0 q))

-- the word of an integer that was read is the word of the integer that it says
pub integer_forth : (low high : ℕ) (s : List ℕ) (at w n : ℕ) → found w n ≡ next_integer low high s at → integer_word (integer_of w) ≡ w
integer_forth low high s at w n e =
    let f = reads-ends (lit< tt) (next_integer-reads low high s at) w n e in
    integer-word w (λ z. omega (arith, z, (f.0.odd (λ o. omega (arith, z, o))).0))

-- ---- a head

-- the kind of a head
pub kind_of : Head → ℕ
kind_of empty = 0
kind_of (single a) = 0
kind_of (choice hs) = 1

pub head-words : (h : Head) → head_words h ≡ kind_of h ∷ listed (head_atoms h)
unfolding kind_of
head-words empty = refl
head-words (single a) = refl
head-words (choice hs) = refl

pub head-back : (h : Head) → head_of (kind_of h) (head_atoms h) ≡ h
unfolding kind_of
head-back empty = refl
head-back (single a) = refl
head-back (choice hs) = refl

-- the words of a head are its kind and the list of its atoms
pub head_forth : (kind : ℕ) (hs : List ℕ) → kind ≤ 1 → (kind ≡ 0 → length hs ≤ 1) → head_words (head_of kind hs) ≡ kind ∷ listed hs
head_forth zero [] h l = refl
head_forth zero (a ∷ []) h l = refl
head_forth zero (a ∷ b ∷ hs) h l = absurd (omega (arith, l refl))
head_forth (suc zero) hs h l = refl
head_forth (suc (suc k)) hs h l = absurd (omega arith)

-- a plain head that was read has at most one atom
pub heads-few : (kind : ℕ) (s : List ℕ) (at : ℕ) (hs : List ℕ) (n : ℕ) → found hs n ≡ heads kind s at → kind ≡ 0 → length hs ≤ 1
unfolding heads
heads-few zero s at hs n e z = (reads-ends (lit< tt) (counted-reads of.Atom 4 1 by_carried s at) hs n e).0.1
heads-few (suc kind) s at hs n e z = absurd (omega arith)
