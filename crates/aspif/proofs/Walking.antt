-- Lines on the tape, one by one. Assumes nothing.
use Prim.Native.Nat.{ℕ, zero, suc, ◌+◌, ◌-◌, ◌≤◌, ◌<◌}
use mathlib.Core.Path.{◌≡◌, refl, sym, ap, ◌∙◌}
use mathlib.Core.List.{List, [], ◌∷◌, ◌++◌}
use mathlib.Core.Bool.{Bool, true, false}
use native.Mathlib.Omega.{arith}
use native.Mathlib.Nat.{add-zero}
use borrow.Author.Tests.{eq-eqb}
use lib.Dec.{eqb}
use lib.ListN.{length, get_or, length-append, length-map, get_or-eq_default}
use Rattle.basics.specs.Bools.{pick}
use Rattle.aspif.specs.Statements.{Head, head_atoms, normal, weights, rule}
use Rattle.aspif.specs.Grammar.{literal_of, premise_of, head_of}
use Rattle.aspif.specs.inner.Words.{rule_kind, words, words_of, normal_kind, head_words, literal_word, premise_word, body_words, word, words_from, list_at, behind, literals_at, premises_at, body_at, says_at, line_at, after, lines_from, place_of, places_from}
use Rattle.aspif.specs.inner.Kept.{AllSmall, Stand, LineOn, Ahead}
use Rattle.aspif.proofs.Coding.{kind_of, head-words}

-- a word past the end is 0
pub word_out : (t : List ℕ) (p : ℕ) → length t ≤ p → 0 ≡ word t p
unfolding word
word_out t p h = sym (get_or-eq_default t 0 h)

pub first_word : (t : List ℕ) (p k : ℕ) → k ≡ word t (p + 0) → word t p ≡ k
first_word t p k e = ap (word t) (sym (add-zero p)) ∙ sym e

-- as many words as were asked for
pub words-length : (t : List ℕ) (p n : ℕ) → length (words_from t p n) ≡ n
unfolding words_from
words-length t p zero = refl
words-length t p (suc n) = ap suc (words-length t (p + 1) n)

-- a word of those that stand from p on
word_of : (t : List ℕ) (ws : List ℕ) (p i : ℕ) → words_from t p (length ws) ≡ ws → i < length ws → word t (p + i) ≡ get_or ws i 0
unfolding words_from
word_of t [] p i e h = absurd (omega arith)
word_of t (x ∷ ws) p zero e h =
    let z : word t p ≡ x = (cc) in
    rw (add-zero p) z
word_of t (x ∷ ws) p (suc i) e h =
    let z : words_from t (p + 1) (length ws) ≡ ws = (cc) in
    let d : p + suc i ≡ p + 1 + i = omega arith in
    rw d (word_of t ws (p + 1) i z (omega arith))

-- ---- the first of n lines, and those behind it

pub ahead_starts : (t : List ℕ) (p n : ℕ) → Ahead t p n → p ≤ length t
unfolding Ahead
ahead_starts t p zero a = a
ahead_starts t p (suc n) a = omega (arith, a.0.stand.inside)

-- the size of the first of them stands on the tape
pub ahead_size : (t : List ℕ) (p n : ℕ) → 0 < n → Ahead t p n → p + 1 < length t
unfolding Ahead
ahead_size t p zero h a = absurd (omega arith)
ahead_size t p (suc n) h a = omega (arith, a.0.stand.inside)

module _ (t : List ℕ) (p n : ℕ) (h : 0 < n) where
  pub ahead-next : Ahead t p n → LineOn t p × Ahead t (after t p) (n - 1)
  unfolding Ahead
  ahead-next = go n h
    where
      go : (n : ℕ) → 0 < n → Ahead t p n → LineOn t p × Ahead t (after t p) (n - 1)
      go zero h a = absurd (omega arith)
      go (suc k) h a = let d : suc k - 1 ≡ k = omega arith in rw d a

  pub lines_next : lines_from t p n ≡ line_at t p ∷ lines_from t (after t p) (n - 1)
  unfolding lines_from
  lines_next = go n h
    where
      go : (n : ℕ) → 0 < n → lines_from t p n ≡ line_at t p ∷ lines_from t (after t p) (n - 1)
      go zero h = absurd (omega arith)
      go (suc k) h = let d : suc k - 1 ≡ k = omega arith in rw d

  pub places_next : places_from t p n ≡ p ∷ places_from t (after t p) (n - 1)
  unfolding places_from
  places_next = go n h
    where
      go : (n : ℕ) → 0 < n → places_from t p n ≡ p ∷ places_from t (after t p) (n - 1)
      go zero h = absurd (omega arith)
      go (suc k) h = let d : suc k - 1 ≡ k = omega arith in rw d

pub places-length : (t : List ℕ) (p n : ℕ) → length (places_from t p n) ≡ n
unfolding places_from
places-length t p zero = refl
places-length t p (suc n) = ap suc (places-length t (after t p) n)

pub places_none : (t : List ℕ) (p n : ℕ) → n ≡ 0 → places_from t p n ≡ []
unfolding places_from
places_none t p n e = rw e

pub place_next : (t : List ℕ) (i : ℕ) → place_of t (i + 1) ≡ after t (place_of t i)
place_next t i = let d : i + 1 ≡ suc i = omega arith in rw d

pub place_in : (t : List ℕ) (k n i d : ℕ) → i < n → get_or (places_from t (place_of t k) n) i d ≡ place_of t (k + i)
unfolding places_from
place_in t k zero i d h = absurd (omega arith)
place_in t k (suc n) zero d h = let e : k + 0 ≡ k = omega arith in rw e
place_in t k (suc n) (suc i) d h =
    let e : k + suc i ≡ suc k + i = omega arith in
    rw e (place_in t (suc k) n i d (omega arith))

-- lines that stand on the tape keep to their bounds
pub ahead_small : (t : List ℕ) (p n : ℕ) → Ahead t p n → AllSmall (lines_from t p n)
unfolding Ahead lines_from
ahead_small t p zero a = tt
ahead_small t p (suc n) a = (a.0.small, ahead_small t (after t p) n a.1)

-- ---- a line

module _ {t : List ℕ} {p : ℕ} (l : LineOn t p) where
  -- its second word counts the words behind it
  pub size_is : word t (p + 1) ≡ length (words_of (says_at t (p + 2)))
  size_is = word_of t (words (line_at t p)) p 1 l.stand.are (omega arith)

  -- so the next line stands within the tape or at its end
  pub after-inside : after t p ≤ length t
  after-inside = omega (arith, size_is, l.stand.inside)

-- ---- a rule

module _ (t : List ℕ) (q : ℕ) where
  -- kind 1 is that of a rule
  pub rule-says : word t q ≡ rule_kind → says_at t q ≡ rule (head_of (word t (q + 1)) (list_at t (q + 2))) (body_at t (behind t (q + 2)))
  unfolding says_at
  rule-says e = rw (eq-eqb (word t q) rule_kind e)

-- the words of a rule: how many heads it has, and how far it goes
rule-room : (t : List ℕ) (p a n : ℕ) (h : Head) (bs : List ℕ) → Stand (a ∷ n ∷ rule_kind ∷ head_words h ++ bs) t p
    → (word t (p + 4) ≡ length (head_atoms h)) × (p + 5 + length (head_atoms h) + length bs ≤ length t)
rule-room t p a n h bs s =
    let ws : List ℕ = a ∷ n ∷ rule_kind ∷ kind_of h ∷ length (head_atoms h) ∷ head_atoms h ++ bs in
    let s' : Stand ws t p = rw (head-words h) at s in
    (word_of t ws p 4 s'.are (omega arith), omega (arith, s'.inside, length-append (head_atoms h) bs))

-- the words of a body: three, and those of its list
body-room : (t : List ℕ) (p : ℕ) → length (body_words (body_at t p)) ≡ 3 + word t (p + 2)
body-room t p = go (eqb (word t p) normal_kind)
  where
    go : (k : Bool) → length (body_words (pick k (normal (literals_at t (p + 2))) (weights (word t (p + 1)) (premises_at t (p + 2))))) ≡ 3 + word t (p + 2)
    go true = omega (arith, length-map (literals_at t (p + 2)) literal_word, length-map (list_at t (p + 2)) literal_of, words-length t (p + 2 + 1) (word t (p + 2)))
    go false = omega (arith, length-map (premises_at t (p + 2)) premise_word, length-map (list_at t (p + 2)) premise_of, words-length t (p + 2 + 1) (word t (p + 2)))

-- its lists stand within the tape
pub rule-inside : {t : List ℕ} {p : ℕ} → LineOn t p → word t (p + 2) ≡ rule_kind → behind t (behind t (p + 2 + 2) + 2) ≤ length t
rule-inside {t} {p} l e =
    let h = head_of (word t (p + 2 + 1)) (list_at t (p + 2 + 2)) in
    let b = body_at t (behind t (p + 2 + 2)) in
    let r = rule-room t p _ _ h (body_words b) (rw (rule-says t (p + 2) e) at l.stand) in
    let n : word t (p + 2 + 2) ≡ length (head_atoms h) = ap (word t) (omega arith) ∙ r.0 in
    omega (arith, r.1, n, body-room t (behind t (p + 2 + 2)))
