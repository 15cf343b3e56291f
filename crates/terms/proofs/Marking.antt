-- Bitmaps: what a mark does, and one law for each turn of the loops that mark numbers and take the marks of heads away.
use Prim.Native.Nat.{ℕ, zero, suc, ◌+◌, ◌-◌, ◌≤◌, ◌<◌}
use mathlib.Core.Path.{◌≡◌, refl, sym, ap, ◌∙◌}
use mathlib.Core.Bool.{Bool, true, false, ◌&&◌, ◌||◌, not}
use mathlib.Core.List.{List, [], ◌∷◌, ◌++◌}
use native.Mathlib.Omega.{arith}
use native.Mathlib.Numerals.{add-one}
use borrow.Author.Tests.{eqb-true, eqb-false}
use lib.ListN.{length, get_or, set, take, replicate, length-set, length-replicate}
use lib.Seq.{take-suc, get_or-set_same, get_or-set_other}
use lib.Dec.{eqb}
use Rattle.std.proofs.lemmas.List.{map-append}
use Rattle.basics.specs.Bools.{pick}
use Rattle.basics.specs.Lists.{among}
use Rattle.basics.specs.inner.Bitmaps.{is_marked}
use Rattle.basics.proofs.Bools.{or_none, or_true, or_assoc, and_none, and_all}
use Rattle.basics.proofs.Bitmaps.{among-append}
use Rattle.basics.proofs.Lists.{zeros}
use Rattle.aspif.specs.Statements.{Head, choice, head_atoms, rule_in}
use Rattle.aspif.specs.Grammar.{head_of, plain_head}
use Rattle.aspif.specs.inner.Words.{rule_kind, head_words, body_words, word, words_from, list_at, behind, body_at, says_at, after, lines_from, lines_of}
use Rattle.aspif.specs.inner.Kept.{Stand, LineOn, Ahead}
use Rattle.aspif.proofs.Coding.{kind_of, head-words}
use Rattle.aspif.proofs.Walking.{first_word, words-length, ahead-next, lines_next, rule-says}
use Rattle.aspif.proofs.Decoding.{not-rule}
use Rattle.diffs.specs.inner.Answer.{zero_difference}
use Rattle.diffs.specs.declared.Difference.{Difference}
use Rattle.terms.specs.Says.{head_in, headed}
use Rattle.terms.specs.inner.Marks.{MarksThose, Remarked, x_numbers, y_numbers}

-- ---- one mark

-- a mark past the end changes nothing
pub set_out : (l : List ℕ) (n v : ℕ) → length l ≤ n → l ≡ set l n v
set_out [] n v h = refl
set_out (x ∷ l) zero v h = absurd (omega arith)
set_out (x ∷ l) (suc n) v h = ap (λ (r : List ℕ). x ∷ r) (set_out l n v (omega arith))

-- what is marked after a number was written
marked-set : (l : List ℕ) (n v a : ℕ) → a < length l → is_marked (set l n v) a ≡ pick (eqb a n) (eqb v 1) (is_marked l a)
marked-set l n v a h = go (eqb a n) refl
  where
    go : (b : Bool) → eqb a n ≡ b → eqb (get_or (set l n v) a 0) 1 ≡ pick b (eqb v 1) (eqb (get_or l a 0) 1)
    go true q = let e : a ≡ n = eqb-true a n q in let k : n < length l = omega arith in rw (e, get_or-set_same l n v 0 k)
    go false q = rw (get_or-set_other l n a v 0 (eqb-false a n q))

-- a number marked, and one whose mark was taken away
pick_true : (p m : Bool) → pick p true m ≡ m || p
pick_true true m = sym (or_true m)
pick_true false m = sym (or_none m)

pick_false : (p m r : Bool) → pick p false m && not r ≡ m && not (p || r)
pick_false true m r = sym (and_none m)
pick_false false m r = refl

-- marks that are changed by a rule are those that the rule gives
pub marks_remarked : {size : ℕ} {x y : List ℕ} {f : ℕ → Bool} {g : Bool → ℕ → Bool} → MarksThose size x f → length y ≡ length x → Remarked x y g → MarksThose size y (λ n. g (f n) n)
marks_remarked {size} {x} m l c = record { places = l ∙ m.places; each = λ n h. c.each n (omega (arith, m.places)) ∙ rw (m.each n h) }

-- ---- the numbers of a list, up to the turn i

pub record Marking (list l₀ l : List ℕ) (i : ℕ) : Type 0 where
  pub done : Remarked l₀ l (λ b a. b || among a (take i list))
  pub same : length l ≡ length l₀
  pub within : i ≤ length list

pub marking_next : {list l₀ l : List ℕ} {i : ℕ} (l' : List ℕ) → i < length list → l' ≡ set l (get_or list i 0) 1 → Marking list l₀ l i → Marking list l₀ l' (i + 1)
marking_next {list} {l₀} {l} {i} l' h e r =
    record {
      done = record {
        each = λ a w.
            rw (e, marked-set l (get_or list i 0) 1 a (omega (arith, r.same)), pick_true (eqb a (get_or list i 0)) (is_marked l a), r.done.each a w, add-one i, take-suc list i 0 (omega arith), among-append a (take i list) (get_or list i 0 ∷ []), or_none (eqb a (get_or list i 0)))
            (or_assoc (is_marked l₀ a) (among a (take i list)) (eqb a (get_or list i 0)));
      };
      same = ap length e ∙ length-set l (get_or list i 0) 1 ∙ r.same;
      within = omega arith;
    }

-- ---- the names of differences, up to the turn i

-- what stands as x or y
abbrev side_in : List Difference → ℕ → Bool
side_in ds a = among a (x_numbers ds) || among a (y_numbers ds)

pub record Siding (ds : List Difference) (l₀ l : List ℕ) (i : ℕ) : Type 0 where
  pub done : Remarked l₀ l (λ b a. b || side_in (take i ds) a)
  pub same : length l ≡ length l₀
  pub within : i ≤ length ds

-- one more on each side
two_more : (b p q x y : Bool) → ((b || (p || q)) || x) || y ≡ b || ((p || x) || (q || y))
two_more true p q x y = refl
two_more false true q x y = refl
two_more false false true true y = refl
two_more false false true false y = refl
two_more false false false x y = refl

side_more : (ds : List Difference) (d : Difference) (a : ℕ) → side_in (ds ++ (d ∷ [])) a ≡ (among a (x_numbers ds) || eqb a d.x.0) || (among a (y_numbers ds) || eqb a d.y.0)
side_more ds d a =
    rw (map-append (λ (d : Difference). d.x.0) ds (d ∷ []), map-append (λ (d : Difference). d.y.0) ds (d ∷ []), among-append a (x_numbers ds) (d.x.0 ∷ []), among-append a (y_numbers ds) (d.y.0 ∷ []), or_none (eqb a d.x.0), or_none (eqb a d.y.0))

pub siding-next : {ds : List Difference} {l₀ l : List ℕ} {i : ℕ} (m l' : List ℕ) (d : Difference) → i < length ds → d ≡ get_or ds i zero_difference
    → m ≡ set l d.x.0 1 → l' ≡ set m d.y.0 1 → Siding ds l₀ l i → Siding ds l₀ l' (i + 1)
siding-next {ds} {l₀} {l} {i} m l' d h ed em el r =
    let k : length m ≡ length l = ap length em ∙ length-set l d.x.0 1 in
    record {
      done = record {
        each = λ a w.
            rw (el, marked-set m d.y.0 1 a (omega (arith, k, r.same)), pick_true (eqb a d.y.0) (is_marked m a), em, marked-set l d.x.0 1 a (omega (arith, r.same)), pick_true (eqb a d.x.0) (is_marked l a), r.done.each a w, add-one i, take-suc ds i zero_difference h, ← ed, side_more (take i ds) d a)
            (two_more (is_marked l₀ a) (among a (x_numbers (take i ds))) (among a (y_numbers (take i ds))) (eqb a d.x.0) (eqb a d.y.0));
      };
      same = ap length el ∙ length-set m d.y.0 1 ∙ k ∙ r.same;
      within = omega arith;
    }

-- ---- a list of atoms on the tape, up to the turn i

pub record Listing (t : List ℕ) (from n : ℕ) (l₀ l : List ℕ) (i : ℕ) : Type 0 where
  pub rest : (a : ℕ) → a < length l₀ → is_marked l a && not (among a (words_from t (from + i) (n - i))) ≡ is_marked l₀ a && not (among a (words_from t from n))
  pub same : length l ≡ length l₀

among_next : (t : List ℕ) (from n i a w : ℕ) → i < n → w ≡ word t (from + i + 0) → among a (words_from t (from + i) (n - i)) ≡ eqb a w || among a (words_from t (from + (i + 1)) (n - (i + 1)))
unfolding words_from
among_next t from n i a w h e =
    let d : n - i ≡ suc (n - (i + 1)) = omega arith in
    let b : from + i + 1 ≡ from + (i + 1) = omega arith in
    rw (d, first_word t (from + i) w e, b)

pub list-next : {t : List ℕ} {from n : ℕ} {l₀ l : List ℕ} {i : ℕ} (l' : List ℕ) (w : ℕ) → i < n → w ≡ word t (from + i + 0) → l' ≡ set l w 0
    → Listing t from n l₀ l i → Listing t from n l₀ l' (i + 1)
list-next {t} {from} {n} {l₀} {l} {i} l' w h ew e r =
    record {
      rest = λ a k.
          rw (e, marked-set l w 0 a (omega (arith, r.same)))
          (pick_false (eqb a w) (is_marked l a) (among a (words_from t (from + (i + 1)) (n - (i + 1)))) ∙ rw (among_next t from n i a w h ew) at (r.rest a k));
      same = ap length e ∙ length-set l w 0 ∙ r.same;
    }

pub list_end : {t : List ℕ} {from n : ℕ} {l₀ l : List ℕ} {i : ℕ} → n ≤ i → Listing t from n l₀ l i → Remarked l₀ l (λ b a. b && not (among a (words_from t from n)))
unfolding words_from
list_end {t} {from} {n} {l₀} {l} {i} h r = let e : n - i ≡ 0 = omega arith in record { each = λ a k. sym (and_all (is_marked l a)) ∙ (rw e at (r.rest a k)) }

-- ---- the head of a line

-- a line of another kind is no rule
pub line-none : (t : List ℕ) (p k : ℕ) (l : List ℕ) → k ≡ word t (p + 2) → (k ≡ rule_kind → ⊥) → Remarked l l (λ b a. b && not (head_in a (rule_in (says_at t (p + 2)))))
line-none t p k l e z = record { each = λ a h. rw (not-rule t (p + 2) (λ w. z (e ∙ w))) (sym (and_all (is_marked l a))) }

-- the fifth word of a rule counts its head atoms
head-count : (t ws : List ℕ) (p x y : ℕ) (h : Head) → Stand (x ∷ y ∷ rule_kind ∷ head_words h ++ ws) t p → word t (p + 4) ≡ length (head_atoms h)
unfolding words_from
head-count t ws p x y h s =
    let s' : Stand (x ∷ y ∷ rule_kind ∷ kind_of h ∷ length (head_atoms h) ∷ head_atoms h ++ ws) t p = rw (head-words h) at s in
    let w : word t (p + 1 + 1 + 1 + 1) ≡ length (head_atoms h) = cc s'.are in
    ap (word t) (omega arith) ∙ w

-- so the atoms of a head are all that were counted
heads-all : (k : ℕ) (hs : List ℕ) → length hs ≡ length (head_atoms (head_of k hs)) → head_atoms (head_of k hs) ≡ hs
heads-all k hs = go (eqb k 0) hs
  where
    go : (b : Bool) (hs : List ℕ) → length hs ≡ length (head_atoms (pick b (plain_head hs) (choice hs))) → head_atoms (pick b (plain_head hs) (choice hs)) ≡ hs
    go false hs h = refl
    go true [] h = refl
    go true (a ∷ []) h = refl
    go true (a ∷ b ∷ hs) h = absurd (omega arith)

pub line-heads : (t : List ℕ) (p k n : ℕ) (l l' : List ℕ) → LineOn t p → k ≡ word t (p + 2) → k ≡ rule_kind → n ≡ word t (p + 2 + 2)
    → Remarked l l' (λ b a. b && not (among a (words_from t (p + 2 + 3) n))) → Remarked l l' (λ b a. b && not (head_in a (rule_in (says_at t (p + 2)))))
line-heads t p k n l l' on ek z en f =
    let says = rule-says t (p + 2) (sym ek ∙ z) in
    let x : p + 2 + 2 ≡ p + 4 = omega arith in
    let y : p + 2 + 2 + 1 ≡ p + 2 + 3 = omega arith in
    let hs = list_at t (p + 2 + 2) in
    let c : length hs ≡ length (head_atoms (head_of (word t (p + 2 + 1)) hs)) = words-length t _ _ ∙ ap (word t) x ∙ head-count t (body_words (body_at t (behind t (p + 2 + 2)))) p _ _ (head_of (word t (p + 2 + 1)) hs) (rw says at on.stand) in
    record { each = λ a h. f.each a h ∙ rw (says, heads-all (word t (p + 2 + 1)) hs c, y, en) }

-- ---- the heads of all lines

pub record Heading (t : List ℕ) (n : ℕ) (l₀ l : List ℕ) (p i : ℕ) : Type 0 where
  pub rest : (a : ℕ) → a < length l₀ → is_marked l a && not (headed (lines_from t p (n - i)) a) ≡ is_marked l₀ a && not (headed (lines_of t n) a)
  pub same : length l ≡ length l₀
  pub ahead : Ahead t p (n - i)

one_by_one : (m p r : Bool) → (m && not p) && not r ≡ m && not (p || r)
one_by_one true true r = refl
one_by_one true false r = refl
one_by_one false p r = refl

pub heads-next : {t : List ℕ} {n : ℕ} {l₀ l : List ℕ} {p i : ℕ} (l' : List ℕ) (next : ℕ) → i < n → next ≡ after t p → length l' ≡ length l
    → Remarked l l' (λ b a. b && not (head_in a (rule_in (says_at t (p + 2))))) → Heading t n l₀ l p i → Heading t n l₀ l' next (i + 1)
unfolding headed
heads-next {t} {n} {l₀} {l} {p} {i} l' next h e k f r =
    let left : 0 < n - i = omega arith in
    let d : n - i - 1 ≡ n - (i + 1) = omega arith in
    record {
      rest = λ a w.
          rw (e, f.each a (omega (arith, r.same)), ← d)
          (one_by_one (is_marked l a) (head_in a (rule_in (says_at t (p + 2)))) (headed (lines_from t (after t p) (n - i - 1)) a) ∙ rw (lines_next t p (n - i) left) at (r.rest a w));
      same = k ∙ r.same;
      ahead = rw (e, ← d) (ahead-next t p (n - i) left r.ahead).1;
    }

pub heads_end : {t : List ℕ} {n : ℕ} {l₀ l : List ℕ} {p i : ℕ} → n ≤ i → Heading t n l₀ l p i → Remarked l₀ l (λ b a. b && not (headed (lines_of t n) a))
unfolding headed lines_from
heads_end {t} {n} {l₀} {l} {p} {i} h r = let e : n - i ≡ 0 = omega arith in record { each = λ a w. sym (and_all (is_marked l a)) ∙ (rw e at (r.rest a w)) }

-- a new array marks nothing
pub marks-zeros : (n : ℕ) → MarksThose n (replicate {A = ℕ} n 0) (λ a. false)
marks-zeros n = record { places = length-replicate {A = ℕ} n 0; each = λ a h. rw (zeros n a) }
