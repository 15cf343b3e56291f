-- Lines on the tape: when one is a rule, that a rule can be read, and the first of the words of a list. Assumes nothing.
use Prim.Native.Nat.{ℕ, zero, suc, ◌+◌, ◌≤◌, ◌<◌}
use mathlib.Core.List.{List, ◌∷◌}
use mathlib.Core.Option.{some}
use mathlib.Core.Path.{◌≡◌, refl, ap}
use native.Mathlib.Omega.{arith}
use lib.ListN.{length, get_or, length-append, take, drop}
use lib.Seq.{drop-cons}
use Rattle.aspif.specs.Statements.{Head, empty, single, choice, Body, normal, weights, rule_in}
use Rattle.aspif.specs.inner.Words.{rule_kind, head_words, body_words, words_of, word, words_from, says_at, after}
use Rattle.aspif.specs.inner.Kept.{LineOn}
use Rattle.aspif.proofs.Walking.{rule-says, rule-inside}
use Rattle.stable.specs.inner.Index.{rule_at, RuleOn}

module _ (t : List ℕ) (q : ℕ) where
  -- kind 1 is that of a rule
  pub rule_in_lem : word t q ≡ rule_kind → rule_in (says_at t q) ≡ some (rule_at t q)
  rule_in_lem e = rw (rule-says t q e)

-- the rule of a line can be read
pub rule_on : {t : List ℕ} {p : ℕ} → LineOn t p → word t (p + 2) ≡ rule_kind → RuleOn t (p + 2)
rule_on {t} {p} l e =
    let s = rw (rule-says t (p + 2) e) at l.small in
    record { head = s.0; body = record { inside = rule-inside l e; small = s.1 } }

head-long : (h : Head) → 2 ≤ length (head_words h)
head-long empty = omega arith
head-long (single a) = omega arith
head-long (choice hs) = omega arith

body-long : (b : Body) → 3 ≤ length (body_words b)
body-long (normal ls) = omega arith
body-long (weights k ps) = omega arith

-- and takes eight words or more
pub rule-long : {t : List ℕ} {p : ℕ} → LineOn t p → word t (p + 2) ≡ rule_kind → p + 8 ≤ after t p
unfolding words_from
rule-long {t} {p} l e =
    let s = l.stand.are in
    let z : word t (p + 1) ≡ length (words_of (says_at t (p + 2))) = cc in
    let h = (rule_at t (p + 2)).head in
    let b = (rule_at t (p + 2)).body in
    let y = rw (rule-says t (p + 2) e) at z in
    omega (arith, y, head-long h, body-long b, length-append (head_words h) (body_words b))

-- n words as the code cuts them out
pub words_cut : (t : List ℕ) (p n : ℕ) → p + n ≤ length t → take n (drop p t) ≡ words_from t p n
unfolding words_from word
words_cut t p zero h = refl
words_cut t p (suc n) h =
    let i : p < length t = omega arith in
    let e : suc p ≡ p + 1 = omega arith in
    rw (drop-cons t p 0 i, e) (ap (λ l. get_or t p 0 ∷ l) (words_cut t (p + 1) n (omega arith)))

-- the next of the words of a list, and the rest
pub drop-next : (ws : List ℕ) (i : ℕ) → i < length ws → drop i ws ≡ get_or ws i 0 ∷ drop (i + 1) ws
drop-next ws i h = let e : i + 1 ≡ suc i = omega arith in rw e (drop-cons ws i 0 h)
