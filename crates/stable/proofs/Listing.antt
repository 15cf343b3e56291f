-- A walk that writes the place of each rule: a rule of the lines is written or is ahead. A rule has eight words or more. Assumes nothing.
use Prim.Native.Nat.{ℕ, ◌+◌, ◌-◌, ◌*◌, ◌≤◌, ◌<◌}
use mathlib.Core.List.{List}
use mathlib.Core.Logic.{◌⊎◌, inl, inr, ⊎_elim}
use mathlib.Core.Option.{some}
use mathlib.Core.Path.{◌≡◌, ap, ◌∙◌, sym}
use native.Mathlib.Omega.{arith}
use borrow.Author.Count.{below_more}
use lib.ListN.{length, set, length-set, take}
use Rattle.std.proofs.lemmas.List.{get_or-take, length-take-le}
use lib.Seq.{get_or-set_same, get_or-set_other}
use Rattle.aspif.specs.Statements.{Rule, rule_in}
use Rattle.aspif.specs.inner.Words.{rule_kind, word, after, says_at, lines_from, lines_of}
use Rattle.aspif.specs.inner.Kept.{LineOn, Ahead}
use Rattle.aspif.proofs.Walking.{ahead_starts, ahead-next, lines_next, after-inside}
use Rattle.aspif.proofs.Decoding.{not-rule}
use Rattle.stable.specs.Meaning.{HasRule}
use Rattle.stable.specs.inner.Index.{rule_at, RuleOn, rule_words, Indexed}
use Rattle.stable.proofs.Lines.{rule_in_lem, rule_on, rule-long}

-- a rule of the lines stands at q
pub record Stands (t : List ℕ) (n q : ℕ) : Type 0 where
  pub on : RuleOn t q
  pub said : HasRule (lines_of t n) (rule_at t q)

-- r is one of the first m rules of an index
pub record Written (t index : List ℕ) (m : ℕ) (r : Rule) : Type 0 where
  pub i : ℕ
  pub below : i < m
  pub is : rule_at t (word index i) ≡ r

-- after i of n lines, with m rules written
pub record Listing (t : List ℕ) (n : ℕ) (index : List ℕ) (size m p i : ℕ) : Type 0 where
  pub ahead : Ahead t p (n - i)
  pub few : rule_words * m ≤ p
  pub long : length index ≡ size
  pub enough : length t ≤ rule_words * size
  pub each : (j : ℕ) → j < m → Stands t n (word index j)
  pub said : (r : Rule) → HasRule (lines_from t p (n - i)) r → HasRule (lines_of t n) r
  pub whole : (r : Rule) → HasRule (lines_of t n) r → Written t index m r ⊎ HasRule (lines_from t p (n - i)) r

-- the words of the first m are those of the index
cut-word : (index : List ℕ) (m i : ℕ) → i < m → word (take m index) i ≡ word index i
unfolding word
cut-word index m i h = get_or-take m index i 0 h

module _ {t : List ℕ} {n : ℕ} {index : List ℕ} {size m p i : ℕ} (k : Listing t n index size m p i) where
  pub fits : m ≤ length index
  fits = omega (arith, k.few, k.long, k.enough, ahead_starts t p (n - i) k.ahead)

  pub whole : n ≤ i → Indexed t n (take m index)
  unfolding lines_from
  whole h =
      let e : n - i ≡ 0 = omega arith in
      let l : length (take m index) ≡ m = length-take-le m index fits in
      record {
        readable = record { each = λ j b. let d : j < m = omega (arith, b, l) in rw (cut-word index m j d) (k.each j d).on };
        sound = λ j b. let d : j < m = omega (arith, b, l) in rw (cut-word index m j d) (k.each j d).said;
        whole = λ r s. ⊎_elim
            (λ w. record { i = w.i; below = omega (arith, w.below, l); is = rw (cut-word index m w.i w.below) w.is })
            (λ a. absurd (rw e at a)) (k.whole r s);
      }

  module _ (h : i < n) where
    less : n - (i + 1) ≡ n - i - 1
    less = omega (arith, h)

    next : LineOn t p × Ahead t (after t p) (n - (i + 1))
    next = rw less (ahead-next t p (n - i) (omega (arith, h)) k.ahead)

    pub here : p + 2 ≤ length t
    here = omega (arith, next.0.stand.inside)

    -- a rule ahead is the first line, or ahead of it
    first_or : (r : Rule) → HasRule (lines_from t p (n - i)) r → (rule_in (says_at t (p + 2)) ≡ some r) ⊎ HasRule (lines_from t (after t p) (n - (i + 1))) r
    first_or r a = rw less (rw (lines_next t p (n - i) (omega (arith, h))) at a)

    or_first : (r : Rule) → (rule_in (says_at t (p + 2)) ≡ some r) ⊎ HasRule (lines_from t (after t p) (n - (i + 1))) r → HasRule (lines_from t p (n - i)) r
    or_first r a = rw (lines_next t p (n - i) (omega (arith, h))) (rw less at a)

    module _ {w : ℕ} (e : w ≡ word t (p + 2)) where
      pub pass : {g : List ℕ} {s u : ℕ} → (w ≡ rule_kind → ⊥) → g ≡ index → s ≡ m → u ≡ after t p → Listing t n g size s u (i + 1)
      pass o x y z = rw (x, y, z) record {
        ahead = next.1;
        few = omega (arith, k.few);
        long = k.long;
        enough = k.enough;
        each = k.each;
        said = λ r a. k.said r (or_first r (inr a));
        whole = λ r a. ⊎_elim inl (λ b. ⊎_elim (λ f. absurd (other r f)) inr (first_or r b)) (k.whole r a);
      }
        where
          other : (r : Rule) → rule_in (says_at t (p + 2)) ≡ some r → ⊥
          other r f = let v = not-rule t (p + 2) (λ y. o (e ∙ y)) in let c : ◌≡◌ {A = ℕ} 0 1 = cc in omega arith

      module _ (y : w ≡ rule_kind) where
        pub room : m < size
        room = omega (arith, k.few, k.enough, rule-long next.0 (sym e ∙ y), after-inside next.0)

        same : word (set index m (p + 2)) m ≡ p + 2
        unfolding word
        same = get_or-set_same index m (p + 2) 0 (omega (arith, room, k.long))

        others : (j : ℕ) → j < m → word (set index m (p + 2)) j ≡ word index j
        unfolding word
        others j d = get_or-set_other index m j (p + 2) 0 (omega arith)

        -- what was written stays, and the rule at hand is written
        old : {r : Rule} → Written t index m r → Written t (set index m (p + 2)) (m + 1) r
        old j = record { i = j.i; below = omega (arith, j.below); is = ap (rule_at t) (others j.i j.below) ∙ j.is }

        new : {r : Rule} → rule_in (says_at t (p + 2)) ≡ some r → Written t (set index m (p + 2)) (m + 1) r
        new {r} f =
            let v = rule_in_lem t (p + 2) (sym e ∙ y) in
            let c : rule_at t (p + 2) ≡ r = cc in
            record { i = m; below = omega arith; is = ap (rule_at t) same ∙ c }

        pub put : {g : List ℕ} {s u : ℕ} → g ≡ set index m (p + 2) → s ≡ m + 1 → u ≡ after t p → Listing t n g size s u (i + 1)
        put x v z = rw (x, v, z) record {
          ahead = next.1;
          few = omega (arith, k.few, rule-long next.0 (sym e ∙ y));
          long = length-set index m (p + 2) ∙ k.long;
          enough = k.enough;
          each = below_more _ m (λ j d. rw (others j d) (k.each j d))
              (rw same record { on = rule_on next.0 (sym e ∙ y); said = k.said _ (or_first _ (inl (rule_in_lem t (p + 2) (sym e ∙ y)))) });
          said = λ r a. k.said r (or_first r (inr a));
          whole = λ r a. ⊎_elim (λ j. inl (old j)) (λ b. ⊎_elim (λ f. inl (new f)) inr (first_or r b)) (k.whole r a);
        }
