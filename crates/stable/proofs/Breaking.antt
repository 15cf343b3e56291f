-- The first broken rule: a rule from the tests of the code, and a walk in which what is left decides as all did. Assumes nothing.
use Prim.Native.Nat.{ℕ, ◌+◌, ◌-◌, ◌≤◌, ◌<◌}
use mathlib.Core.Bool.{Bool, true, false}
use mathlib.Core.List.{List}
use mathlib.Core.Option.{some}
use mathlib.Core.Path.{◌≡◌, ◌∙◌, sym}
use native.Mathlib.Omega.{arith}
use lib.ListN.{length, get_or}
use Rattle.basics.specs.Bools.{pick}
use Rattle.basics.proofs.Bools.{and_all}
use Rattle.aspif.specs.Statements.{empty, single, rule_in}
use Rattle.aspif.specs.Grammar.{plain_head}
use Rattle.aspif.specs.inner.Words.{rule_kind, word, list_at, body_at, after, says_at, lines_from}
use Rattle.aspif.specs.inner.Kept.{LineOn, Ahead}
use Rattle.aspif.proofs.Walking.{ahead-next, lines_next}
use Rattle.aspif.proofs.Decoding.{not-rule}
use Rattle.stable.specs.Meaning.{Atoms, body_true, broken_rule, broken, unbroken, broken_at, first_broken}
use Rattle.stable.specs.inner.Index.{rule_at, RuleOn}
use Rattle.stable.specs.inner.Steps.{body_holds}
use Rattle.stable.proofs.Heads.{choice-head, plain_head_lem, body-holds}
use Rattle.stable.proofs.Lines.{rule_in_lem, rule_on}
use Rattle.stable.proofs.Reduct.{holds_self}

-- ---- a rule

module _ {t : List ℕ} {q : ℕ} (k : RuleOn t q) (X : Atoms) where
  pub choice-whole : (get_or t (q + 1) 0 ≡ 0 → ⊥) → false ≡ broken X (some (rule_at t q))
  choice-whole n = rw (choice-head t q n)

  -- a plain rule with the heads hs
  module _ (c : get_or t (q + 1) 0 ≡ 0) {hs : List ℕ} (w : hs ≡ list_at t (q + 2)) where
    plain : broken X (some (rule_at t q)) ≡ broken_rule X (plain_head hs) (rule_at t q).body
    plain = rw (plain_head_lem t q c, w)

    -- the code's walk through the body
    body : {r : Bool} → r ≡ body_holds X X (body_at t (q + 2 + 1 + length hs)) → r ≡ body_true X (rule_at t q).body
    body b = body-holds k w X X b ∙ holds_self X (rule_at t q).body

    pub empty-broken : {r : Bool} → plain_head hs ≡ empty → r ≡ body_holds X X (body_at t (q + 2 + 1 + length hs)) → r ≡ broken X (some (rule_at t q))
    empty-broken z b = body b ∙ sym (plain ∙ rw z)

    pub head-broken : {r : Bool} {a : ℕ} → plain_head hs ≡ single a → X a ≡ false → r ≡ body_holds X X (body_at t (q + 2 + 1 + length hs))
        → r ≡ broken X (some (rule_at t q))
    head-broken e x b = body b ∙ sym (plain ∙ rw (e, x) (and_all (body_true X (rule_at t q).body)))

-- ---- the walk, after i of n lines

pub record Passed (X : Atoms) (t : List ℕ) (n p i : ℕ) : Type 0 where
  pub ahead : Ahead t p (n - i)
  pub same : first_broken X (lines_from t 0 n) ≡ first_broken X (lines_from t p (n - i))

module _ {X : Atoms} {t : List ℕ} {n p i : ℕ} (k : Passed X t n p i) where
  pub whole : n ≤ i → unbroken ≡ first_broken X (lines_from t 0 n)
  unfolding first_broken lines_from
  whole h = let e : n - i ≡ 0 = omega arith in sym (k.same ∙ rw e)

  module _ (h : i < n) where
    less : n - (i + 1) ≡ n - i - 1
    less = omega (arith, h)

    next : LineOn t p × Ahead t (after t p) (n - (i + 1))
    next = rw less (ahead-next t p (n - i) (omega (arith, h)) k.ahead)

    pub here : p + 2 ≤ length t
    here = omega (arith, next.0.stand.inside)

    step : first_broken X (lines_from t 0 n) ≡ pick (broken X (rule_in (says_at t (p + 2)))) (broken_at (word t p)) (first_broken X (lines_from t (after t p) (n - (i + 1))))
    unfolding first_broken
    step = k.same ∙ rw (lines_next t p (n - i) (omega (arith, h)), less)

    pass : {s : ℕ} → broken X (rule_in (says_at t (p + 2))) ≡ false → s ≡ after t p → Passed X t n s (i + 1)
    pass e f = rw f record { ahead = next.1; same = step ∙ rw e }

    module _ {w : ℕ} (e : w ≡ word t (p + 2)) where
      pub pass_other : {s : ℕ} → (w ≡ rule_kind → ⊥) → s ≡ after t p → Passed X t n s (i + 1)
      pass_other o f = pass (rw (not-rule t (p + 2) (λ r. o (e ∙ r)))) f

      module _ (y : w ≡ rule_kind) where
        pub rule_here : RuleOn t (p + 2)
        rule_here = rule_on next.0 (sym e ∙ y)

        module _ {r : Bool} (b : r ≡ broken X (some (rule_at t (p + 2)))) where
          says : broken X (rule_in (says_at t (p + 2))) ≡ r
          says = rw (rule_in_lem t (p + 2) (sym e ∙ y)) (sym b)

          pub pass_whole : {s : ℕ} → r ≡ false → s ≡ after t p → Passed X t n s (i + 1)
          pass_whole v f = pass (says ∙ v) f

          pub broken_here : r ≡ true → broken_at (get_or t p 0) ≡ first_broken X (lines_from t 0 n)
          unfolding word
          broken_here v = sym (step ∙ rw (says ∙ v))
