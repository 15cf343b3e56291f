-- The index against the lines: its rules are the rules of the lines, so the models are the same, and what was sought is the answer. Assumes nothing.
use Prim.Native.Nat.{ℕ}
use mathlib.Core.Bool.{true, true≢false}
use mathlib.Core.List.{List}
use mathlib.Core.Logic.{◌↔◌}
use mathlib.Core.Path.{◌≡◌, ◌∙◌, sym, subst}
use Rattle.basics.specs.inner.Bitmaps.{is_marked}
use Rattle.aspif.specs.inner.Words.{lines_of}
use Rattle.stable.specs.Meaning.{Atoms, Obeyed, Closed, InLeast, Founding, founded, unfounded_at, FoundedBy}
use Rattle.stable.specs.inner.Index.{Indexed}
use Rattle.stable.specs.inner.Steps.{ClosedBy, LeastBy, Sought}

module _ {t : List ℕ} {n : ℕ} {index : List ℕ} (k : Indexed t n index) where
  by_index : {X ext S : Atoms} → Closed X ext (lines_of t n) S → ClosedBy X ext t index S
  by_index c = record { facts = c.facts; rules = λ i h. c.rules _ (k.sound i h) }

  by_lines : {X ext S : Atoms} → ClosedBy X ext t index S → Closed X ext (lines_of t n) S
  by_lines {X} {ext} {S} c = record { facts = c.facts; rules = λ r s. let q = k.whole r s in subst (Obeyed X S) q.is (c.rules q.i q.below) }

  module _ (x f : List ℕ) (ext : Atoms) (l : LeastBy (is_marked x) ext t index f) where
    -- what founding found is the least model
    exact : (a : ℕ) → (is_marked f a ≡ true) ↔ InLeast (is_marked x) ext (lines_of t n) a
    exact a = ((λ e S c. l.below S (by_index c) a e), (λ g. g (is_marked f) (by_lines l.model)))

    -- so what the search found is the answer
    pub answer : (v : Founding) → Sought v x f → FoundedBy v (is_marked x) ext (lines_of t n)
    answer founded s = λ a u. u.outside ((exact a).0 (s a u.holds))
    answer (unfounded_at a) s = record {
      unfounded = record { holds = s.0; outside = λ g. true≢false (sym ((exact a).1 g) ∙ s.1) };
      before = λ b h u. u.outside ((exact b).0 (s.2 b h u.holds));
    }
