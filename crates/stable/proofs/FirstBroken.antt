-- The first broken rule: none exactly if no rule is broken, and else the rule that is broken behind lines that are not. Assumes nothing.
use Prim.Native.Nat.{ℕ}
use mathlib.Core.Bool.{Bool, true, false, true≢false}
use mathlib.Core.List.{List, [], ◌∷◌, ◌++◌}
use mathlib.Core.Logic.{◌↔◌, inl, inr, ⊎_elim}
use mathlib.Core.Option.{Option, some, none}
use mathlib.Core.Path.{◌≡◌, refl, ap, sym, ◌∙◌}
use Rattle.basics.specs.Bools.{pick}
use Rattle.aspif.specs.Statements.{Line, Rule, rule_in}
use Rattle.stable.specs.Meaning.{Atoms, broken_rule, broken, Unbroken, Broken, unbroken, broken_at, first_broken}

-- that a place is shown
abbrev shown : Broken → Bool
shown unbroken = false
shown (broken_at p) = true

module _ (X : Atoms) where
  -- no rule of a line and the lines behind it is broken
  both-whole : (x : Line) (xs : List Line) → broken X (rule_in x.says) ≡ false → Unbroken X xs → Unbroken X (x ∷ xs)
  both-whole x xs q u r h = ⊎_elim (λ i. sym (ap (broken X) i) ∙ q) (u r) h

  line-whole : (o : Option Rule) → ((r : Rule) → o ≡ some r → broken_rule X r.head r.body ≡ false) → broken X o ≡ false
  line-whole none f = refl
  line-whole (some r) f = f r refl

  none-broken : (ls : List Line) → first_broken X ls ≡ unbroken → Unbroken X ls
  unfolding first_broken
  none-broken [] e = λ r h. absurd h
  none-broken (x ∷ xs) e = go (broken X (rule_in x.says)) refl e (none-broken xs)
    where
      go : (t : Bool) → broken X (rule_in x.says) ≡ t → pick t (broken_at x.place) (first_broken X xs) ≡ unbroken
          → (first_broken X xs ≡ unbroken → Unbroken X xs) → Unbroken X (x ∷ xs)
      go true q d f = absurd (true≢false (ap shown d))
      go false q d f = both-whole x xs q (f d)

  all_whole : (ls : List Line) → Unbroken X ls → first_broken X ls ≡ unbroken
  unfolding first_broken
  all_whole [] u = refl
  all_whole (x ∷ xs) u = rw (line-whole (rule_in x.says) (λ r e. u r (inl e))) (all_whole xs (λ r h. u r (inr h)))

  -- no place is shown exactly if no rule is broken
  pub unbroken_iff : (ls : List Line) → (first_broken X ls ≡ unbroken) ↔ Unbroken X ls
  unbroken_iff ls = (none-broken ls, all_whole ls)

  -- where a place is shown, a rule that stands there is broken, and those before it are not
  pub record FirstAt (ls : List Line) (p : ℕ) : Type 0 where
    pub before : List Line
    pub line : Line
    pub behind : List Line
    pub split : ls ≡ before ++ (line ∷ behind)
    pub whole : Unbroken X before
    pub broke : broken X (rule_in line.says) ≡ true
    pub at : line.place ≡ p

  -- and such a rule there is
  pub first_at : (ls : List Line) (p : ℕ) → first_broken X ls ≡ broken_at p → FirstAt ls p
  unfolding first_broken
  first_at [] p e = absurd (true≢false (sym (ap shown e)))
  first_at (x ∷ xs) p e = go (broken X (rule_in x.says)) refl e (first_at xs p)
    where
      go : (t : Bool) → broken X (rule_in x.says) ≡ t → pick t (broken_at x.place) (first_broken X xs) ≡ broken_at p
          → (first_broken X xs ≡ broken_at p → FirstAt xs p) → FirstAt (x ∷ xs) p
      go true q d g =
          let y : x.place ≡ p = cc in
          record { before = []; line = x; behind = xs; split = refl; whole = λ r n. absurd n; broke = q; at = y }
      go false q d g =
          let f = g d in
          record {
            before = x ∷ f.before;
            line = f.line;
            behind = f.behind;
            split = ap (λ ys. x ∷ ys) f.split;
            whole = both-whole x f.before q f.whole;
            broke = f.broke;
            at = f.at;
          }
