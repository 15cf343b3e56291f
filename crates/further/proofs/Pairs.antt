-- P and Q with one further time rule are later plans of P and Q: the relation of demand 3. Assumes nothing.
use Prim.Native.Nat.{ℕ}
use mathlib.Core.Path.{◌≡◌, refl, sym}
use mathlib.Core.Bool.{Bool, true, false, ◌&&◌, not}
use mathlib.Core.Logic.{inl, inr}
use mathlib.Core.List.{List, [], ◌∷◌, ◌++◌}
use lib.IntN.{pos}
use Rattle.basics.specs.Lists.{among}
use Rattle.basics.proofs.Bools.{and_cases}
use Rattle.basics.proofs.Bitmaps.{among-append}
use Rattle.aspif.specs.Statements.{num, comp, elem, Statement, Line, statement_atoms}
use Rattle.terms.specs.Terms.{taken}
use Rattle.judge.specs.Plan.{Ready, ready}
use Rattle.further.specs.Later.{terms, elements, Unused, Added, a_term, an_element, an_atom, a_fact, Grown, done, keep, add, Later}
use Rattle.judge.proofs.Texts.{lines_p}
use Rattle.further.proofs.Texts.{lines_with}

-- ---- unused numbers by a test

unused_in : (kind : Statement → List ℕ) → List Line → ℕ → Bool
unused_in kind [] n = true
unused_in kind (l ∷ ls) n = not (among n (kind l.says)) && unused_in kind ls n

not_in : (t : Bool) → not t ≡ true → t ≡ false
not_in true e = sym e
not_in false e = refl

unused-so : (kind : Statement → List ℕ) (ls : List Line) (n : ℕ) → unused_in kind ls n ≡ true → Unused kind ls n
unfolding unused_in
unused-so kind [] n e = tt
unused-so kind (l ∷ ls) n e =
    let h = and_cases (not (among n (kind l.says))) (unused_in kind ls n) e in
    (not_in (among n (kind l.says)) h.0, unused-so kind ls n h.1)

-- ---- the relation

-- P, or Q, with a candidate
abbrev pub old : (eight c : ℕ) → List ℕ → Ready
old eight c cs = ready (lines_p 40 eight 117 c) cs

-- with the further rule
abbrev pub new : (eight c w n : ℕ) → List ℕ → Ready
new eight c w n cs = ready (lines_with eight c w n) cs

module _ (eight c c' w n : ℕ) where
  with_lines : Grown (Added (lines_p 40 eight 117 c) (4 ∷ [])) (lines_p 40 eight 117 c) (lines_with eight c' w n)
  unfolding unused_in
  with_lines =
      keep _ _ refl
      (add _ (a_fact 4 refl)
      (keep _ _ refl (keep _ _ refl (keep _ _ refl (keep _ _ refl (keep _ _ refl (keep _ _ refl (keep _ _ refl (keep _ _ refl
      (keep _ _ refl (keep _ _ refl (keep _ _ refl (keep _ _ refl (keep _ _ refl (keep _ _ refl (keep _ _ refl (keep _ _ refl
      (add _ (a_term 10 (num (pos w)) (unused-so terms (lines_p 40 eight 117 c) 10 refl))
      (add _ (a_term 11 (comp (pos 1) (10 ∷ [])) (unused-so terms (lines_p 40 eight 117 c) 11 refl))
      (add _ (an_element 2 (elem (7 ∷ []) []) (unused-so elements (lines_p 40 eight 117 c) 2 refl))
      (add _ (an_atom 4 0 (2 ∷ []) 2 11 refl)
      done)))))))))))))))))))))

  -- with every candidate that has not atom 4, the plan with the further rule is a later plan
  pub later : (cs : List ℕ) → among 4 cs ≡ false → Later (old eight c cs) (new eight c' w n (cs ++ (4 ∷ []))) (4 ∷ [])
  unfolding unused_in taken
  later cs h = record {
    lines = with_lines;
    stated = (refl, tt);
    facts = (inr (inl refl), tt);
    unused = (unused-so statement_atoms (lines_p 40 eight 117 c) 4 refl, tt);
    outside = (h, tt);
    candidate = λ a. among-append a cs (4 ∷ []);
  }
