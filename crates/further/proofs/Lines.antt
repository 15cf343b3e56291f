-- Which lines stand behind what a term, an element or a difference atom is. Assumes nothing.
use Prim.Native.Nat.{ℕ}
use mathlib.Core.Path.{◌≡◌, refl, ap, ◌∙◌}
use mathlib.Core.Bool.{Bool, true, false}
use mathlib.Core.Logic.{inl, inr}
use mathlib.Core.List.{List, [], ◌∷◌}
use mathlib.Core.Option.{Option, some, none}
use native.Mathlib.Omega.{arith}
use borrow.Author.Tests.{eqb-true}
use lib.Dec.{eqb}
use Rattle.basics.specs.Bools.{pick}
use Rattle.basics.specs.Lists.{Some}
use Rattle.aspif.specs.Statements.{Term, Element, unguarded, guard, Theory, defines, collects, states, theory, Line, theory_in}
use Rattle.aspif.proofs.Decoding.{theory-is}
use Rattle.diffs.specs.Diff.{Diff}
use Rattle.terms.specs.Says.{or_else, term_in, term, element_in, element_at, Difference, SaysIn, Says}
use Rattle.further.proofs.Lists.{Has}

-- ---- terms

defines_it : (u : ℕ) (t : Term) (p : Option Theory) → term_in u p ≡ some t → p ≡ some (defines u t)
defines_it u t (some (defines v x)) e = go (eqb u v) refl e
  where
    go : (b : Bool) → eqb u v ≡ b → pick b (some x) none ≡ some t → some (defines v x) ≡ some (defines u t)
    go true f g = let i : u ≡ v = eqb-true u v f in cc
    go false f g = let z : ◌≡◌ {A = ℕ} 0 1 = (cc) in absurd (omega arith)
defines_it u t (some (collects v x)) e = let z : ◌≡◌ {A = ℕ} 0 1 = (cc) in absurd (omega arith)
defines_it u t (some (states a p vs g)) e = let z : ◌≡◌ {A = ℕ} 0 1 = (cc) in absurd (omega arith)
defines_it u t none e = let z : ◌≡◌ {A = ℕ} 0 1 = (cc) in absurd (omega arith)

-- what a term number stands for is said by its line
pub term_said : (ls : List Line) (u : ℕ) (t : Term) → term ls u ≡ some t → Has ls (theory (defines u t))
unfolding term
term_said [] u t e = let z : ◌≡◌ {A = ℕ} 0 1 = (cc) in absurd (omega arith)
term_said (l ∷ ls) u t e = go (term_in u (theory_in l.says)) refl e (λ f. term_said ls u t f)
  where
    go : (x : Option Term) → term_in u (theory_in l.says) ≡ x → or_else x (term ls u) ≡ some t
        → (term ls u ≡ some t → Has ls (theory (defines u t))) → Has (l ∷ ls) (theory (defines u t))
    go (some x) f g r = inl (theory-is l.says (defines u t) (defines_it u t (theory_in l.says) (f ∙ g)))
    go none f g r = inr (r g)

-- ---- elements

collects_it : (v : ℕ) (e : Element) (p : Option Theory) → element_in v p ≡ some e → p ≡ some (collects v e)
collects_it v e (some (defines u t)) f = let z : ◌≡◌ {A = ℕ} 0 1 = (cc) in absurd (omega arith)
collects_it v e (some (collects w x)) f = go (eqb v w) refl f
  where
    go : (b : Bool) → eqb v w ≡ b → pick b (some x) none ≡ some e → some (collects w x) ≡ some (collects v e)
    go true h g = let i : v ≡ w = eqb-true v w h in cc
    go false h g = let z : ◌≡◌ {A = ℕ} 0 1 = (cc) in absurd (omega arith)
collects_it v e (some (states a p vs g)) f = let z : ◌≡◌ {A = ℕ} 0 1 = (cc) in absurd (omega arith)
collects_it v e none f = let z : ◌≡◌ {A = ℕ} 0 1 = (cc) in absurd (omega arith)

-- an element is said by its line
pub element_said : (ls : List Line) (v : ℕ) (x : Element) → element_at ls v ≡ some x → Has ls (theory (collects v x))
unfolding element_at
element_said [] v x e = let z : ◌≡◌ {A = ℕ} 0 1 = (cc) in absurd (omega arith)
element_said (l ∷ ls) v x e = go (element_in v (theory_in l.says)) refl e (λ f. element_said ls v x f)
  where
    go : (y : Option Element) → element_in v (theory_in l.says) ≡ y → or_else y (element_at ls v) ≡ some x
        → (element_at ls v ≡ some x → Has ls (theory (collects v x))) → Has (l ∷ ls) (theory (collects v x))
    go (some y) f g r = inl (theory-is l.says (collects v x) (collects_it v x (theory_in l.says) (f ∙ g)))
    go none f g r = inr (r g)

-- ---- difference atoms

-- one of the lines ms states the theory atom a, which by the terms of ls is the difference d
pub record Stating (ls ms : List Line) (a : ℕ) (d : Diff) : Type 0 where
  pub p : ℕ
  pub vs : List ℕ
  pub g : ℕ
  pub u : ℕ
  pub line : Has ms (theory (states a p vs (guard g u)))
  pub is : Difference ls p vs g u d

module _ (ls : List Line) (a : ℕ) (d : Diff) where
  -- by the line in front of others
  at_line : (m : Line) (ms : List Line) (x : Option Theory) → theory_in m.says ≡ x → SaysIn ls a d x → Stating ls (m ∷ ms) a d
  at_line m ms (some (defines u t)) e x = absurd x
  at_line m ms (some (collects v y)) e x = absurd x
  at_line m ms (some (states b p vs unguarded)) e x = absurd x
  at_line m ms (some (states b p vs (guard g u))) e x =
      record { p = p; vs = vs; g = g; u = u; line = inl (theory-is m.says (states a p vs (guard g u)) (e ∙ ap (λ (c : ℕ). some (states c p vs (guard g u))) x.0)); is = x.1 }
  at_line m ms none e x = absurd x

  stating : (ms : List Line) → Some (λ (l : Line). SaysIn ls a d (theory_in l.says)) ms → Stating ls ms a d
  stating [] x = absurd x
  stating (m ∷ ms) (inl x) = at_line m ms (theory_in m.says) refl x
  stating (m ∷ ms) (inr x) =
      let r = stating ms x in record { p = r.p; vs = r.vs; g = r.g; u = r.u; line = inr r.line; is = r.is }

  unstating : (ms : List Line) (p : ℕ) (vs : List ℕ) (g u : ℕ) → Has ms (theory (states a p vs (guard g u))) → Difference ls p vs g u d → Some (λ (l : Line). SaysIn ls a d (theory_in l.says)) ms
  unstating [] p vs g u x e = absurd x
  unstating (m ∷ ms) p vs g u (inl x) e = inl (rw x (refl, e))
  unstating (m ∷ ms) p vs g u (inr x) e = inr (unstating ms p vs g u x e)

  -- what a difference atom says, a line states
  pub says-stating : Says ls a d → Stating ls ls a d
  says-stating x = stating ls x

  -- what a line states, its atom says
  pub stating-says : Stating ls ls a d → Says ls a d
  stating-says r = unstating ls r.p r.vs r.g r.u r.line r.is
