-- Two sets of atoms that agree on the atoms of a line say the same of it. Assumes nothing.
use Prim.Native.Nat.{ℕ}
use mathlib.Core.Path.{◌≡◌, refl, sym, ◌∙◌}
use mathlib.Core.Bool.{true, false}
use mathlib.Core.List.{List, [], ◌∷◌, ◌++◌, map}
use mathlib.Core.Option.{Option, some, none}
use lib.Dec.{eqb}
use Rattle.basics.specs.Lists.{among}
use Rattle.basics.proofs.Bools.{or_left, or_right, and_cases}
use Rattle.basics.proofs.Bitmaps.{first_in, among-append}
use Rattle.aspif.specs.Statements.{Literal, positive, negated, Head, empty, single, choice, head_atoms, Premise, Body, normal, weights, Statement, Rule, atom_of, literal_atoms, premise_atom, body_atoms, statement_atoms, rule_in}
use Rattle.aspif.proofs.Decoding.{rule-is}
use Rattle.stable.specs.Meaning.{Atoms, one, premises, body_true, broken_rule, broken, reduct, reduct_head, Obeyed}
use Rattle.stable.specs.inner.Steps.{literal_holds, reached_by, body_holds}
use Rattle.stable.proofs.Reduct.{holds_self, holds-reduct}
use Rattle.further.proofs.Lists.{rest_in}

-- X and Y have the same atoms of a list
abbrev pub Agree : Atoms → Atoms → List ℕ → Type 0
Agree X Y l = (a : ℕ) → among a l ≡ true → X a ≡ Y a

-- ---- parts of a list

module _ (X Y : Atoms) where
  agree_left : (l m : List ℕ) → Agree X Y (l ++ m) → Agree X Y l
  agree_left l m h a e = h a (among-append a l m ∙ or_left (among a l) (among a m) e)

  agree_right : (l m : List ℕ) → Agree X Y (l ++ m) → Agree X Y m
  agree_right l m h a e = h a (among-append a l m ∙ or_right (among a l) (among a m) e)

  agree_first : (a : ℕ) (l : List ℕ) → Agree X Y (a ∷ l) → X a ≡ Y a
  agree_first a l h = h a (first_in a l)

  agree_rest : (b : ℕ) (l : List ℕ) → Agree X Y (b ∷ l) → Agree X Y l
  agree_rest b l h a e = h a (rest_in a b l e)

-- ---- bodies

-- the atoms of a body are those of what may count for it
counting : (ls : List Literal) → map premise_atom (map one ls) ≡ literal_atoms ls
counting [] = refl
counting (l ∷ ls) = rw (counting ls)

premise-atoms : (b : Body) → map premise_atom (premises b) ≡ body_atoms b
premise-atoms (normal ls) = counting ls
premise-atoms (weights k ps) = refl

-- where X and Y agree, and S and T do
module _ (X Y S T : Atoms) where
  literal-same : (l : Literal) → X (atom_of l) ≡ Y (atom_of l) → S (atom_of l) ≡ T (atom_of l) → literal_holds X S l ≡ literal_holds Y T l
  literal-same (positive a) x s = s
  literal-same (negated a) x s = rw x

  reached-same : (ps : List Premise) → Agree X Y (map premise_atom ps) → Agree S T (map premise_atom ps) → reached_by X S ps ≡ reached_by Y T ps
  reached-same [] x s = refl
  reached-same (p ∷ ps) x s =
      let a = premise_atom p in
      let l = map premise_atom ps in
      rw (literal-same p.literal (agree_first X Y a l x) (agree_first S T a l s), reached-same ps (agree_rest X Y a l x) (agree_rest S T a l s))

  holds_same : (b : Body) → Agree X Y (body_atoms b) → Agree S T (body_atoms b) → body_holds X S b ≡ body_holds Y T b
  holds_same b x s = rw (reached-same (premises b) (rw (premise-atoms b) x) (rw (premise-atoms b) s))

  -- the one reduct of a body is true exactly if the other is
  reduct-same : (b : Body) → Agree X Y (body_atoms b) → Agree S T (body_atoms b) → body_true S (reduct X b) ≡ body_true T (reduct Y b)
  reduct-same b x s = holds-reduct X S b ∙ holds_same b x s ∙ sym (holds-reduct Y T b)

module _ (X Y : Atoms) where
  -- a body is true by both or by neither
  body_same : (b : Body) → Agree X Y (body_atoms b) → body_true X b ≡ body_true Y b
  body_same b h = sym (holds_self X b) ∙ holds_same X Y X Y b h h ∙ holds_self Y b

  -- ---- heads

  -- an atom that heads a rule of the one reduct heads it in the other
  pub head-same : (h : Head) → Agree X Y (head_atoms h) → (a : ℕ) → reduct_head X h a ≡ true → reduct_head Y h a ≡ true
  head-same empty g a e = e
  head-same (single b) g a e = e
  head-same (choice hs) g a e = let i = and_cases (among a hs) (X a) e in rw (i.0, ← g a i.0) i.1

  -- ---- lines

  rule-same : (h : Head) (b : Body) → Agree X Y (head_atoms h ++ body_atoms b) → broken_rule X h b ≡ broken_rule Y h b
  rule-same empty b g = body_same b g
  rule-same (single a) b g = rw (agree_first X Y a (body_atoms b) g, body_same b (agree_rest X Y a (body_atoms b) g))
  rule-same (choice hs) b g = refl

  -- a line is broken by both or by neither
  pub broken-same : (s : Statement) → Agree X Y (statement_atoms s) → broken X (rule_in s) ≡ broken Y (rule_in s)
  broken-same s g = go (rule_in s) refl
    where
      go : (x : Option Rule) → rule_in s ≡ x → broken X x ≡ broken Y x
      go none e = refl
      go (some r) e = rule-same r.head r.body (rw (rule-is s r e) at g)

-- an atom that heads a rule of the reduct stands in its head
pub head_in : (X : Atoms) (h : Head) (a : ℕ) → reduct_head X h a ≡ true → among a (head_atoms h) ≡ true
head_in X empty a e = e
head_in X (single b) a e = or_left (eqb a b) false e
head_in X (choice hs) a e = (and_cases (among a hs) (X a) e).0

-- where X and Y agree on a rule's atoms, and S and T do, a model by the one is a model by the other
pub model-same : (X Y S T : Atoms) (r : Rule) → Agree X Y (head_atoms r.head ++ body_atoms r.body) → Agree S T (head_atoms r.head ++ body_atoms r.body) → Obeyed X S r → Obeyed Y T r
model-same X Y S T r x s m p a e =
    let h = r.head in
    let b = r.body in
    let i = head-same Y X h (λ c j. sym (agree_left X Y (head_atoms h) (body_atoms b) x c j)) a e in
    sym (agree_left S T (head_atoms h) (body_atoms b) s a (head_in Y h a e))
    ∙ m (reduct-same X Y S T b (agree_right X Y (head_atoms h) (body_atoms b) x) (agree_right S T (head_atoms h) (body_atoms b) s) ∙ p) a i
