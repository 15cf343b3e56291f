-- What added lines are to the old ones: old lines stay, new ones break nothing and head nothing old. Assumes nothing.
use Prim.Native.Nat.{ℕ}
use mathlib.Core.Path.{◌≡◌, refl, sym, ◌∙◌}
use mathlib.Core.Bool.{Bool, true, false, ◌||◌}
use mathlib.Core.Logic.{◌⊎◌, inl, inr, ⊎_elim}
use mathlib.Core.List.{List, [], ◌∷◌}
use borrow.Author.Tests.{ne_eqb}
use lib.Dec.{eqb}
use Rattle.basics.specs.Lists.{among}
use Rattle.basics.proofs.Bools.{or_else}
use Rattle.aspif.specs.Statements.{Statement, Line, statement_atoms, rule_in, theory_in}
use Rattle.terms.specs.Says.{head_in, headed}
use Rattle.terms.specs.Terms.{states_in, taken, external}
use Rattle.stable.specs.Meaning.{Atoms, broken}
use Rattle.judge.specs.Plan.{Ready, holds}
use Rattle.further.specs.Later.{Unused, Added, a_term, an_element, an_atom, a_fact, Grown, done, keep, add, Later}
use Rattle.judge.proofs.Ascent.{of_member}
use Rattle.further.proofs.Lists.{not_true, not-both, Has}
use Rattle.further.proofs.Agree.{Agree}

-- ---- lines with others between

module _ (P : Statement → Type 0) where
  -- what an old line says, a new line says
  pub says_on : {ls ms : List Line} → Grown P ls ms → (s : Statement) → Has ls s → Has ms s
  says_on done s h = h
  says_on (keep l m e g) s (inl h) = inl (sym e ∙ h)
  says_on (keep l m e g) s (inr h) = inr (says_on g s h)
  says_on (add m i g) s h = inr (says_on g s h)

  -- what a new line says, an old one says or an added one
  pub says_back : {ls ms : List Line} → Grown P ls ms → (s : Statement) → Has ms s → Has ls s ⊎ P s
  says_back done s h = inl h
  says_back (keep l m e g) s (inl h) = inl (inl (e ∙ h))
  says_back (keep l m e g) s (inr h) = ⊎_elim (λ x. inl (inr x)) (λ x. inr x) (says_back g s h)
  says_back (add m i g) s (inl h) = inr (rw h at i)
  says_back (add m i g) s (inr h) = says_back g s h

  -- an atom that no added line states is stated by the new lines exactly if by the old
  pub taken-same : (a : ℕ) → ((s : Statement) → P s → states_in a (theory_in s) ≡ false) → {ls ms : List Line} → Grown P ls ms → taken ms a ≡ taken ls a
  unfolding taken
  taken-same a f done = refl
  taken-same a f (keep l m e g) = rw (e, taken-same a f g)
  taken-same a f (add m i g) = rw (f m.says i) (taken-same a f g)

  -- an atom that heads no added line heads a new line exactly if an old one
  pub headed-same : (a : ℕ) → ((s : Statement) → P s → head_in a (rule_in s) ≡ false) → {ls ms : List Line} → Grown P ls ms → headed ms a ≡ headed ls a
  unfolding headed
  headed-same a f done = refl
  headed-same a f (keep l m e g) = rw (e, headed-same a f g)
  headed-same a f (add m i g) = rw (f m.says i) (headed-same a f g)

-- ---- an unused number

-- an unused number is in no line
pub unused_in : (kind : Statement → List ℕ) (ls : List Line) (n : ℕ) → Unused kind ls n → (s : Statement) → Has ls s → among n (kind s) ≡ false
unused_in kind [] n h s x = absurd x
unused_in kind (l ∷ ls) n h s (inl x) = rw x at h.0
unused_in kind (l ∷ ls) n h s (inr x) = unused_in kind ls n h.1 s x

-- ---- what is added

module _ (ls : List Line) (new : List ℕ) where
  -- another number than a new one
  other : (a c : ℕ) → among a new ≡ false → among c new ≡ true → eqb a c ≡ false
  other a c f e = ne_eqb a c (λ i. not-both e (rw i at f))

  -- a set that has the new atoms breaks no added line: a fact whose head is in X is never broken
  pub added_unbroken : (Y : Atoms) → ((a : ℕ) → among a new ≡ true → Y a ≡ true) → (s : Statement) → Added ls new s → broken Y (rule_in s) ≡ false
  added_unbroken Y f s (a_term u x h) = refl
  added_unbroken Y f s (an_element v x h) = refl
  added_unbroken Y f s (an_atom a p vs g u h) = refl
  added_unbroken Y f s (a_fact a h) = rw (f a h)

  -- an old atom heads no added line
  pub added_heads : (a : ℕ) → among a new ≡ false → (s : Statement) → Added ls new s → head_in a (rule_in s) ≡ false
  added_heads a f s (a_term u x h) = refl
  added_heads a f s (an_element v x h) = refl
  added_heads a f s (an_atom c p vs g u h) = refl
  added_heads a f s (a_fact c h) = or_else (eqb a c) false refl ∙ other a c f h

  -- no added line states an old atom
  pub added_states : (a : ℕ) → among a new ≡ false → (s : Statement) → Added ls new s → states_in a (theory_in s) ≡ false
  added_states a f s (a_term u x h) = refl
  added_states a f s (an_element v x h) = refl
  added_states a f s (an_atom c p vs g u h) = other a c f h
  added_states a f s (a_fact c h) = refl

-- ---- the plan with time rules added

module _ (q q' : Ready) (new : List ℕ) (l : Later q q' new) where
  -- an atom of the old candidate is none of the new
  pub old_apart : (a : ℕ) → holds q a ≡ true → among a new ≡ false
  old_apart a e = not_true (among a new) (λ i. not-both e (of_member (λ n. holds q n ≡ false) new a l.outside i))

  -- an atom of an old line is none of the new
  pub line_apart : (s : Statement) → Has q.lines s → (a : ℕ) → among a (statement_atoms s) ≡ true → among a new ≡ false
  line_apart s x a e =
      not_true (among a new) (λ i. not-both e (unused_in statement_atoms q.lines a (of_member (Unused statement_atoms q.lines) new a l.unused i) s x))

  -- both candidates have the same of the atoms that are not new
  pub candidate-same : (a : ℕ) → among a new ≡ false → holds q a ≡ holds q' a
  candidate-same a f = sym (l.candidate a ∙ or_else (holds q a) (among a new) f)

  -- and of the atoms of each old line
  pub lines_agree : (s : Statement) → Has q.lines s → Agree (holds q) (holds q') (statement_atoms s)
  lines_agree s x a e = candidate-same a (line_apart s x a e)

  -- the new candidate has the old atoms
  pub old_holds : (a : ℕ) → holds q a ≡ true → holds q' a ≡ true
  old_holds a e = rw (l.candidate a, e)

  -- and the new ones
  pub new_holds : (a : ℕ) → among a new ≡ true → holds q' a ≡ true
  new_holds a e = l.candidate a ∙ go (holds q a)
    where
      go : (t : Bool) → (t || among a new) ≡ true
      go true = refl
      go false = e

  -- an atom that is not new is external in the new plan exactly if in the old
  pub external-same : (a : ℕ) → among a new ≡ false → external q'.lines a ≡ external q.lines a
  external-same a f =
      rw (
        taken-same (Added q.lines new) a (added_states q.lines new a f) l.lines,
        headed-same (Added q.lines new) a (added_heads q.lines new a f) l.lines,
      )
