-- Added time rules break nothing and mend nothing: the first broken rule is the same. Assumes nothing.
use Prim.Native.Nat.{ℕ}
use mathlib.Core.Path.{◌≡◌, refl}
use mathlib.Core.Bool.{Bool, true, false}
use mathlib.Core.Logic.{◌⊎◌, inl, inr}
use mathlib.Core.List.{List}
use native.Mathlib.Omega.{arith}
use Rattle.basics.specs.Bools.{pick}
use Rattle.aspif.specs.Statements.{Statement, Line, statement_atoms, rule_in}
use Rattle.stable.specs.Meaning.{Atoms, broken, Broken, unbroken, broken_at, first_broken}
use Rattle.judge.specs.Plan.{Ready, holds}
use Rattle.further.specs.Later.{Added, Grown, done, keep, add, Moved, Later}
use Rattle.further.proofs.Lists.{Has}
use Rattle.further.proofs.Agree.{Agree, broken-same}
use Rattle.further.proofs.Added.{added_unbroken, lines_agree, new_holds}

-- ---- one line

pick-whole : (t : Bool) (p p' : ℕ) (f g : Broken) → (f ≡ unbroken → g ≡ unbroken) → pick t (broken_at p) f ≡ unbroken → pick t (broken_at p') g ≡ unbroken
pick-whole true p p' f g h e = let z : ◌≡◌ {A = ℕ} 0 1 = (cc) in absurd (omega arith)
pick-whole false p p' f g h e = h e

pick-broken : (t : Bool) (l m p : ℕ) (f g : Broken) (M : ℕ → Type 0) → (f ≡ broken_at p → (p' : ℕ) × M p' × (g ≡ broken_at p'))
    → pick t (broken_at l) f ≡ broken_at p → (p' : ℕ) × (((l ≡ p) × (m ≡ p')) ⊎ M p') × (pick t (broken_at m) g ≡ broken_at p')
pick-broken true l m p f g M h e = let i : l ≡ p = (cc) in (m, inl (i, refl), refl)
pick-broken false l m p f g M h e = let r = h e in (r.0, inr r.1, r.2)

-- ---- all lines, where no added line is broken

module _ (P : Statement → Type 0) (X Y : Atoms) (added : (s : Statement) → P s → broken Y (rule_in s) ≡ false) where
  whole-still : {ls ms : List Line} → Grown P ls ms → ((s : Statement) → Has ls s → Agree X Y (statement_atoms s)) → first_broken X ls ≡ unbroken → first_broken Y ms ≡ unbroken
  unfolding first_broken
  whole-still done h e = refl
  whole-still (keep l m {ls} {ms} i g) h e =
      rw (← i, ← broken-same X Y l.says (h l.says (inl refl)))
      (pick-whole (broken X (rule_in l.says)) l.place m.place (first_broken X ls) (first_broken Y ms) (λ f. whole-still g (λ s x. h s (inr x)) f) e)
  whole-still (add m i g) h e = rw (added m.says i) (whole-still g h e)

  broken-still : {ls ms : List Line} (g : Grown P ls ms) → ((s : Statement) → Has ls s → Agree X Y (statement_atoms s)) → (p : ℕ) → first_broken X ls ≡ broken_at p
      → (p' : ℕ) × Moved g p p' × (first_broken Y ms ≡ broken_at p')
  unfolding first_broken
  broken-still done h p e = let z : ◌≡◌ {A = ℕ} 0 1 = (cc) in absurd (omega arith)
  broken-still (keep l m {ls} {ms} i g) h p e =
      rw (← i, ← broken-same X Y l.says (h l.says (inl refl)))
      (pick-broken (broken X (rule_in l.says)) l.place m.place p (first_broken X ls) (first_broken Y ms) (Moved g p) (λ f. broken-still g (λ s x. h s (inr x)) p f) e)
  broken-still (add m i g) h p e = rw (added m.says i) (broken-still g h p e)

-- ---- the plan with time rules added

module _ (q q' : Ready) (new : List ℕ) (l : Later q q' new) where
  new_unbroken : (s : Statement) → Added q.lines new s → broken (holds q') (rule_in s) ≡ false
  new_unbroken = added_unbroken q.lines new (holds q') (new_holds q q' new l)

  -- if no rule was broken, none is
  pub still-whole : first_broken (holds q) q.lines ≡ unbroken → first_broken (holds q') q'.lines ≡ unbroken
  still-whole = whole-still (Added q.lines new) (holds q) (holds q') new_unbroken l.lines (lines_agree q q' new l)

  -- the first broken rule is the same, at the place of its line now
  pub still-broken : (p : ℕ) → first_broken (holds q) q.lines ≡ broken_at p
      → (p' : ℕ) × Moved l.lines p p' × (first_broken (holds q') q'.lines ≡ broken_at p')
  still-broken = broken-still (Added q.lines new) (holds q) (holds q') new_unbroken l.lines (lines_agree q q' new l)
