-- The statement at a place of the tape, by its kind and by its role; and the numbers of a line, which are within the tables.
use Prim.Native.Nat.{ℕ, ◌+◌, ◌<◌}
use mathlib.Core.Path.{◌≡◌, refl, sym, ap, ◌∙◌}
use mathlib.Core.List.{List}
use mathlib.Core.Option.{Option, some, none}
use native.Mathlib.Omega.{arith}
use borrow.Author.Tests.{ne_eqb}
use Rattle.faults.specs.inner.Places.{term_places, element_places, atom_places}
use Rattle.aspif.specs.Statements.{Literal, Term, num, str, comp, elem, Guard, unguarded, guard, Theory, defines, collects, states, theory_in}
use Rattle.aspif.specs.Grammar.{integer_of}
use Rattle.aspif.specs.inner.Words.{number_kind, string_kind, compound_kind, element_kind, atom_kind, guarded_kind, word, words_from, literals_at, says_at}
use Rattle.aspif.specs.inner.Kept.{IsByte, LineOn}
use Rattle.aspif.proofs.Decoding.{TheoryIf, theory-small, theory_by}
use Rattle.terms.specs.inner.Tables.{role_of}
use Rattle.terms.specs.declared.lines.Role.{Role}
use Rattle.terms.specs.declared.lines.Role.TheVariants as role

module _ (t : List ℕ) (q : ℕ) where
  -- ---- what the statement at q says

  abbrev number : Option Theory
  number = some (defines (word t (q + 1)) (num (integer_of (word t (q + 2)))))

  abbrev string : Option Theory
  string = some (defines (word t (q + 1)) (str (words_from t (q + 3) (word t (q + 2)))))

  abbrev compound : Option Theory
  compound = some (defines (word t (q + 1)) (comp (integer_of (word t (q + 2))) (words_from t (q + 4) (word t (q + 3)))))

  abbrev element : List Literal → Option Theory
  element c = some (collects (word t (q + 1)) (elem (words_from t (q + 3) (word t (q + 2))) c))

  abbrev atom : Guard → Option Theory
  atom g = some (states (word t (q + 1)) (word t (q + 2)) (words_from t (q + 4) (word t (q + 3))) g)

  -- the place behind the list that is counted at q + 2, and at q + 3
  abbrev behind2 : ℕ
  behind2 = q + 3 + word t (q + 2)

  abbrev behind3 : ℕ
  behind3 = q + 4 + word t (q + 3)

  -- what holds for every kind holds of the statement
  pub by_kind : (P : Option Theory → Type 0)
      → (word t q ≡ number_kind → P number) → (word t q ≡ string_kind → P string) → (word t q ≡ compound_kind → P compound)
      → (word t q ≡ element_kind → P (element (literals_at t behind2)))
      → (word t q ≡ atom_kind → P (atom unguarded)) → (word t q ≡ guarded_kind → P (atom (guard (word t behind3) (word t (behind3 + 1)))))
      → (role_of (word t q) ≡ role.Other → P none)
      → P (theory_in (says_at t q))
  unfolding role_of
  by_kind P n s c e a g o =
      let x : q + 2 + 1 ≡ q + 3 = omega arith in
      let y : q + 3 + 1 ≡ q + 4 = omega arith in
      let h = theory_by t q P in
      (rw (x, y) at h) n s c e a g (λ z. o (rw (ne_eqb (word t q) number_kind z.0, ne_eqb (word t q) string_kind z.1, ne_eqb (word t q) compound_kind z.2, ne_eqb (word t q) element_kind z.3, ne_eqb (word t q) atom_kind z.4, ne_eqb (word t q) guarded_kind z.5)))

  pub number-says : word t q ≡ number_kind → theory_in (says_at t q) ≡ number
  unfolding says_at
  number-says h = rw h

  pub string-says : word t q ≡ string_kind → theory_in (says_at t q) ≡ string
  unfolding says_at
  string-says h = let x : q + 2 + 1 ≡ q + 3 = omega arith in rw (h, x)

  pub compound_says : word t q ≡ compound_kind → theory_in (says_at t q) ≡ compound
  unfolding says_at
  compound_says h = let y : q + 3 + 1 ≡ q + 4 = omega arith in rw (h, y)

  pub element_says : word t q ≡ element_kind → theory_in (says_at t q) ≡ element (literals_at t behind2)
  unfolding says_at
  element_says h = let x : q + 2 + 1 ≡ q + 3 = omega arith in rw (h, x)

  pub guarded_says : word t q ≡ guarded_kind → theory_in (says_at t q) ≡ atom (guard (word t behind3) (word t (behind3 + 1)))
  unfolding says_at
  guarded_says h = let y : q + 3 + 1 ≡ q + 4 = omega arith in rw (h, y)

  -- ---- by its role

  abbrev Does : Role → Option Theory → Type 0
  Does role.Term x = (y : Term) × (x ≡ some (defines (word t (q + 1)) y))
  Does role.Element x = (c : List Literal) × (x ≡ element c)
  Does role.Atom x = (g : Guard) × (x ≡ atom g)
  Does role.Other x = x ≡ none

  pub role_does : Does (role_of (word t q)) (theory_in (says_at t q))
  unfolding role_of
  role_does =
      by_kind (Does (role_of (word t q))) (λ h. rw h (_, refl)) (λ h. rw h (_, refl)) (λ h. rw h (_, refl)) (λ h. rw h (_, refl)) (λ h. rw h (_, refl)) (λ h. rw h (_, refl)) (λ h. rw h refl)

-- the role that the code finds
pub role_is : (t : List ℕ) (p k : ℕ) (r x : Role) → k ≡ word t p → r ≡ role_of k → r ≡ x → role_of (word t p) ≡ x
role_is t p k r x ek er e = ap role_of (sym ek) ∙ sym er ∙ e

-- ---- the numbers of a line

-- of bytes that may be anything
abbrev pub Any : ℕ → Type 0
Any b = Unit {0}

module _ {t : List ℕ} {p : ℕ} (l : LineOn t p) where
  small_line : TheoryIf IsByte (theory_in (says_at t (p + 2)))
  small_line = theory-small IsByte (says_at t (p + 2)) l.small

  pub term-room : role_of (word t (p + 2)) ≡ role.Term → word t (p + 2 + 1) < term_places
  term-room e = let d = rw e at (role_does t (p + 2)) in omega (arith, (rw d.1 at small_line).0)

  pub element_room : role_of (word t (p + 2)) ≡ role.Element → word t (p + 2 + 1) < element_places
  element_room e = let d = rw e at (role_does t (p + 2)) in omega (arith, (rw d.1 at small_line).0)

  pub atom-room : role_of (word t (p + 2)) ≡ role.Atom → word t (p + 2 + 1) < atom_places
  atom-room e = let d = rw e at (role_does t (p + 2)) in omega (arith, (rw d.1 at small_line).0.1)
