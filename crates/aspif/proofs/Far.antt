-- How far a field goes that was read, and that it ends within the text. Assumes nothing.
use Prim.Native.Nat.{ℕ, ◌+◌, ◌≤◌, ◌<◌}
use mathlib.Core.Path.{◌≡◌}
use mathlib.Core.List.{List}
use native.Mathlib.Omega.{arith}
use lib.Dec.{lit<}
use lib.ListN.{length}
use Rattle.fields.specs.Reading.{found}
use Rattle.fields.specs.Fields.{space, byte, natural, next_natural, natural_then, next_integer, next_atom, next_term, next_element, line_end_of}
use Rattle.fields.specs.declared.LineEnd.{LineEnd}
use Rattle.aspif.specs.declared.lines.Header.{Header}
use Rattle.aspif.specs.Grammar.{first_line}
use Rattle.aspif.proofs.Kept.{first_reads}
use Rattle.fields.proofs.Naturals.{ten_far}
use Rattle.fields.proofs.Readers.{by_grammar, by_carried, by_bounds, reads-ends, byte_reads, natural-reads, next_natural-reads, natural_then-reads, next_integer-reads, next_atom-reads, next_term-reads, next_element-reads, line_end_of-reads}

module _ (s : List ℕ) (at : ℕ) {v n : ℕ} where
  -- the type of a line
  pub type_far : found v n ≡ natural 3 10 s at → (at + 1 ≤ n) × (n ≤ length s)
  type_far e = let h = reads-ends (lit< tt) (natural-reads _ _ by_grammar _ _) _ _ e in (h.1, h.2)

  -- the kind of a head, a body or a theory statement
  pub kind_far : (most : ℕ) → found v n ≡ next_natural 3 most s at → (v ≤ most) × (at + 2 ≤ n) × (n ≤ length s)
  kind_far most e = reads-ends (lit< tt) (next_natural-reads _ _ by_grammar _ _) _ _ e

  -- a lower bound
  pub bound_far : (most : ℕ) → found v n ≡ next_natural 5 most s at → (at + 2 ≤ n) × (n ≤ length s)
  bound_far most e = let h = reads-ends (lit< tt) (next_natural-reads _ _ by_bounds _ _) _ _ e in (h.1, h.2)

  -- the length of a string, and the space behind it
  pub length_far : (most : ℕ) → found v n ≡ natural_then 5 most space s at → (at + 3 ≤ n) × (n ≤ length s)
  length_far most e = let h = reads-ends (lit< tt) (natural_then-reads _ _ space by_bounds (lit< tt) _ _) _ _ e in (h.1, h.2)

  -- a number of each other sort
  pub integer_far : (low high : ℕ) → found v n ≡ next_integer low high s at → (at + 2 ≤ n) × (n ≤ length s)
  integer_far low high e = let h = reads-ends (lit< tt) (next_integer-reads _ _ _ _) _ _ e in (h.1, h.2)

  pub atom_far : found v n ≡ next_atom 4 s at → (at + 2 ≤ n) × (n ≤ length s)
  atom_far e = let h = reads-ends (lit< tt) (next_atom-reads _ by_carried _ _) _ _ e in (h.1, h.2)

  pub term_far : found v n ≡ next_term s at → (at + 2 ≤ n) × (n ≤ length s)
  term_far e = let h = reads-ends (lit< tt) (next_term-reads _ _) _ _ e in (h.1, h.2)

  pub element_far : found v n ≡ next_element s at → (at + 2 ≤ n) × (n ≤ length s)
  element_far e = let h = reads-ends (lit< tt) (next_element-reads _ _) _ _ e in (h.1, h.2)

module _ (s : List ℕ) (at : ℕ) {n : ℕ} where
  pub space_far : found tt n ≡ byte space s at → (at + 1 ≤ n) × (n ≤ length s)
  space_far e = let h = reads-ends (lit< tt) (byte_reads space (lit< tt) _ _) _ _ e in (h.1, h.2)

  -- the end of a line
  pub end_far : (ends : LineEnd) → found tt n ≡ line_end_of ends s at → (at + 1 ≤ n) × (n ≤ length s)
  end_far ends e = let h = reads-ends (lit< tt) (line_end_of-reads _ _ _) _ _ e in (h.1, h.2)

-- the first line
pub first_far : (s : List ℕ) (at : ℕ) {first : Header} {n : ℕ} → found first n ≡ first_line s at → (0 < n) × (n ≤ length s)
first_far s at e = let h = reads-ends (lit< tt) (first_reads _ _) _ _ e in (omega arith, h.2)

-- all of these, and that a type of two digits is of two bytes
pub ruleset far = (type_far, kind_far, bound_far, length_far, integer_far, atom_far, term_far, element_far, space_far, end_far, first_far, ten_far)
