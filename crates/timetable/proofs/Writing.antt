-- The writers' loops, and that header, records and atoms, each stored in its part, are the table stored.
use Prim.Native.Nat.{ℕ, ◌+◌, ◌*◌, ◌/◌, ◌≤◌, ◌<◌}
use mathlib.Core.Path.{◌≡◌, refl, ◌∙◌}
use mathlib.Core.List.{List, [], ◌∷◌, ◌++◌, append_assoc}
use native.Mathlib.Omega.{arith}
use native.Mathlib.Nat.{zero-add}
use lib.ListN.{length, get_or, length-append, length-map}
use lib.Seq.{sets, sets-eq}
use Rattle.basics.specs.inner.Bitmaps.{marked_from}
use Rattle.faults.specs.Limits.{last_atom, table_room}
use Rattle.faults.specs.inner.Places.{term_places}
use Rattle.timetable.specs.Word.{four_bytes}
use Rattle.timetable.specs.Table.{Record, Content, records_of, record_bytes, atom_bytes, header_length, header_bytes, table_of}
use Rattle.timetable.specs.inner.Given.{time_at, given, WrittenTable}
use Rattle.timetable.proofs.Stores.{sets_next, sets_ahead}
use Rattle.timetable.proofs.Marks.{marked-none, marked_pass, marked-take}

-- ---- words in a row

pub two-stored : (l r₁ r₂ : List ℕ) (o x y : ℕ) → r₁ ≡ sets l o (four_bytes x) → r₂ ≡ sets r₁ (o + 4) (four_bytes y)
    → r₂ ≡ sets l o (four_bytes x ++ four_bytes y)
unfolding four_bytes
two-stored l r₁ r₂ o x y e f = f ∙ sets_next l r₁ o (o + 4) (four_bytes x) (four_bytes y) e refl

pub header_stored : (l r₁ r₂ r₃ r₄ : List ℕ) (n m : ℕ)
    → r₁ ≡ sets l 0 (four_bytes n) → r₂ ≡ sets r₁ 4 (four_bytes m) → r₃ ≡ sets r₂ 8 (four_bytes header_length) → r₄ ≡ sets r₃ 12 (four_bytes (header_length + 8 * n))
    → r₄ ≡ sets l 0 (header_bytes n m)
unfolding header_bytes four_bytes
header_stored l r₁ r₂ r₃ r₄ n m a b c d =
    let e₂ : r₂ ≡ sets l 0 (four_bytes n ++ four_bytes m) = two-stored l r₁ r₂ 0 n m a b in
    let e₃ : r₃ ≡ sets l 0 (four_bytes n ++ four_bytes m ++ four_bytes header_length) = c ∙ sets_next l r₂ 0 8 (four_bytes n ++ four_bytes m) (four_bytes header_length) e₂ refl in
    d ∙ sets_next l r₃ 0 12 (four_bytes n ++ four_bytes m ++ four_bytes header_length) (four_bytes (header_length + 8 * n)) e₃ refl

-- ---- the loops

-- the room once the records of the marked names from i on stand at o
unfoldable pub with_records : List ℕ → ℕ → ℕ → List ℕ → List ℕ → List ℕ
with_records room o i names times = sets room o (record_bytes (records_of (marked_from i names) (time_at times)))

module _ (room : List ℕ) (o i : ℕ) (names times : List ℕ) where
  pub records-none : length names ≤ i → room ≡ with_records room o i names times
  unfolding with_records records_of record_bytes
  records-none h = rw (marked-none names i h)

  pub records_pass : i < length names → (get_or names i 0 ≡ 1 → ⊥) → with_records room o (i + 1) names times ≡ with_records room o i names times
  unfolding with_records
  records_pass h n = rw (marked_pass names i h n)

  pub records-take : (r : List ℕ) → i < length names → get_or names i 0 ≡ 1 → r ≡ sets room o (four_bytes i ++ four_bytes (time_at times i))
      → with_records r (o + 8) (i + 1) names times ≡ with_records room o i names times
  unfolding with_records records_of record_bytes four_bytes
  records-take r h n e =
      sets_next room r o (o + 8) (four_bytes i ++ four_bytes (time_at times i)) (record_bytes (records_of (marked_from (i + 1) names) (time_at times))) e refl
      ∙ rw (← marked-take names i h n)

-- the room once the marked atoms from i on stand at o
unfoldable pub with_atoms : List ℕ → ℕ → ℕ → List ℕ → List ℕ
with_atoms room o i atoms = sets room o (atom_bytes (marked_from i atoms))

module _ (room : List ℕ) (o i : ℕ) (atoms : List ℕ) where
  pub atoms-none : length atoms ≤ i → room ≡ with_atoms room o i atoms
  unfolding with_atoms atom_bytes
  atoms-none h = rw (marked-none atoms i h)

  pub atoms_pass : i < length atoms → (get_or atoms i 0 ≡ 1 → ⊥) → with_atoms room o (i + 1) atoms ≡ with_atoms room o i atoms
  unfolding with_atoms
  atoms_pass h n = rw (marked_pass atoms i h n)

  pub atoms-take : (r : List ℕ) → i < length atoms → get_or atoms i 0 ≡ 1 → r ≡ sets room o (four_bytes i)
      → with_atoms r (o + 4) (i + 1) atoms ≡ with_atoms room o i atoms
  unfolding with_atoms atom_bytes four_bytes
  atoms-take r h n e = sets_next room r o (o + 4) (four_bytes i) (atom_bytes (marked_from (i + 1) atoms)) e refl ∙ rw (← marked-take atoms i h n)

-- ---- the whole table

length_header : (n m : ℕ) → length (header_bytes n m) ≡ header_length
unfolding header_bytes four_bytes
length_header n m = refl

length-records : (rs : List Record) → length (record_bytes rs) ≡ 8 * length rs
unfolding record_bytes four_bytes
length-records [] = refl
length-records (r ∷ rs) = omega (arith, length-records rs)

length-atoms : (xs : List ℕ) → length (atom_bytes xs) ≡ 4 * length xs
unfolding atom_bytes four_bytes
length-atoms [] = refl
length-atoms (x ∷ xs) = omega (arith, length-atoms xs)

-- a table of n names and m atoms has 16 + 8n + 4m bytes
pub length-table : (c : Content) → length (table_of c) ≡ header_length + 8 * length c.records + 4 * length c.atoms
unfolding table_of
length-table c =
    let header = header_bytes (length c.records) (length c.atoms) in
    omega (
      arith,
      length-append (header ++ record_bytes c.records) (atom_bytes c.atoms),
      length-append header (record_bytes c.records),
      length_header (length c.records) (length c.atoms),
      length-records c.records,
      length-atoms c.atoms,
    )

pub table-stored : (l r₁ r₂ r₃ names times atoms : List ℕ) (a b : ℕ)
    → table_room ≤ length l → a ≤ 8 * term_places → b ≤ 4 * last_atom
    → a ≡ 8 * length (marked_from 0 names) → b ≡ 4 * length (marked_from 1 atoms)
    → r₁ ≡ sets l header_length (record_bytes (records_of (marked_from 0 names) (time_at times)))
    → r₂ ≡ sets r₁ (header_length + a) (atom_bytes (marked_from 1 atoms))
    → r₃ ≡ sets r₂ 0 (header_bytes (a / 8) (b / 4))
    → WrittenTable (table_of (given names times atoms)) l r₃ (header_length + a + b)
unfolding table_of given records_of
table-stored l r₁ r₂ r₃ names times atoms a b long ha hb ea eb e₁ e₂ e₃ =
    let rs = records_of (marked_from 0 names) (time_at times) in
    let xs = marked_from 1 atoms in
    let header = header_bytes (a / 8) (b / 4) in
    let k₁ : length rs ≡ length (marked_from 0 names) = rw length-map in
    let n : a / 8 ≡ length rs = omega arith in
    let m : b / 4 ≡ length xs = omega arith in
    let k₂ : header_length + a ≡ header_length + length (record_bytes rs) = omega (arith, length-records rs) in
    let s₂ : r₂ ≡ sets l header_length (record_bytes rs ++ atom_bytes xs) =
    e₂ ∙ sets_next l r₁ header_length (header_length + a) (record_bytes rs) (atom_bytes xs) e₁ k₂ in
    let k₃ : header_length ≡ 0 + length header = omega (arith, length_header (a / 8) (b / 4)) in
    let s₃ : r₃ ≡ sets l 0 (header ++ (record_bytes rs ++ atom_bytes xs)) =
    e₃ ∙ sets_ahead l r₂ 0 header_length (record_bytes rs ++ atom_bytes xs) header s₂ k₃ in
    let t : r₃ ≡ sets l 0 (table_of (given names times atoms)) = rw (append_assoc, ← n, ← m) s₃ in
    let k : header_length + a + b ≡ length (table_of (given names times atoms)) = omega (arith, length-table (given names times atoms)) in
    record {
      count = k;
      fits = omega arith;
      is = t ∙ sets-eq (table_of (given names times atoms)) l 0 (omega arith) ∙ rw (zero-add, k);
    }
