-- Believed: a timetable, that is its content, its bytes, its bounds, and which bytes are one: docs/RULES.md, 'Timetable bytes'. Assumes nothing.
use Rattle.std.specs.Prelude.{ℕ, zero, suc, ◌+◌, ◌*◌, Bool, true, ◌&&◌, List, [], ◌∷◌, ◌++◌, map, eqb, leb, length}
use Rattle.faults.specs.Limits.{last_atom, last_term}
use Rattle.timetable.specs.Word.{four_bytes, word_at}

-- a record: a name, that is a term number, and its time
pub record Record : Type 0 where
  pub name : ℕ
  pub time : ℕ

-- what a table says: its records and its atoms
pub record Content : Type 0 where
  pub records : List Record
  pub atoms : List ℕ

-- a record for each name, with its time
unfoldable pub records_of : List ℕ → (ℕ → ℕ) → List Record
records_of names time = map (λ (u : ℕ). record { name = u; time = time u }) names

-- ---- the bytes of a content

-- term number and time of each record
unfoldable pub record_bytes : List Record → List ℕ
record_bytes [] = []
record_bytes (r ∷ rs) = four_bytes r.name ++ four_bytes r.time ++ record_bytes rs

-- the number of each atom
unfoldable pub atom_bytes : List ℕ → List ℕ
atom_bytes [] = []
atom_bytes (a ∷ rest) = four_bytes a ++ atom_bytes rest

-- the bytes of the header, and so the offset of the names
abbrev pub header_length : ℕ
header_length = 16

-- count of names n, count of atoms m, offset of names, offset of atoms
unfoldable pub header_bytes : ℕ → ℕ → List ℕ
header_bytes n m = four_bytes n ++ four_bytes m ++ four_bytes header_length ++ four_bytes (header_length + 8 * n)

-- header, then the records, then the atoms
unfoldable pub table_of : Content → List ℕ
table_of c = header_bytes (length c.records) (length c.atoms) ++ record_bytes c.records ++ atom_bytes c.atoms

-- ---- the bounds

-- the largest time
abbrev pub latest : ℕ
latest = 1023000000

-- whether numbers ascend strictly, none below low and none above high
unfoldable pub ascends : ℕ → ℕ → List ℕ → Bool
ascends low high [] = true
ascends low high (x ∷ xs) = leb low x && leb x high && ascends (x + 1) high xs

-- whether no time is above the largest
unfoldable pub times_fit : List Record → Bool
times_fit [] = true
times_fit (r ∷ rs) = leb r.time latest && times_fit rs

-- the names of records
abbrev pub names_of : List Record → List ℕ
names_of rs = map (λ (r : Record). r.name) rs

-- whether term numbers, times and atoms are within their bounds, numbers and atoms ascending; no atom is 0
unfoldable pub within : Content → Bool
within c =
    ascends 0 last_term (names_of c.records) && times_fit c.records && ascends 1 last_atom c.atoms

-- ---- the content that bytes show

-- the header's count of names
abbrev pub name_count : List ℕ → ℕ
name_count s = word_at s 0

-- the header's count of atoms
abbrev pub atom_count : List ℕ → ℕ
atom_count s = word_at s 4

-- k records from p on
unfoldable pub records_at : List ℕ → ℕ → ℕ → List Record
records_at s zero p = []
records_at s (suc k) p = record { name = word_at s p; time = word_at s (p + 4) } ∷ records_at s k (p + 8)

-- k atoms from p on
unfoldable pub atoms_at : List ℕ → ℕ → ℕ → List ℕ
atoms_at s zero p = []
atoms_at s (suc k) p = word_at s p ∷ atoms_at s k (p + 4)

-- the records behind the header, and the atoms behind them
abbrev pub content_of : List ℕ → Content
content_of s =
    record {
      records = records_at s (name_count s) header_length;
      atoms = atoms_at s (atom_count s) (header_length + 8 * name_count s);
    }

-- whether bytes are a timetable: length, offset of names, offset of atoms, bounds
unfoldable pub is_table : List ℕ → Bool
is_table s =
    eqb (length s) (header_length + 8 * name_count s + 4 * atom_count s)
    && eqb (word_at s 8) header_length
    && eqb (word_at s 12) (header_length + 8 * name_count s)
    && within (content_of s)
