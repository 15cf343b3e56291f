-- A content and its bytes give each other: what is written is read, and what is read was written so.
use Prim.Native.Nat.{ℕ, zero, suc, ◌+◌, ◌*◌, ◌≤◌}
use mathlib.Core.Path.{◌≡◌, refl, sym, ap, ◌∙◌}
use mathlib.Core.Bool.{true}
use mathlib.Core.List.{List, [], ◌∷◌, ◌++◌, append_assoc, append-nil}
use mathlib.Core.Logic.{◌↔◌}
use native.Mathlib.Omega.{arith}
use native.Mathlib.Nat.{add-zero}
use lib.ListN.{length, drop, drop_of_length-le}
use Rattle.faults.specs.Limits.{last_atom, last_term}
use Rattle.faults.specs.inner.Places.{term_places}
use Rattle.timetable.specs.Word.{four_bytes, word_at}
use Rattle.timetable.specs.Table.{Record, Content, record_bytes, atom_bytes, header_length, header_bytes, table_of, ascends, times_fit, names_of, within, name_count, atom_count, records_at, atoms_at, content_of, is_table}
use Rattle.timetable.proofs.Words.{Bytes, word_here, word_next, word_forth}
use Rattle.timetable.proofs.Bounds.{first, few, names-few, first-time, is_within}
use Rattle.timetable.proofs.Writing.{length-table}
use Rattle.timetable.proofs.Reading.{passed, passes}

-- ---- from the content to the bytes and back

record Back (s : List ℕ) (rs : List Record) (p : ℕ) (rest : List ℕ) : Type 0 where
  same : records_at s (length rs) p ≡ rs
  after : drop (p + 8 * length rs) s ≡ rest

records-back : (s : List ℕ) (rs : List Record) (low p : ℕ) (rest : List ℕ)
    → ascends low last_term (names_of rs) ≡ true → times_fit rs ≡ true
    → drop p s ≡ record_bytes rs ++ rest → Back s rs p rest
unfolding records_at record_bytes
records-back s [] low p rest g t e = record { same = refl; after = rw add-zero e }
records-back s (r ∷ rs) low p rest g t e =
    let f = first low last_term r.name (names_of rs) g in
    let h = first-time r rs t in
    let e₁ : drop p s ≡ four_bytes r.name ++ (four_bytes r.time ++ (record_bytes rs ++ rest)) = e ∙ simp append_assoc in
    let e₂ = word_next s p r.name (four_bytes r.time ++ (record_bytes rs ++ rest)) e₁ in
    let z : p + 8 ≡ p + 4 + 4 = omega arith in
    let e₃ : drop (p + 8) s ≡ record_bytes rs ++ rest = rw z (word_next s (p + 4) r.time (record_bytes rs ++ rest) e₂) in
    let b = records-back s rs (r.name + 1) (p + 8) rest f.others h.others e₃ in
    let x : word_at s p ≡ r.name = word_here s p r.name (four_bytes r.time ++ (record_bytes rs ++ rest)) (omega (arith, f.below)) e₁ in
    let y : word_at s (p + 4) ≡ r.time = word_here s (p + 4) r.time (record_bytes rs ++ rest) (omega (arith, h.timely)) e₂ in
    let w : p + 8 * suc (length rs) ≡ p + 8 + 8 * length rs = omega arith in
    record { same = rw (x, y, b.same); after = rw w b.after }

atoms-back : (s xs : List ℕ) (low p : ℕ) → ascends low last_atom xs ≡ true → drop p s ≡ atom_bytes xs → atoms_at s (length xs) p ≡ xs
unfolding atoms_at atom_bytes
atoms-back s [] low p g e = refl
atoms-back s (x ∷ xs) low p g e =
    let f = first low last_atom x xs g in
    let a : word_at s p ≡ x = word_here s p x (atom_bytes xs) (omega (arith, f.below)) e in
    rw (a, atoms-back s xs (x + 1) (p + 4) f.others (word_next s p x (atom_bytes xs) e))

pub record Read (s : List ℕ) (c : Content) : Type 0 where
  pub is : is_table s ≡ true
  pub content : content_of s ≡ c

-- the bytes of a content, and what stands behind them: header and records read back
pub record Front (s : List ℕ) (c : Content) (rest : List ℕ) : Type 0 where
  pub names : name_count s ≡ length c.records
  pub atoms : atom_count s ≡ length c.atoms
  pub first-offset : word_at s 8 ≡ header_length
  pub second-offset : word_at s 12 ≡ header_length + 8 * length c.records
  pub records : records_at s (name_count s) header_length ≡ c.records
  pub after : drop (header_length + 8 * length c.records) s ≡ atom_bytes c.atoms ++ rest

pub front-back : (c : Content) → within c ≡ true → (rest : List ℕ) → Front (table_of c ++ rest) c rest
unfolding table_of header_bytes
front-back c bounds rest =
    let g = is_within c bounds in
    let rs = c.records in
    let xs = c.atoms in
    let n = length rs in
    let m = length xs in
    let s = table_of c ++ rest in
    let k = header_length + 8 * n in
    let hn : n ≤ term_places = names-few c bounds in
    let hm : m ≤ last_atom = omega (arith, few 1 last_atom xs (omega arith) g.atoms) in
    let body = record_bytes rs ++ (atom_bytes xs ++ rest) in
    let e₀ : drop 0 s ≡ four_bytes n ++ (four_bytes m ++ (four_bytes header_length ++ (four_bytes k ++ body))) = simp append_assoc in
    let e₁ : drop 4 s ≡ four_bytes m ++ (four_bytes header_length ++ (four_bytes k ++ body)) = word_next s 0 n _ e₀ in
    let e₂ : drop 8 s ≡ four_bytes header_length ++ (four_bytes k ++ body) = word_next s 4 m _ e₁ in
    let e₃ : drop 12 s ≡ four_bytes k ++ body = word_next s 8 header_length _ e₂ in
    let e₄ : drop header_length s ≡ body = word_next s 12 k _ e₃ in
    let w₀ : word_at s 0 ≡ n = word_here s 0 n _ (omega arith) e₀ in
    let b = records-back s rs 0 header_length (atom_bytes xs ++ rest) g.names g.times e₄ in
    record {
      names = w₀;
      atoms = word_here s 4 m _ (omega arith) e₁;
      first-offset = word_here s 8 header_length _ (omega arith) e₂;
      second-offset = word_here s 12 k _ (omega arith) e₃;
      records = rw w₀ b.same;
      after = b.after;
    }

-- the bytes of a content within the bounds are a table, and show that content
pub read_back : (c : Content) → within c ≡ true → Read (table_of c) c
read_back c bounds =
    let s = table_of c in
    let f : Front s c [] = rw append-nil at (front-back c bounds []) in
    let w = f.names in
    let e : drop (header_length + 8 * length c.records) s ≡ atom_bytes c.atoms = rw append-nil at f.after in
    let a : atoms_at s (atom_count s) (header_length + 8 * name_count s) ≡ c.atoms =
    rw (w, f.atoms) (atoms-back s c.atoms 1 (header_length + 8 * length c.records) (is_within c bounds).atoms e) in
    let same : content_of s ≡ c = rw (f.records, a) in
    record {
      is =
          passes s
          (record {
            whole = omega (arith, length-table c, w, f.atoms);
            first = f.first-offset;
            second = omega (arith, w, f.second-offset);
            bounds = rw same bounds;
          });
      content = same;
    }

-- a table has one content: two within the bounds that have the same bytes are equal
pub one_content : (c d : Content) → within c ≡ true → within d ≡ true → table_of c ≡ table_of d → c ≡ d
one_content c d g h e = sym (read_back c g).content ∙ ap content_of e ∙ (read_back d h).content

-- ---- from the bytes to the content and back

records_forth : (s : List ℕ) → Bytes s → (k p : ℕ) → p + 8 * k ≤ length s → drop p s ≡ record_bytes (records_at s k p) ++ drop (p + 8 * k) s
unfolding records_at record_bytes
records_forth s q zero p h = rw add-zero
records_forth s q (suc k) p h =
    let z : p + 8 * suc k ≡ p + 8 + 8 * k = omega arith in
    let y : p + 4 + 4 ≡ p + 8 = omega arith in
    let e : drop (p + 4) s ≡ four_bytes (word_at s (p + 4)) ++ drop (p + 8) s = word_forth s q (p + 4) (omega arith) ∙ rw y in
    word_forth s q p (omega arith) ∙ rw (e, records_forth s q k (p + 8) (omega arith), z) (simp append_assoc)

atoms_forth : (s : List ℕ) → Bytes s → (k p : ℕ) → p + 4 * k ≡ length s → drop p s ≡ atom_bytes (atoms_at s k p)
unfolding atoms_at atom_bytes
atoms_forth s q zero p h = let l : length s ≤ p = omega arith in drop_of_length-le s l
atoms_forth s q (suc k) p h = word_forth s q p (omega arith) ∙ rw (atoms_forth s q k (p + 4) (omega arith))

-- k records are k
pub records-length : (s : List ℕ) (k p : ℕ) → length (records_at s k p) ≡ k
unfolding records_at
records-length s zero p = refl
records-length s (suc k) p = rw (records-length s k (p + 8))

atoms-length : (s : List ℕ) (k p : ℕ) → length (atoms_at s k p) ≡ k
unfolding atoms_at
atoms-length s zero p = refl
atoms-length s (suc k) p = rw (atoms-length s k (p + 4))

-- a table is the bytes of the content that it shows
written-so : (s : List ℕ) → Bytes s → is_table s ≡ true → s ≡ table_of (content_of s)
unfolding table_of header_bytes
written-so s q h =
    let t = passed s h in
    let n = name_count s in
    let m = atom_count s in
    let rs = records_at s n header_length in
    let xs = atoms_at s m (header_length + 8 * n) in
    let w₀ : drop 0 s ≡ four_bytes n ++ drop 4 s = word_forth s q 0 (omega (arith, t.whole)) in
    let w₁ : drop 4 s ≡ four_bytes m ++ drop 8 s = word_forth s q 4 (omega (arith, t.whole)) in
    let w₂ : drop 8 s ≡ four_bytes header_length ++ drop 12 s = word_forth s q 8 (omega (arith, t.whole)) ∙ rw t.first in
    let w₃ : drop 12 s ≡ four_bytes (header_length + 8 * n) ++ drop header_length s = word_forth s q 12 (omega (arith, t.whole)) ∙ rw t.second in
    let r : drop header_length s ≡ record_bytes rs ++ drop (header_length + 8 * n) s = records_forth s q n header_length (omega (arith, t.whole)) in
    let a : drop (header_length + 8 * n) s ≡ atom_bytes xs = atoms_forth s q m (header_length + 8 * n) (omega (arith, t.whole)) in
    let all : s ≡ four_bytes n ++ (four_bytes m ++ (four_bytes header_length ++ (four_bytes (header_length + 8 * n) ++ (record_bytes rs ++ atom_bytes xs)))) =
    w₀ ∙ ap (λ (l : List ℕ). four_bytes n ++ l) (w₁ ∙ ap (λ (l : List ℕ). four_bytes m ++ l) (w₂ ∙ ap (λ (l : List ℕ). four_bytes header_length ++ l) (w₃ ∙ ap (λ (l : List ℕ). four_bytes (header_length + 8 * n) ++ l) (r ∙ ap (λ (l : List ℕ). record_bytes rs ++ l) a)))) in
    all ∙ rw (records-length s n header_length, atoms-length s m (header_length + 8 * n)) (simp append_assoc)

-- a content within the bounds whose bytes these are
pub record Tabled (s : List ℕ) : Type 0 where
  pub content : Content
  pub bounds : within content ≡ true
  pub bytes : s ≡ table_of content

-- bytes are a table exactly if they are those of a content within the bounds
pub table_exactly : (s : List ℕ) → Bytes s → (is_table s ≡ true) ↔ Tabled s
table_exactly s q = (
  λ h. record { content = content_of s; bounds = (passed s h).bounds; bytes = written-so s q h },
  λ t. rw t.bytes (read_back t.content t.bounds).is,
)
