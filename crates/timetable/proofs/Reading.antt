-- The reader's loops, and the tests of a table in the order of the code.
use Prim.Native.Nat.{ℕ, zero, suc, ◌+◌, ◌*◌, ◌/◌, ◌≤◌, ◌<◌}
use mathlib.Core.Path.{◌≡◌, refl, ap, subst, ◌∙◌}
use mathlib.Core.Bool.{Bool, true, false, ◌&&◌, and-false}
use mathlib.Core.List.{List, map}
use mathlib.Core.Logic.{◌⊎◌, inl, inr}
use native.Mathlib.Omega.{arith}
use borrow.Author.Tests.{eqb-true, eq-eqb, ne_eqb, le-leb, lt-leb}
use lib.Dec.{eqb, leb}
use native.Mathlib.Nat.{add-zero, add_assoc}
use borrow.Rule.Slice.PartMut.{mid_of}
use lib.ListN.{length, get_or, take, drop, length-take, length-drop}
use lib.Seq.{get_or-take, get_or-drop}
use Rattle.std.specs.Simd.{first_chunks}
use Rattle.std.proofs.lemmas.List.{at_drop_more, drop_all}
use Rattle.timetable.specs.inner.Given.{record_read, atom_read}
use Rattle.basics.proofs.Bools.{and_cases}
use Rattle.faults.specs.Answer.{Answer, got, refused}
use Rattle.std.specs.Prelude.{Option, Some, None, [], ◌∷◌, cond}
use Rattle.std.specs.List.{find}
use Rattle.basics.specs.Bools.{pick}
use Rattle.faults.specs.Limits.{last_atom, last_term}
use Rattle.timetable.specs.Word.{word_at}
use Rattle.timetable.specs.Table.{Record, header_length, latest, ascends, times_fit, names_of, within, name_count, atom_count, records_at, atoms_at, content_of, is_table}
use Rattle.timetable.specs.Times.{time_among}

-- ---- records

-- whether records ascend from low on and are within the bounds
unfoldable pub records_left : ℕ → List Record → Bool
records_left low rs = ascends low last_term (names_of rs) && times_fit rs

pub records_end : (low : ℕ) (bs : List (List ℕ)) (i : ℕ) → length bs ≤ i → true ≡ records_left low (map record_read (drop i bs))
unfolding records_left ascends times_fit
records_end low bs i h = rw (drop_all i bs h)

module _ (bs : List (List ℕ)) (i : ℕ) (d : List ℕ) (h : i < length bs) (low x y : ℕ) (e : x ≡ word_at (get_or bs i d) 0) (f : y ≡ word_at (get_or bs i d) 4) where
  records_step : leb low x && leb x last_term && ascends (x + 1) last_term (names_of (map record_read (drop (i + 1) bs))) && (leb y latest && times_fit (map record_read (drop (i + 1) bs)))
      ≡ records_left low (map record_read (drop i bs))
  unfolding records_left ascends times_fit
  records_step = rw (at_drop_more (map record_read) bs i d h, e, f)

  pub records_out : (x < low) ⊎ (((low ≤ x) × (last_term < x)) ⊎ ((low ≤ x) × (x ≤ last_term) × (latest < y))) → false ≡ records_left low (map record_read (drop i bs))
  records_out (inl a) = rw (lt-leb low x a) at records_step
  records_out (inr (inl a)) = rw (le-leb low x a.0, lt-leb x last_term a.1) at records_step
  records_out (inr (inr a)) = rw (le-leb low x a.0, le-leb x last_term a.1, lt-leb y latest a.2, and-false) at records_step

  pub records_on : low ≤ x → x ≤ last_term → y ≤ latest → records_left (x + 1) (map record_read (drop (i + 1) bs)) ≡ records_left low (map record_read (drop i bs))
  unfolding records_left
  records_on a b g = rw (le-leb low x a, le-leb x last_term b, le-leb y latest g) at records_step

-- ---- atoms

-- whether atoms ascend from low on and are within the bounds
unfoldable pub atoms_left : ℕ → List ℕ → Bool
atoms_left low xs = ascends low last_atom xs

pub atoms_end : (low : ℕ) (bs : List (List ℕ)) (i : ℕ) → length bs ≤ i → true ≡ atoms_left low (map atom_read (drop i bs))
unfolding atoms_left ascends
atoms_end low bs i h = rw (drop_all i bs h)

module _ (bs : List (List ℕ)) (i : ℕ) (d : List ℕ) (h : i < length bs) (low x : ℕ) (e : x ≡ word_at (get_or bs i d) 0) where
  atoms_step : leb low x && leb x last_atom && ascends (x + 1) last_atom (map atom_read (drop (i + 1) bs)) ≡ atoms_left low (map atom_read (drop i bs))
  unfolding atoms_left ascends
  atoms_step = rw (at_drop_more (map atom_read) bs i d h, e)

  pub atoms_out : (x < low) ⊎ ((low ≤ x) × (last_atom < x)) → false ≡ atoms_left low (map atom_read (drop i bs))
  atoms_out (inl a) = rw (lt-leb low x a) at atoms_step
  atoms_out (inr a) = rw (le-leb low x a.0, lt-leb x last_atom a.1) at atoms_step

  pub atoms_on : low ≤ x → x ≤ last_atom → atoms_left (x + 1) (map atom_read (drop (i + 1) bs)) ≡ atoms_left low (map atom_read (drop i bs))
  unfolding atoms_left
  atoms_on a b = rw (le-leb low x a, le-leb x last_atom b) at atoms_step

-- ---- the time of a name

-- the answer by the first record of the name
unfoldable pub time_found : ℕ → Option (List ℕ) → Answer ℕ
time_found u None = refused 21 u
time_found u (Some b) = got (word_at b 4)

pub time_first : (u : ℕ) (bs : List (List ℕ)) → time_found u (find (λ b. eqb (word_at b 0) u) bs) ≡ time_among u (map record_read bs)
unfolding time_among time_found
time_first u [] = refl
time_first u (b ∷ bs) = go (eqb (word_at b 0) u) (time_first u bs)
  where
    go : (t : Bool) → time_found u (find (λ c. eqb (word_at c 0) u) bs) ≡ time_among u (map record_read bs)
        → time_found u (cond t (Some b) (find (λ c. eqb (word_at c 0) u) bs)) ≡ pick t (got (word_at b 4)) (time_among u (map record_read bs))
    go true e = refl
    go false e = e

-- ---- the records and atoms of a table, as the code cuts them

-- xs is what s has from p on, as far as n bytes go
Cut : List ℕ → ℕ → List ℕ → ℕ → Type 0
Cut s p xs n = (j : ℕ) → j < n → get_or xs j 0 ≡ get_or s (p + j) 0

word_cut : (s xs : List ℕ) (p n q k : ℕ) → Cut s p xs n → q + 4 ≤ k → k ≤ n → word_at (take k xs) q ≡ word_at s (p + q)
unfolding Cut word_at
word_cut s xs p n q k c h g =
    let a : get_or (take k xs) q 0 ≡ get_or s (p + q) 0 = at_cut q (omega arith) in
    let b : get_or (take k xs) (q + 1) 0 ≡ get_or s (p + q + 1) 0 = at_cut (q + 1) (omega arith) ∙ rw add_assoc in
    let d : get_or (take k xs) (q + 2) 0 ≡ get_or s (p + q + 2) 0 = at_cut (q + 2) (omega arith) ∙ rw add_assoc in
    let e : get_or (take k xs) (q + 3) 0 ≡ get_or s (p + q + 3) 0 = at_cut (q + 3) (omega arith) ∙ rw add_assoc in
    rw (a, b, d, e)
  where
    at_cut : (j : ℕ) → j < k → get_or (take k xs) j 0 ≡ get_or s (p + j) 0
    at_cut j l = get_or-take k xs j 0 l ∙ c j (omega arith)

more_cut : (s xs : List ℕ) (p n k : ℕ) → Cut s p xs (k + n) → Cut s (p + k) (drop k xs) n
unfolding Cut
more_cut s xs p n k c j h = get_or-drop k xs j 0 ∙ c (k + j) (omega arith) ∙ ap (λ (i : ℕ). get_or s i 0) (omega arith)

records_cut : (s xs : List ℕ) (k p : ℕ) → Cut s p xs (8 * k) → map record_read (first_chunks 8 k xs) ≡ records_at s k p
unfolding records_at
records_cut s xs zero p c = refl
records_cut s xs (suc k) p c =
    let n : 8 * suc k ≡ 8 + 8 * k = omega arith in
    let b : Cut s p xs (8 + 8 * k) = rw n at c in
    let x : word_at (take 8 xs) 0 ≡ word_at s (p + 0) = word_cut s xs p (8 + 8 * k) 0 8 b (omega arith) (omega arith) in
    let y : word_at (take 8 xs) 4 ≡ word_at s (p + 4) = word_cut s xs p (8 + 8 * k) 4 8 b (omega arith) (omega arith) in
    rw (x, y, add-zero, records_cut s (drop 8 xs) k (p + 8) (more_cut s xs p (8 * k) 8 b))

atoms_cut : (s xs : List ℕ) (k p : ℕ) → Cut s p xs (4 * k) → map atom_read (first_chunks 4 k xs) ≡ atoms_at s k p
unfolding atoms_at
atoms_cut s xs zero p c = refl
atoms_cut s xs (suc k) p c =
    let n : 4 * suc k ≡ 4 + 4 * k = omega arith in
    let b : Cut s p xs (4 + 4 * k) = rw n at c in
    let x : word_at (take 4 xs) 0 ≡ word_at s (p + 0) = word_cut s xs p (4 + 4 * k) 0 4 b (omega arith) (omega arith) in
    rw (x, add-zero, atoms_cut s (drop 4 xs) k (p + 4) (more_cut s xs p (4 * k) 4 b))

mid_cut : (s : List ℕ) (p n : ℕ) → Cut s p (mid_of p n s) n
unfolding Cut
mid_cut s p n j h = get_or-take n (drop p s) j 0 h ∙ get_or-drop p s j 0

-- the chunks of the part of s from p on that has k records, or k atoms
pub records-shown : (s : List ℕ) (p n k : ℕ) (bs : List (List ℕ)) → p + n ≤ length s → n ≡ 8 * k
    → bs ≡ first_chunks 8 (length (mid_of p n s) / 8) (mid_of p n s) → map record_read bs ≡ records_at s k p
records-shown s p n k bs h e f =
    let l : length (mid_of p n s) / 8 ≡ k = omega (arith, length-take n (drop p s), length-drop p s) in
    rw (f, l) (records_cut s (mid_of p n s) k p (subst (λ (c : ℕ). Cut s p (mid_of p n s) c) e (mid_cut s p n)))

pub atoms-shown : (s : List ℕ) (p n k : ℕ) (bs : List (List ℕ)) → p + n ≤ length s → n ≡ 4 * k
    → bs ≡ first_chunks 4 (length (mid_of p n s) / 4) (mid_of p n s) → map atom_read bs ≡ atoms_at s k p
atoms-shown s p n k bs h e f =
    let l : length (mid_of p n s) / 4 ≡ k = omega (arith, length-take n (drop p s), length-drop p s) in
    rw (f, l) (atoms_cut s (mid_of p n s) k p (subst (λ (c : ℕ). Cut s p (mid_of p n s) c) e (mid_cut s p n)))

-- ---- the tests of a table

pub too_short : (s : List ℕ) → length s < header_length → false ≡ is_table s
unfolding is_table
too_short s h = rw (ne_eqb (length s) (header_length + 8 * name_count s + 4 * atom_count s) (λ e. omega arith))

module _ (s : List ℕ) (n m a b : ℕ) (en : n ≡ word_at s 0) (em : m ≡ word_at s 4) (ea : a ≡ word_at s 8) (eb : b ≡ word_at s 12) where
  tests : eqb (length s) (header_length + 8 * n + 4 * m) && eqb a header_length && eqb b (header_length + 8 * n) && (records_left 0 (records_at s n header_length) && atoms_left 1 (atoms_at s m (header_length + 8 * n))) ≡ is_table s
  unfolding is_table within records_left atoms_left
  tests = rw (en, em, ea, eb)

  pub wrong_shape : (length s ≡ header_length + 8 * n + 4 * m → ⊥)
      ⊎ (((length s ≡ header_length + 8 * n + 4 * m) × (a ≡ header_length → ⊥))
      ⊎ ((length s ≡ header_length + 8 * n + 4 * m) × (a ≡ header_length) × (b ≡ header_length + 8 * n → ⊥)))
      → false ≡ is_table s
  wrong_shape (inl x) = rw (ne_eqb _ _ x) at tests
  wrong_shape (inr (inl x)) = rw (eq-eqb _ _ x.0, ne_eqb _ _ x.1) at tests
  wrong_shape (inr (inr x)) = rw (eq-eqb _ _ x.0, eq-eqb _ _ x.1, ne_eqb _ _ x.2) at tests

  pub right_shape : length s ≡ header_length + 8 * n + 4 * m → a ≡ header_length → b ≡ header_length + 8 * n
      → records_left 0 (records_at s n header_length) && atoms_left 1 (atoms_at s m (header_length + 8 * n)) ≡ is_table s
  right_shape x y z = rw (eq-eqb _ _ x, eq-eqb _ _ y, eq-eqb _ _ z) at tests

-- the tests that a table passed
pub record TestsPassed (s : List ℕ) : Type 0 where
  pub whole : length s ≡ header_length + 8 * name_count s + 4 * atom_count s
  pub first : word_at s 8 ≡ header_length
  pub second : word_at s 12 ≡ header_length + 8 * name_count s
  pub bounds : within (content_of s) ≡ true

pub passed : (s : List ℕ) → is_table s ≡ true → TestsPassed s
unfolding is_table
passed s h =
    let a = eqb (length s) (header_length + 8 * name_count s + 4 * atom_count s) in
    let b = eqb (word_at s 8) header_length in
    let c = eqb (word_at s 12) (header_length + 8 * name_count s) in
    let abc = (and_cases (a && b && c) (within (content_of s)) h).0 in
    let ab = (and_cases (a && b) c abc).0 in
    record {
      whole = eqb-true (length s) (header_length + 8 * name_count s + 4 * atom_count s) (and_cases a b ab).0;
      first = eqb-true (word_at s 8) header_length (and_cases a b ab).1;
      second = eqb-true (word_at s 12) (header_length + 8 * name_count s) (and_cases (a && b) c abc).1;
      bounds = (and_cases (a && b && c) (within (content_of s)) h).1;
    }

pub passes : (s : List ℕ) → TestsPassed s → is_table s ≡ true
unfolding is_table
passes s q = rw (eq-eqb _ _ q.whole, eq-eqb _ _ q.first, eq-eqb _ _ q.second, q.bounds)
