-- The lines by their parts: of records and lists the next and the others, of an acceptance and a refusal each part in turn. Assumes nothing.
use Prim.Native.Nat.{ℕ, suc, ◌+◌, ◌-◌, ◌*◌, ◌≤◌, ◌<◌}
use mathlib.Core.Path.{◌≡◌, refl}
use mathlib.Core.List.{List, [], ◌∷◌, ◌++◌, append-nil}
use native.Mathlib.Omega.{arith}
use borrow.Author.Tests.{eq-eqb, ne_eqb}
use lib.Dec.{eqb}
use lib.ListN.{length, get_or, take, drop, drop_of_length-le}
use lib.Seq.{drop-cons}
use Rattle.timetable.specs.Word.{word_at}
use Rattle.basics.specs.Bools.{pick}
use Rattle.timetable.specs.Table.{name_count, atom_count, records_at}
use Rattle.report.specs.Report.{decimal, spaced, two, spaced_all, list_line, record_line, record_lines, accepted_word, refused_word, accepted_lines, refused_lines}
use Rattle.report.specs.inner.Steps.{Put, RoomAt}
use Rattle.report.proofs.Putting.{put_both, fits-first, fits-second}

module _ (t : List ℕ) (n i : ℕ) where
  -- of n records, from record i on: a line, then the others
  pub records-more : i < n
      → record_lines (records_at t (n - i) (16 + 8 * i)) ≡ record_line (record { name = word_at t (16 + 8 * i); time = word_at t (16 + 8 * i + 4) }) ++ record_lines (records_at t (n - (i + 1)) (16 + 8 * (i + 1)))
  unfolding record_lines records_at
  records-more h =
      let left : n - i ≡ suc (n - (i + 1)) = omega arith in
      let next : 16 + 8 * (i + 1) ≡ 16 + 8 * i + 8 = omega arith in
      rw (left, next)

  pub records-none : n ≤ i → record_lines (records_at t (n - i) (16 + 8 * i)) ≡ []
  unfolding record_lines records_at
  records-none h = let none : n - i ≡ 0 = omega arith in rw none

module _ (vs : List ℕ) (i : ℕ) where
  -- a number, then the others
  pub nexts_more : i < length vs → spaced_all (drop i vs) ≡ spaced (get_or vs i 0) ++ spaced_all (drop (i + 1) vs)
  unfolding spaced_all
  nexts_more h = let e : i + 1 ≡ suc i = omega arith in rw (e, drop-cons vs i 0 h)

  pub nexts_none : length vs ≤ i → spaced_all (drop i vs) ≡ []
  unfolding spaced_all
  nexts_none h = rw (drop_of_length-le vs h)

-- an empty line
pub list-none : (vs : List ℕ) → length vs ≡ 0 → list_line vs ≡ 10 ∷ []
unfolding list_line
list-none [] h = refl
list-none (v ∷ vs) h = absurd (omega (arith, h))

-- the first number, the others, the line end
pub list-some : {l : List ℕ} (v : ℕ) (vs : List ℕ) → l ≡ v ∷ vs → list_line l ≡ decimal v ++ spaced_all vs ++ (10 ∷ [])
unfolding list_line
list-some v vs h = rw h

-- ---- an acceptance: the word, the counts, the records

module _ (room a : List ℕ) where
  abbrev counts : List ℕ
  counts = two (name_count room) (atom_count room)

  abbrev records : List ℕ
  records = record_lines (records_at room (name_count room) 16)

  module _ (h : RoomAt (accepted_lines room) a 0) where
    both_fit : RoomAt (accepted_word ++ counts) a 0
    unfolding accepted_lines
    both_fit = fits-first {xs = accepted_word ++ counts} records h

    pub accepted-fits : RoomAt accepted_word a 0
    accepted-fits = fits-first {xs = accepted_word} counts both_fit

    module _ {b : List ℕ} {p : ℕ} (s : Put accepted_word a 0 b p) where
      pub counts_fit : RoomAt counts b p
      counts_fit = fits-second s counts both_fit

      pub records_fit : {d : List ℕ} {q : ℕ} → Put counts b p d q → RoomAt records d q
      unfolding accepted_lines
      records_fit t = fits-second (put_both s t) records h

  pub accepted-put : {b d e : List ℕ} {p q r : ℕ} → Put accepted_word a 0 b p → Put counts b p d q → Put records d q e r → Put (accepted_lines room) a 0 e r
  unfolding accepted_lines
  accepted-put s t u = put_both (put_both s t) u

-- ---- a refusal: the word, number and place, and after 10 the list

module _ (k p : ℕ) (cycle a : List ℕ) where
  abbrev list : List ℕ
  list = pick (eqb k 10) (list_line (take p cycle)) []

  module _ (h : RoomAt (refused_lines k p cycle) a 0) where
    both_here : RoomAt (refused_word ++ two k p) a 0
    unfolding refused_lines
    both_here = fits-first {xs = refused_word ++ two k p} list h

    pub refused-fits : RoomAt refused_word a 0
    refused-fits = fits-first {xs = refused_word} (two k p) both_here

    module _ {b : List ℕ} {o : ℕ} (s : Put refused_word a 0 b o) where
      pub reason-fits : RoomAt (two k p) b o
      reason-fits = fits-second s (two k p) both_here

      pub list-fits : {d : List ℕ} {q : ℕ} → k ≡ 10 → Put (two k p) b o d q → RoomAt (list_line (take p cycle)) d q
      unfolding refused_lines
      list-fits e t = rw (eq-eqb k 10 e) at (fits-second (put_both s t) list h)

  module _ {b d : List ℕ} {o q : ℕ} (s : Put refused_word a 0 b o) (t : Put (two k p) b o d q) where
    pub refused-put : (k ≡ 10 → ⊥) → Put (refused_lines k p cycle) a 0 d q
    unfolding refused_lines
    refused-put n = rw (ne_eqb k 10 n, append-nil (refused_word ++ two k p)) (put_both s t)

    pub list_put : {e : List ℕ} {r : ℕ} → k ≡ 10 → Put (list_line (take p cycle)) d q e r → Put (refused_lines k p cycle) a 0 e r
    unfolding refused_lines
    list_put i u = rw (eq-eqb k 10 i) (put_both (put_both s t) u)
