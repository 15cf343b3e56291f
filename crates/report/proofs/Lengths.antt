-- What is printed of a judged result fits 65,536 bytes: a number has at most 20 digits, and a timetable at most 1,024 names. Assumes nothing.
use Prim.Native.Nat.{ℕ, zero, suc, ◌+◌, ◌*◌, ◌/◌, ◌%◌, ◌≤◌}
use mathlib.Core.Path.{◌≡◌, ◌∙◌}
use mathlib.Core.Bool.{Bool, true, false}
use mathlib.Core.List.{List, [], ◌∷◌, ◌++◌}
use native.Mathlib.Omega.{arith}
use lib.Dec.{eqb, ltb}
use native.Mathlib.Nat.{zero-add}
use lib.Seq.{sets-eq}
use lib.ListN.{length, take, drop, replicate, length-append, length-take}
use Rattle.faults.specs.Limits.{cycle_room, table_room}
use Rattle.faults.specs.inner.Places.{term_places}
use Rattle.basics.specs.Bools.{pick}
use Rattle.faults.specs.Answer.{got}
use Rattle.timetable.specs.Table.{Record, Content, table_of, name_count, atom_count, records_at, within}
use Rattle.timetable.proofs.Bounds.{names-few}
use Rattle.timetable.proofs.Content.{records-length, front-back}
use Rattle.timetable.proofs.Writing.{length-table}
use Rattle.judge.specs.Plan.{Asked, Rooms}
use Rattle.judge.specs.Judged.{refusal, Result, accepting, Judged, impossible, possible, unsupported, supported, breaks, sound, unreadable, judgeable}
use Rattle.judge.proofs.Judgements.{verdicts}
use Rattle.judge.proofs.Tables.{content, content_within, table_got}
use Rattle.report.specs.Report.{digits_to, decimal, spaced, two, spaced_all, list_line, record_line, record_lines, accepted_word, refused_word, accepted_lines, refused_lines, printed, Reported}
use Rattle.report.specs.inner.Steps.{Put, RoomAt, Reportable}

-- ---- the lines

digits_few : (k n : ℕ) → length (digits_to k n) ≤ k
unfolding digits_to
digits_few zero n = omega arith
digits_few (suc k) n = go (ltb n 10) (digits_few k (n / 10))
  where
    go : (t : Bool) → length (digits_to k (n / 10)) ≤ k → length (pick t ((48 + n) ∷ []) (digits_to k (n / 10) ++ ((48 + n % 10) ∷ []))) ≤ suc k
    go true h = omega arith
    go false h = omega (arith, h, length-append (digits_to k (n / 10)) ((48 + n % 10) ∷ []))

two-few : (n m : ℕ) → length (two n m) ≤ 43
two-few n m = omega (arith, digits_few 20 n, digits_few 20 m, length-append (spaced n ++ spaced m) (10 ∷ []), length-append (spaced n) (spaced m))

nexts_few : (vs : List ℕ) → length (spaced_all vs) ≤ 21 * length vs
unfolding spaced_all
nexts_few [] = omega arith
nexts_few (v ∷ vs) = omega (arith, digits_few 20 v, nexts_few vs, length-append (spaced v) (spaced_all vs))

list-few : (vs : List ℕ) → length (list_line vs) ≤ 1 + 21 * length vs
unfolding list_line
list-few [] = omega arith
list-few (v ∷ vs) = omega (arith, digits_few 20 v, nexts_few vs, length-append (decimal v ++ spaced_all vs) (10 ∷ []), length-append (decimal v) (spaced_all vs))

records-few : (rs : List Record) → length (record_lines rs) ≤ 42 * length rs
unfolding record_lines
records-few [] = omega arith
records-few (r ∷ rs) =
    omega (arith, digits_few 20 r.name, digits_few 20 r.time, records-few rs, length-append (record_line r) (record_lines rs), length-append (decimal r.name ++ spaced r.time) (10 ∷ []), length-append (decimal r.name) (spaced r.time))

length_three : (xs ys zs : List ℕ) → length (xs ++ ys ++ zs) ≡ length xs + length ys + length zs
length_three xs ys zs = omega (arith, length-append (xs ++ ys) zs, length-append xs ys)

accepted-few : (room : List ℕ) → name_count room ≤ term_places → length (accepted_lines room) ≤ 65536
unfolding accepted_lines
accepted-few room h =
    let rs = records_at room (name_count room) 16 in
    omega (arith, h, two-few (name_count room) (atom_count room), records-few rs, records-length room (name_count room) 16, length_three accepted_word (two (name_count room) (atom_count room)) (record_lines rs))

second-few : (t : Bool) (p : ℕ) (cycle : List ℕ) → length (pick t (list_line (take p cycle)) []) ≤ 1 + 21 * length cycle
second-few true p cycle = omega (arith, list-few (take p cycle), length-take p cycle)
second-few false p cycle = omega arith

refused-few : (k p : ℕ) (cycle : List ℕ) → length cycle ≤ cycle_room → length (refused_lines k p cycle) ≤ 65536
unfolding refused_lines
refused-few k p cycle h =
    omega (arith, h, two-few k p, second-few (eqb k 10) p cycle, length_three refused_word (two k p) (pick (eqb k 10) (list_line (take p cycle)) []))

-- ---- the names of a timetable

module _ (c : Content) (h : within c ≡ true) (rest : List ℕ) where
  -- their records stand within it
  names-within : 16 + 8 * name_count (table_of c ++ rest) ≤ length (table_of c ++ rest)
  names-within = omega (arith, (front-back c h rest).names, length-table c, length-append (table_of c) rest)

-- ---- a judged result

-- what is printed of it can be written into 65,536 bytes
pub judged-fits : (a : Asked) (b : Rooms) (r : Result) (out : List ℕ) → Judged a b r → length r.rooms.cycle ≤ cycle_room → 65536 ≤ length out
    → Reportable r.verdict r.rooms.room × RoomAt (printed r.verdict r.rooms) out 0
judged-fits a b r out j h n = go j
  where
    of_refusal : (k p : ℕ) → r.verdict ≡ refusal k p → Reportable r.verdict r.rooms.room × RoomAt (printed r.verdict r.rooms) out 0
    of_refusal k p e = rw e (tt, record { fits = omega (arith, n, refused-few k p r.rooms.cycle h) })

    of_table : (c : Content) → within c ≡ true → r ≡ accepting b (got (table_of c)) → Reportable r.verdict r.rooms.room × RoomAt (printed r.verdict r.rooms) out 0
    of_table c w e =
        let rest = drop (length (table_of c)) b.room in
        rw e (names-within c w rest, record { fits = omega (arith, n, accepted-few (table_of c ++ rest) (omega (arith, (front-back c w rest).names, names-few c w))) })

    go : Judged a b r → Reportable r.verdict r.rooms.room × RoomAt (printed r.verdict r.rooms) out 0
    go (unreadable k p e f) = of_refusal k p (verdicts f)
    go (judgeable q e (breaks p f g)) = of_refusal 8 p (verdicts g)
    go (judgeable q e (sound f (unsupported c g i))) = of_refusal 9 c (verdicts i)
    go (judgeable q e (sound f (supported g (impossible cs i l)))) = of_refusal 10 (length cs) (verdicts l)
    go (judgeable q e (sound f (supported g (possible u i ns m l)))) = of_table (content ns u q.atoms) (content_within a b q e u i ns m) (rw (table_got a b q e u i ns m) at l)

-- written from the first place on, it stands before what was there
pub written-whole : {i : Asked} {r : Result} {a b : List ℕ} {n : ℕ} → Judged i (record { room = replicate table_room 0; cycle = replicate cycle_room 0 }) r
    → Put (printed r.verdict r.rooms) a 0 b n → RoomAt (printed r.verdict r.rooms) a 0 → Reported i a b n
written-whole {i} {r} {a} {b} {n} j s f = record {
  result = r;
  judged = j;
  length-is = s.ends ∙ zero-add _;
  bytes = s.is ∙ sets-eq (printed r.verdict r.rooms) a 0 f.fits ∙ rw zero-add;
}
