-- The loop over the lines of a text: what is left to read gives the whole answer, and the tape has the words of the lines so far.
-- Assumes nothing.
use Prim.Native.Nat.{ℕ, zero, suc, ◌+◌, ◌-◌, ◌≤◌, ◌<◌}
use mathlib.Core.Path.{◌≡◌, refl, sym, ◌∙◌}
use mathlib.Core.List.{List, [], ◌∷◌, ◌++◌, append_assoc, append-nil}
use native.Mathlib.Omega.{arith}
use Rattle.std.proofs.Math.Nat.{sub-zero}
use borrow.Author.Tests.{eq-eqb, ne_eqb}
use lib.Dec.{eqb}
use lib.ListN.{length, set, length-append}
use lib.Seq.{sets}
use Rattle.basics.specs.Bools.{pick}
use Rattle.faults.specs.Answer.{got, refused}
use Rattle.fields.specs.Reading.{Reading, found, fault, Reader, and_then, ◌>>=◌, ◌>>◌, pure}
use Rattle.basics.proofs.Lists.{sets_before}
use Rattle.fields.specs.Fields.{line_end_of, natural}
use Rattle.fields.specs.inner.Tape.{written, on_tape, listed}
use Rattle.fields.proofs.Taping.{On, wrote, stopped, on_start, on_more}
use Rattle.aspif.specs.declared.lines.Header.{Header}
use Rattle.aspif.specs.Statements.{Statement, Line}
use Rattle.aspif.specs.Grammar.{answer, statement_of, line_of, last_line, lines}
use Rattle.aspif.specs.inner.Words.{words_of, words, all_words, lines_of}
use Rattle.aspif.specs.inner.Kept.{AllSmall, Ahead}
use Rattle.aspif.specs.inner.Values.{taped}
use Rattle.aspif.proofs.Decoding.{lines-back, ahead-back}
use Rattle.aspif.proofs.Kept.{Bytes, lines-small}

-- the words of a line: those of what it says, and in front of them its place and their count
pub line-words : (u : List ℕ) (o place end : ℕ) (ws : List ℕ) {v w : List ℕ} → v ≡ sets u (o + 2) ws → end ≡ o + 2 + length ws
    → w ≡ set (set v o place) (o + 1) (end - (o + 2)) → w ≡ sets u o (place ∷ listed ws)
line-words u o place end ws e n f =
    let k : end - (o + 2) ≡ length ws = omega arith in
    let d : o + 2 ≡ suc (suc o) = omega arith in
    let c : o + 1 ≡ suc o = omega arith in
    rw (f, e, k, d, c, sets_before u (suc (suc o)) o place ws (omega arith), sets_before (set u o place) (suc (suc o)) (suc o) (length ws) ws (omega arith))

-- a line of the type c, which stands at the place, and n more
abbrev line_and : (first : Header) (c place n : ℕ) → Reader (List Line)
line_and first c place n =
    pick (eqb c 0) (last_line first.ends >> pure []) (line_of first.ends c place >>= (λ x. lines first n >>= (λ xs. pure (x ∷ xs))))

-- one turn
one_turn : (first : Header) (n : ℕ) (s : List ℕ) (at : ℕ) → 0 < n → lines first n s at ≡ and_then (natural 3 10 s at) (λ c m. line_and first c at (n - 1) s m)
unfolding lines
one_turn first zero s at h = absurd (omega arith)
one_turn first (suc n) s at h = let d : suc n - 1 ≡ n = omega arith in rw d

-- the lines of an answer behind those of a list
abbrev behind : List Line → Reading (List Line) → Reading (List Line)
behind xs a = and_then a (λ ys m. found (xs ++ ys) m)

behind-none : (a : Reading (List Line)) → a ≡ behind [] a
behind-none (found xs m) = refl
behind-none (fault k p) = refl

behind_one : (xs : List Line) (x : Line) (a : Reading (List Line)) → behind xs (and_then a (λ ys m. found (x ∷ ys) m)) ≡ behind (xs ++ (x ∷ [])) a
behind_one xs x (found ys m) = rw append_assoc
behind_one xs x (fault k p) = refl

all_snoc : (xs : List Line) (x : Line) → all_words (xs ++ (x ∷ [])) ≡ all_words xs ++ words x
all_snoc [] x = append-nil (words x)
all_snoc (y ∷ xs) x = rw (all_snoc xs x) (sym (append_assoc (words y) (all_words xs) (words x)))

-- of n lines, which are the whole answer, k are read, and the others stand from `at` on; the tape u is t with the words of those read
pub record Reached (first : Header) (s : List ℕ) (n : ℕ) (t : List ℕ) (whole : Reading (List Line)) (u : List ℕ) (at o k : ℕ) : Type 0 where
  pub done : List Line
  pub rest : whole ≡ behind done (lines first (n - k) s at)
  pub on : On t 0 (all_words done) u o
  pub count : length done ≡ k
  pub room : o < at

pub reach_start : (first : Header) (s : List ℕ) (n : ℕ) (t : List ℕ) (from : ℕ) → 0 < from → Reached first s n t (lines first n s from) t from 0 0
reach_start first s n t from h =
    record { done = []; rest = rw sub-zero (behind-none (lines first n s from)); on = on_start t 0; count = refl; room = omega arith }

module _ {first : Header} {s : List ℕ} {n : ℕ} {t : List ℕ} {whole : Reading (List Line)} {u : List ℕ} {at o k : ℕ} (r : Reached first s n t whole u at o k) where
  -- the turns run out
  pub none_left : n ≤ k → refused 3 at ≡ answer whole
  unfolding lines
  none_left h = let z : n - k ≡ 0 = omega arith in rw (r.rest, z)

  module _ (l : k < n) where
    turn : whole ≡ behind r.done (and_then (natural 3 10 s at) (λ c m. line_and first c at (n - k - 1) s m))
    turn = r.rest ∙ rw (one_turn first (n - k) s at (omega arith))

    pub type_stops : {i q : ℕ} → fault i q ≡ natural 3 10 s at → refused i q ≡ answer whole
    type_stops e = rw (turn, ← e)

    module _ {c m : ℕ} (e : found c m ≡ natural 3 10 s at) where
      -- the last line
      pub last_stops : {i q : ℕ} → c ≡ 0 → fault i q ≡ last_line first.ends s m → refused i q ≡ answer whole
      last_stops z d = rw (turn, ← e, eq-eqb _ _ z, ← d)

      module _ (from : ℕ) {p : ℕ} (w : whole ≡ lines first n s from) (z : c ≡ 0) (d : found tt p ≡ last_line first.ends s m) (fits : o ≤ length t) (b : Bytes s) where
        all : whole ≡ found r.done p
        all = rw (turn, ← e, eq-eqb _ _ z, ← d, append-nil r.done)

        enough : length (all_words r.done) ≤ length t
        enough = omega (arith, r.on.next)

        small : AllSmall r.done
        small = lines-small s first n from r.done p b (sym all ∙ w)

        pub all_read : (got (record { tape = u; lines = k }) ≡ taped t (answer whole)) × (got (lines_of u k) ≡ answer whole) × Ahead u 0 k
        unfolding taped
        all_read = (
          rw (all, r.on.tape, r.count),
          rw (all, r.on.tape, ← r.count, lines-back r.done t enough small),
          rw (r.on.tape, ← r.count) (ahead-back r.done t enough small),
        )

      -- another line
      pub statement_stops : {i q : ℕ} → (c ≡ 0 → ⊥) → fault i q ≡ on_tape words_of u (o + 2) (statement_of first.ends c at s m) → refused i q ≡ answer whole
      unfolding line_of
      statement_stops z d = rw (turn, ← e, ne_eqb _ _ z, stopped words_of _ _ _ d)

      line-goes : {x : Statement} {p at' : ℕ} → (c ≡ 0 → ⊥) → statement_of first.ends c at s m ≡ found x p → found tt at' ≡ line_end_of first.ends s p
          → whole ≡ behind (r.done ++ (record { place = at; says = x } ∷ [])) (lines first (n - (k + 1)) s at')
      unfolding line_of
      line-goes {x} z d f =
          let y : n - (k + 1) ≡ n - k - 1 = omega arith in
          rw (turn, ← e, ne_eqb _ _ z, d, ← f, y) (behind_one r.done (record { place = at; says = x }) (lines first (n - k - 1) s _))

      module _ {v : List ℕ} {o' p : ℕ} (z : c ≡ 0 → ⊥) (d : found (written v o') p ≡ on_tape words_of u (o + 2) (statement_of first.ends c at s m)) where
        pub end_stops : {i q : ℕ} → fault i q ≡ line_end_of first.ends s p → refused i q ≡ answer whole
        unfolding line_of
        end_stops f = rw (turn, ← e, ne_eqb _ _ z, (wrote words_of _ _ _ d).is, ← f)

        pub reach_more : {w : List ℕ} {at' : ℕ} → found tt at' ≡ line_end_of first.ends s p → w ≡ set (set v o at) (o + 1) (o' - (o + 2)) → o' < at'
            → Reached first s n t whole w at' o' (k + 1)
        reach_more f g h =
            let says = wrote words_of _ _ _ d in
            let x : Line = record { place = at; says = says.value } in
            let more : On t 0 (all_words r.done ++ words x) _ o' = on_more t 0 (all_words r.done) (words x) r.on (line-words u o at o' (words_of says.value) says.tape says.next g) (omega (arith, says.next)) in
            record {
              done = r.done ++ (x ∷ []);
              rest = line-goes z says.is f;
              on = rw (all_snoc r.done x) more;
              count = omega (arith, r.count, length-append r.done (x ∷ []));
              room = h;
            }
