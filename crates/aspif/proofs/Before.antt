-- A text, or a candidate, without byte 13 is read and shown as it was when every line was ended by byte 10 alone. Assumes nothing.
use Prim.Native.Nat.{ℕ, zero, suc, ◌+◌}
use mathlib.Core.Path.{◌≡◌, refl, sym, ap}
use mathlib.Core.Bool.{Bool, true, false, ◌||◌}
use mathlib.Core.List.{List, [], ◌∷◌}
use native.Mathlib.Omega.{arith}
use borrow.Author.Tests.{ne_eqb}
use lib.Dec.{eqb}
use lib.ListN.{length, drop}
use Rattle.basics.specs.Bools.{pick}
use Rattle.basics.specs.Lists.{NotIn}
use Rattle.basics.proofs.Bools.{or_none}
use Rattle.faults.specs.Limits.{last_atom}
use Rattle.fields.specs.declared.LineEnd.TheVariants as by
use Rattle.fields.specs.Reading.{Reading, found, fault, Reader, is_found, and_then, ◌>>=◌, ◌>>◌, pure}
use Rattle.fields.specs.Fields.{space, feed, return, byte_at, byte, bytes, text_end, until, ends_line, breaks, breaks_at, line_end, same_end, line_end_of, first_end, ends_of, ends_field, field, is_space, behind_space, field_place, natural, is_forbidden, rest_length, rest, part_from}
use Rattle.aspif.specs.declared.lines.Header.{Header}
use Rattle.aspif.specs.Statements.{Statement}
use Rattle.aspif.specs.Grammar.{opening, comment_line, statement_of, line_of, last_line, lines, no_tag, first_line, plan, answer, statements}
use Rattle.aspif.specs.Candidate.{sevenfold, atom_above, ending, ascending, candidate_line, candidate}
use Rattle.aspif.specs.Before.{up_to, is_separator, field_before, natural_before, behind_before, field_place_before, part_before, comment_before, statement_before, line_before, last_before, lines_before, no_tag_before, first_before, plan_before, ending_before, ascending_before, candidate_line_before, NothingElse}
use Rattle.aspif.proofs.Counter.{and_then-same}

-- ---- bytes

-- without byte 13 no place has it
no_return : (s : List ℕ) → NotIn return s → (i : ℕ) → byte_at s i ≡ return → ⊥
unfolding byte_at
no_return [] h i e = omega arith
no_return (b ∷ bs) h zero e = h.0 (sym e)
no_return (b ∷ bs) h (suc i) e = no_return bs h.1 i e

-- nor has what stands from a place on
not_behind : (at : ℕ) (s : List ℕ) → NotIn return s → NotIn return (drop at s)
not_behind zero s h = h
not_behind (suc at) [] h = h
not_behind (suc at) (b ∷ bs) h = not_behind at bs h.1

-- a test of what follows that goes by its first byte, where that is not 13
until-up_to : (stop : List ℕ → Bool) (ends : ℕ → Bool) → ((b : ℕ) (bs : List ℕ) → eqb b return ≡ false → stop (b ∷ bs) ≡ ends b)
    → (l : List ℕ) → NotIn return l → until stop l ≡ up_to ends l
unfolding until up_to
until-up_to f g e [] h = refl
until-up_to f g e (b ∷ bs) h = rw (e b bs (ne_eqb b return (λ d. h.0 (sym d))), until-up_to f g e bs h.1)

ends-line : (b : ℕ) (bs : List ℕ) → eqb b return ≡ false → ends_line (b ∷ bs) ≡ eqb b feed
unfolding byte_at
ends-line b bs q = rw q (or_none (eqb b feed))

ends-field : (b : ℕ) (bs : List ℕ) → eqb b return ≡ false → ends_field (b ∷ bs) ≡ is_separator b
unfolding byte_at
ends-field b bs q = ap (λ t. eqb b space || t) (ends-line b bs q)

module _ (s : List ℕ) (none : NotIn return s) where
  at_no : (at : ℕ) → eqb (byte_at s at) return ≡ false
  at_no at = ne_eqb (byte_at s at) return (no_return s none at)

  -- a test from a place on
  from : (stop : List ℕ → Bool) (ends : ℕ → Bool) → ((b : ℕ) (bs : List ℕ) → eqb b return ≡ false → stop (b ∷ bs) ≡ ends b)
      → (at : ℕ) → until stop (drop at s) ≡ up_to ends (drop at s)
  from stop ends e at = until-up_to stop ends e (drop at s) (not_behind at s none)

  -- ---- fields

  fields-same : (at : ℕ) → field s at ≡ field_before s at
  unfolding field
  fields-same at = from ends_field is_separator ends-field at

  naturals-same : (k most at : ℕ) → natural k most s at ≡ natural_before k most s at
  unfolding natural
  naturals-same k most at = rw (fields-same at)

  behind-same : (at : ℕ) → behind_space s at ≡ behind_before s at
  unfolding behind_space byte_at
  behind-same at = rw (from is_space (λ b. eqb b space) (λ b bs q. refl) at)

  places_same : (k at : ℕ) → field_place s k at ≡ field_place_before s k at
  unfolding field_place
  places_same zero at = refl
  places_same (suc k) at = rw (behind-same at) (places_same k (behind_before s at))

  -- ---- what is shown

  feeds_only : ends_of s ≡ by.Feed
  unfolding ends_of
  feeds_only = rw (at_no (first_end s))

  part_same : (place : ℕ) → part_from s place ≡ part_before s place
  unfolding part_from byte_at
  part_same place = rw feeds_only (from (breaks by.Feed) (λ b. eqb b feed) (λ b bs q. refl) place)

  -- ---- the text

  -- a line end that is met is a feed
  only-feed : (at : ℕ) → line_end s at ≡ and_then (byte feed s at) (λ u n. found by.Feed n)
  unfolding line_end byte
  only-feed at = rw (at_no at) (go (eqb (byte_at s at) feed))
    where
      go : (t : Bool) → pick t (found by.Feed (at + 1)) (fault 3 at) ≡ and_then (pick t (found (tt {0}) (at + 1)) (fault 3 at)) (λ u n. found by.Feed n)
      go true = refl
      go false = refl

  end_same : (at : ℕ) → line_end_of by.Feed s at ≡ byte feed s at
  unfolding line_end line_end_of byte
  end_same at = rw (at_no at) (go (eqb (byte_at s at) feed))
    where
      go : (t : Bool) → and_then (pick t (found by.Feed (at + 1)) (fault 3 at)) (λ f n. pick (same_end by.Feed f) (found (tt {0}) n) (fault 3 at))
          ≡ pick t (found tt (at + 1)) (fault 3 at)
      go true = refl
      go false = refl

  abbrev feeds : Header
  feeds = record { ends = by.Feed }

  comment-same : (at : ℕ) → comment_line by.Feed s at ≡ comment_before s at
  unfolding comment_line rest rest_length byte_at
  comment-same at =
      and_then-same (byte space s at) _ _ (λ u n e. rw (from (breaks_at 0 by.Feed) is_forbidden (λ b bs q. refl) n))

  statement_same : (k place at : ℕ) → statement_of by.Feed k place s at ≡ statement_before k place s at
  unfolding statement_of
  statement_same k place at =
      same (eqb k 1) _ _ _ refl (same (eqb k 4) _ _ _ refl (same (eqb k 9) _ _ _ refl (last (eqb k 10))))
    where
      same : (t : Bool) (f g h : Reader Statement) → f s at ≡ f s at → g s at ≡ h s at → pick t f g s at ≡ pick t f h s at
      same true f g h d e = d
      same false f g h d e = e

      last : (t : Bool) → pick t (comment_line by.Feed) (λ s at. fault 4 place) s at ≡ pick t comment_before (λ s at. fault 4 place) s at
      last true = comment-same at
      last false = refl

  line_same : (k place at : ℕ) → line_of by.Feed k place s at ≡ line_before k place s at
  unfolding line_of
  line_same k place at =
      rw (statement_same k place at)
      (and_then-same (statement_before k place s at) _ _ (λ x n e. rw (end_same n)))

  last_same : (at : ℕ) → last_line by.Feed s at ≡ last_before s at
  unfolding last_line
  last_same at = rw (end_same at)

  lines_same : (n at : ℕ) → lines feeds n s at ≡ lines_before n s at
  unfolding lines lines_before
  lines_same zero at = refl
  lines_same (suc n) at =
      and_then-same (natural 3 10 s at) _ _ (λ k m e. go (lines_same n) k m (eqb k 0))
    where
      go : ((o : ℕ) → lines feeds n s o ≡ lines_before n s o) → (k m : ℕ) (t : Bool)
          → (pick t (last_line by.Feed >> pure []) (line_of by.Feed k at >>= (λ x. lines feeds n >>= (λ xs. pure (x ∷ xs))))) s m
          ≡ (pick t (last_before >> pure []) (line_before k at >>= (λ x. lines_before n >>= (λ xs. pure (x ∷ xs))))) s m
      go r k m true = rw (last_same m)
      go r k m false = rw (line_same k at m) (and_then-same (line_before k at s m) _ _ (λ x o e. rw (r o)))

  first-same : (at : ℕ) → first_line s at ≡ and_then (first_before s at) (λ u n. found feeds n)
  unfolding first_line no_tag
  first-same at = go (bytes opening s at)
    where
      tag : (n : ℕ) (t : Bool) (a : Reading (Unit {0}))
          → and_then (pick t (fault 4 n) (and_then a (λ u m. found by.Feed m))) (λ e m. found (record { ends = e }) m)
          ≡ and_then (pick t (fault 4 n) a) (λ u m. found feeds m)
      tag n true a = refl
      tag n false (found u m) = refl
      tag n false (fault k p) = refl

      go : (a : Reading (Unit {0}))
          → and_then a (λ u n. and_then (no_tag s n) (λ e m. found (record { ends = e }) m)) ≡ and_then (and_then a (λ u n. no_tag_before s n)) (λ u n. found feeds n)
      go (found u n) = rw (only-feed n) (tag n (eqb (byte_at s n) space) (byte feed s n))
      go (fault k p) = refl

  plan-same : (at : ℕ) → plan s at ≡ plan_before s at
  unfolding plan
  plan-same at = rw (first-same at) (go (first_before s at))
    where
      go : (a : Reading (Unit {0})) → and_then (and_then a (λ u n. found feeds n)) (λ h n. lines h (length s) s n) ≡ and_then a (λ u n. lines_before (length s) s n)
      go (found u n) = lines_same (length s) n
      go (fault k p) = refl

  -- ---- the candidate

  ending-same : (at : ℕ) → ending s at ≡ ending_before s at
  unfolding ending
  ending-same at = rw (only-feed at) (go (byte feed s at))
    where
      go : (a : Reading (Unit {0})) → sevenfold (and_then (and_then a (λ u n. found by.Feed n)) (λ e n. text_end s n)) ≡ sevenfold (and_then a (λ u n. text_end s n))
      go (found u n) = refl
      go (fault k p) = refl

  ascending-same : (n low at : ℕ) → ascending n low s at ≡ ascending_before n low s at
  unfolding ascending ascending_before
  ascending-same zero low at = refl
  ascending-same (suc n) low at =
      and_then-same (atom_above low s at) _ _ (λ v m e. rw (ascending-same n v (m + 1), ending-same m))

  candidate-same : (at : ℕ) → candidate_line s at ≡ candidate_line_before s at
  unfolding candidate_line
  candidate-same at = rw (ending-same at, ascending-same last_atom 0 at, only-feed at) (go (byte feed s at))
    where
      go : (a : Reading (Unit {0}))
          → pick (is_found (and_then a (λ u n. found by.Feed n))) (and_then (ending_before s at) (λ u n. found [] n)) (ascending_before last_atom 0 s at)
          ≡ pick (is_found a) (and_then (ending_before s at) (λ u n. found [] n)) (ascending_before last_atom 0 s at)
      go (found u n) = refl
      go (fault k p) = refl

-- nothing else has changed
pub nothing_else : NothingElse
unfolding statements candidate
nothing_else s none = record {
  fields = fields-same s none;
  places = places_same s none;
  naturals = naturals-same s none;
  text = ap answer (plan-same s none 0);
  atoms = ap answer (candidate-same s none 0);
  part = part_same s none;
}
