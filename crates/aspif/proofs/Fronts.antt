-- A candidate is read from its first 20,482 bytes: what stands behind them changes nothing. Assumes nothing.
use Prim.Native.Nat.{ℕ, zero, suc, ◌+◌, ◌-◌, ◌*◌, ◌≤◌, ◌<◌}
use mathlib.Core.Path.{◌≡◌, refl, sym, ap, ◌∙◌}
use mathlib.Core.List.{List, [], ◌∷◌}
use mathlib.Core.Bool.{Bool, true, false, ◌||◌, ◌&&◌}
use native.Mathlib.Omega.{arith}
use borrow.Author.Tests.{leb-true, ltb-true, ltb-false, lt-ltb, le-ltb}
use lib.Dec.{eqb, leb, ltb}
use lib.ListN.{length, take, drop, length-take}
use lib.Seq.{take_all, take-nil, get_or-take}
use Rattle.faults.specs.Limits.{last_atom}
use Rattle.basics.specs.Bools.{pick}
use Rattle.fields.specs.Reading.{Reading, found, fault, and_then}
use Rattle.fields.specs.declared.LineEnd.TheVariants as by
use Rattle.fields.specs.Fields.{space, ends_line, until, byte_at, line_end, text_end, ends_field, field, is_natural, value, natural}
use Rattle.aspif.specs.Candidate.{sevenfold, atom_above, ending, ascending, candidate_line, candidate}
use Rattle.aspif.proofs.Candidates.{field-short, Above, none, some, above, onward}

-- ---- a field

-- a front from a place on is a front of what stands from there on
drop-front : (at m n : ℕ) (s : List ℕ) → n ≡ at + m → drop at (take n s) ≡ take m (drop at s)
drop-front zero m n s e = let z : n ≡ m = omega arith in rw z
drop-front (suc at) m zero s e = absurd (omega arith)
drop-front (suc at) m (suc n) [] e = sym (take-nil m)
drop-front (suc at) m (suc n) (x ∷ xs) e = drop-front at m n xs (omega arith)

-- a line end is seen from two bytes, and so is what ends a field
pub near_line : (b m : ℕ) (bs : List ℕ) → ends_line (b ∷ take (suc m) bs) ≡ ends_line (b ∷ bs)
unfolding byte_at
near_line b m [] = refl
near_line b m (c ∷ cs) = refl

near_front : (b m : ℕ) (bs : List ℕ) → ends_field (b ∷ take (suc m) bs) ≡ ends_field (b ∷ bs)
unfolding byte_at
near_front b m bs = ap (λ t. eqb b space || t) (near_line b m bs)

-- so a front shows all of a field but perhaps its own last byte
until_front : (m : ℕ) (l : List ℕ) → take m (until ends_field (take (suc m) l)) ≡ take m (until ends_field l)
unfolding until
until_front zero l = refl
until_front (suc m) [] = refl
until_front (suc m) (b ∷ bs) = rw (near_front b m bs) (go (ends_field (b ∷ bs)) (until_front m bs))
  where
    go : (t : Bool) → take m (until ends_field (take (suc m) bs)) ≡ take m (until ends_field bs)
        → take (suc m) (pick t [] (b ∷ until ends_field (take (suc m) bs))) ≡ take (suc m) (pick t [] (b ∷ until ends_field bs))
    go true e = refl
    go false e = ap {B = List ℕ} (λ r. b ∷ r) e

field-front : (s : List ℕ) (at m n : ℕ) → n ≡ at + suc m → take m (field (take n s) at) ≡ take m (field s at)
unfolding field
field-front s at m n e = rw (drop-front at (suc m) n s e) (until_front m (drop at s))

-- lists with the same first m, of which one has no more, are the same
take_short : (m : ℕ) (xs ys : List ℕ) → take m xs ≡ take m ys → length ys < m → xs ≡ ys
take_short m xs ys e h =
    let d : length (take m xs) ≡ length (take m ys) = ap length e in
    sym (take_all m xs (omega (arith, length-take m xs, length-take m ys))) ∙ e ∙ take_all m ys (omega arith)

-- a field of more than four bytes is no atom
above-long : (low : ℕ) (s : List ℕ) (at : ℕ) → 4 < length (field s at) → atom_above low s at ≡ fault 7 at
unfolding atom_above natural
above-long low s at h = go (is_natural (field s at)) refl (leb (value 0 (field s at)) last_atom) refl
  where
    go : (t : Bool) → is_natural (field s at) ≡ t → (u : Bool) → leb (value 0 (field s at)) last_atom ≡ u
        → and_then (sevenfold (pick t (pick u (found (value 0 (field s at)) (at + length (field s at))) (fault 7 at)) (fault 3 at)))
        (λ v n. pick (leb v low) (fault 7 at) (found v n))
        ≡ fault 7 at
    go true p true q = absurd (omega (arith, field-short (field s at) p (leb-true (value 0 (field s at)) last_atom q)))
    go true p false q = refl
    go false p u q = refl

-- an atom is read from its field
above_same : (low : ℕ) (s t : List ℕ) (at : ℕ) → field s at ≡ field t at → atom_above low s at ≡ atom_above low t at
unfolding atom_above natural
above_same low s t at e = rw e

-- ---- the parts of a candidate, each the same in a front that reaches behind it

module _ (n : ℕ) (s : List ℕ) (at : ℕ) where
  -- a byte
  pub byte-front : at < n → byte_at (take n s) at ≡ byte_at s at
  unfolding byte_at
  byte-front h = get_or-take n s at 0 h

  -- an atom: a field that may be cut has more than four bytes in both, and is refused
  above-front : (low : ℕ) → at + 5 < n → atom_above low (take n s) at ≡ atom_above low s at
  above-front low h = go (ltb (length (field s at)) (n - at - 1)) refl
    where
      cut : take (n - at - 1) (field (take n s) at) ≡ take (n - at - 1) (field s at)
      cut = field-front s at (n - at - 1) n (omega arith)

      long : n - at - 1 ≤ length (field s at) → 4 < length (field (take n s) at)
      long l =
          let d : length (take (n - at - 1) (field (take n s) at)) ≡ length (take (n - at - 1) (field s at)) = ap length cut in
          omega (arith, length-take (n - at - 1) (field (take n s) at), length-take (n - at - 1) (field s at))

      go : (t : Bool) → ltb (length (field s at)) (n - at - 1) ≡ t → atom_above low (take n s) at ≡ atom_above low s at
      go true q = above_same low (take n s) s at (take_short (n - at - 1) (field (take n s) at) (field s at) cut (ltb-true (length (field s at)) (n - at - 1) q))
      go false q =
          let l = ltb-false (length (field s at)) (n - at - 1) q in
          above-long low (take n s) at (long l) ∙ sym (above-long low s at (omega arith))

  -- whether there is a byte
  ltb_front : at < n → ltb at (length (take n s)) ≡ ltb at (length s)
  ltb_front h = go (ltb at (length s)) refl
    where
      go : (t : Bool) → ltb at (length s) ≡ t → ltb at (length (take n s)) ≡ t
      go true q = lt-ltb at (length (take n s)) (omega (arith, length-take n s, ltb-true at (length s) q))
      go false q = le-ltb at (length (take n s)) (omega (arith, length-take n s, ltb-false at (length s) q))

-- the end
end_front : (n : ℕ) (s : List ℕ) (at : ℕ) → at < n → text_end (take n s) at ≡ text_end s at
unfolding text_end
end_front n s at h = rw (ltb_front n s at h)

line_end-front : (n : ℕ) (s : List ℕ) (at : ℕ) → at + 1 < n → line_end (take n s) at ≡ line_end s at
unfolding line_end
line_end-front n s at h = rw (byte-front n s at (omega arith), byte-front n s (at + 1) h)

ending-front : (n : ℕ) (s : List ℕ) (at : ℕ) → at + 2 < n → ending (take n s) at ≡ ending s at
unfolding ending line_end
ending-front n s at h = rw (byte-front n s at (omega arith), byte-front n s (at + 1) (omega arith)) (go (eqb (byte_at s at) 10) (eqb (byte_at s at) 13 && eqb (byte_at s (at + 1)) 10))
  where
    go : (t u : Bool)
        → sevenfold (and_then (pick t (found by.Feed (at + 1)) (pick u (found by.Return (at + 2)) (fault 3 at))) (λ e m. text_end (take n s) m))
        ≡ sevenfold (and_then (pick t (found by.Feed (at + 1)) (pick u (found by.Return (at + 2)) (fault 3 at))) (λ e m. text_end s m))
    go true u = rw (end_front n s (at + 1) (omega arith))
    go false true = rw (end_front n s (at + 2) h)
    go false false = refl

-- at most k atoms, each of at most five bytes with the space behind it, and one byte more behind the last
ascending-front : (n : ℕ) (s : List ℕ) (k low at : ℕ) → at + 5 * k + 1 < n → ascending k low (take n s) at ≡ ascending k low s at
unfolding ascending
ascending-front n s zero low at h = refl
ascending-front n s (suc k) low at h =
    rw (above-front n s at low (omega arith)) (go (λ v m. ascending-front n s k v (m + 1)) (atom_above low s at) (above low s at))
  where
    go : ((v m : ℕ) → m + 1 + 5 * k + 1 < n → ascending k v (take n s) (m + 1) ≡ ascending k v s (m + 1)) → (a : Reading ℕ) → Above low s at a
        → and_then a (onward k (take n s)) ≡ and_then a (onward k s)
    go r _ none = refl
    go r _ (some {v} {n = m} i j l w) = rw (byte-front n s m (omega arith), r v m (omega arith), ending-front n s m (omega arith))

-- a candidate and its front of 20,482 bytes or more are read alike
pub candidate-front : (n : ℕ) (s : List ℕ) → 20481 < n → candidate (take n s) ≡ candidate s
unfolding candidate candidate_line
candidate-front n s h = rw (line_end-front n s 0 (omega arith), ending-front n s 0 (omega arith), ascending-front n s last_atom 0 0 (omega arith))
