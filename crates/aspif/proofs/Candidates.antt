-- Laws of the candidate's grammar: what each way through the code gives, and what a candidate that was read or refused is. Assumes nothing.
use Prim.Native.Nat.{ℕ, zero, suc, ◌+◌, ◌-◌, ◌*◌, ◌≤◌, ◌<◌}
use mathlib.Core.Path.{◌≡◌, refl, sym, ◌∙◌}
use mathlib.Core.List.{List, [], ◌∷◌, ◌++◌, append_assoc}
use mathlib.Core.Bool.{Bool, true, false, ◌&&◌}
use native.Mathlib.Omega.{arith}
use borrow.Author.Tests.{eq-eqb, ne_eqb, eqb-true, eqb-false, leb-true, leb-false, ltb-true}
use lib.Dec.{eqb, leb, ltb, lit<}
use lib.ListN.{length, get_or, set, replicate, length-set, length-replicate}
use lib.Seq.{get_or-set_same, get_or-set_other}
use Rattle.faults.specs.Limits.{last_atom}
use Rattle.faults.specs.inner.Places.{atom_places}
use Rattle.faults.specs.Answer.{got, refused}
use Rattle.fields.specs.Reading.{Reading, found, fault, is_found, and_then}
use Rattle.fields.specs.declared.LineEnd.TheVariants as by
use Rattle.fields.specs.Fields.{byte_at, byte, line_end, text_end, field, all_digits, is_natural, value, natural}
use Rattle.fields.proofs.Decimal.{value_grows}
use Rattle.fields.proofs.Naturals.{byte-read, byte_missed, there}
use Rattle.fields.proofs.Readers.{natural-within}
use Rattle.aspif.specs.Grammar.{answer}
use Rattle.aspif.specs.Candidate.{sevenfold, atom_above, ending, ascending, candidate_line, candidate}
use Rattle.aspif.specs.inner.Bitmap.{atoms_of, Blank, EndsAt}
use Rattle.basics.specs.Bools.{pick}
use Rattle.basics.proofs.Bitmaps.{marks-none, marks-more}
use Rattle.basics.proofs.Lists.{zeros}

-- ---- a field

-- a natural is refused where it begins
pub natural-fault : (k most : ℕ) (s : List ℕ) (at i p : ℕ) → fault i p ≡ natural k most s at → p ≡ at
unfolding natural
natural-fault k most s at i p = go (is_natural (field s at)) (leb (value 0 (field s at)) most)
  where
    go : (t u : Bool) → fault i p ≡ pick t (pick u (found (value 0 (field s at)) (at + length (field s at))) (fault k at)) (fault 3 at) → p ≡ at
    go true true e = let z : ◌≡◌ {A = ℕ} 0 1 = (cc) in absurd (omega arith)
    go true false e = (cc)
    go false u e = (cc)

-- a natural to 4,096 has at most four digits
pub field-short : (f : List ℕ) → is_natural f ≡ true → value 0 f ≤ last_atom → length f ≤ 4
unfolding is_natural value all_digits
field-short [] h l = omega arith
field-short (a ∷ []) h l = omega arith
field-short (a ∷ b ∷ []) h l = omega arith
field-short (a ∷ b ∷ c ∷ []) h l = omega arith
field-short (a ∷ b ∷ c ∷ d ∷ []) h l = omega arith
field-short (a ∷ b ∷ c ∷ d ∷ e ∷ bs) h l = absurd (go (eqb a 48) refl (leb 48 a) refl (leb a 57) (all_digits (b ∷ c ∷ d ∷ e ∷ bs)) h)
  where
    go : (t : Bool) → eqb a 48 ≡ t → (u : Bool) → leb 48 a ≡ u → (w x : Bool) → pick t false ((u && w) && x) ≡ true → ⊥
    go true p u q w x i = let z : ◌≡◌ {A = ℕ} 0 1 = (cc) in omega arith
    go false p true q w x i =
        omega (arith, eqb-false a 48 p, leb-true 48 a q, value_grows (((((0 * 10 + (a - 48)) * 10 + (b - 48)) * 10 + (c - 48)) * 10 + (d - 48)) * 10 + (e - 48)) bs, l)
    go false p false q w x i = let z : ◌≡◌ {A = ℕ} 0 1 = (cc) in omega arith

natural-short : (k : ℕ) (s : List ℕ) (at v n : ℕ) → found v n ≡ natural k last_atom s at → n ≤ at + 4
unfolding natural
natural-short k s at v n = go (is_natural (field s at)) refl (leb (value 0 (field s at)) last_atom) refl
  where
    go : (t : Bool) → is_natural (field s at) ≡ t → (u : Bool) → leb (value 0 (field s at)) last_atom ≡ u
        → found v n ≡ pick t (pick u (found (value 0 (field s at)) (at + length (field s at))) (fault k at)) (fault 3 at) → n ≤ at + 4
    go true p true q e =
        let b : n ≡ at + length (field s at) = (cc) in
        omega (arith, field-short (field s at) p (leb-true (value 0 (field s at)) last_atom q))
    go true p false q e = let z : ◌≡◌ {A = ℕ} 0 1 = (cc) in absurd (omega arith)
    go false p u q e = let z : ◌≡◌ {A = ℕ} 0 1 = (cc) in absurd (omega arith)

-- what an atom above another is: a fault at its first byte, or a number in its bounds
pub data Above (low : ℕ) (s : List ℕ) (at : ℕ) : Reading ℕ → Type 0 where
  none : Above low s at (fault 7 at)
  some : {v n : ℕ} → low < v → v ≤ last_atom → n ≤ length s → n ≤ at + 4 → Above low s at (found v n)

pub above : (low : ℕ) (s : List ℕ) (at : ℕ) → Above low s at (atom_above low s at)
unfolding atom_above
above low s at = go (natural 7 last_atom s at) refl
  where
    go₂ : (v n : ℕ) → found v n ≡ natural 7 last_atom s at → (t : Bool) → leb v low ≡ t → Above low s at (pick t (fault 7 at) (found v n))
    go₂ v n e true q = none
    go₂ v n e false q = let w = natural-within 7 last_atom s at v n e in some (leb-false v low q) w.0 w.2 (natural-short 7 s at v n e)

    go : (a : Reading ℕ) → a ≡ natural 7 last_atom s at → Above low s at (and_then (sevenfold a) (λ v n. pick (leb v low) (fault 7 at) (found v n)))
    go (found v n) e = go₂ v n e (leb v low) refl
    go (fault k p) e = rw (natural-fault 7 last_atom s at k p e) none

-- ---- the end

-- what the end is: a fault at it or behind it, or nothing more
data Ended (s : List ℕ) (at : ℕ) : Reading Unit → Type 0 where
  more : {p : ℕ} → p ≤ length s → p ≤ at + 2 → Ended s at (fault 7 p)
  over : {n : ℕ} → Ended s at (found tt n)

-- nothing after a line end
closed : (s : List ℕ) (at n : ℕ) → n ≤ at + 2 → Ended s at (sevenfold (text_end s n))
unfolding text_end
closed s at n h = go (ltb n (length s)) refl
  where
    go : (t : Bool) → ltb n (length s) ≡ t → Ended s at (sevenfold (pick t (fault 3 n) (found (tt {0}) n)))
    go true q = more {p = n} (omega (arith, ltb-true n (length s) q)) h
    go false q = over

ended : (s : List ℕ) (at : ℕ) → at ≤ length s → Ended s at (ending s at)
unfolding ending line_end
ended s at l = go (eqb (byte_at s at) 10) (eqb (byte_at s at) 13 && eqb (byte_at s (at + 1)) 10)
  where
    go : (t u : Bool) → Ended s at (sevenfold (and_then (pick t (found by.Feed (at + 1)) (pick u (found by.Return (at + 2)) (fault 3 at))) (λ e n. text_end s n)))
    go true u = closed s at (at + 1) (omega arith)
    go false true = closed s at (at + 2) (omega arith)
    go false false = more l (omega arith)

-- ---- the counter

-- what follows the atom v that ends at m, with n of the counter left
abbrev pub onward : (n : ℕ) → List ℕ → (v m : ℕ) → Reading (List ℕ)
onward n s v m = pick (eqb (byte_at s m) 32) (and_then (ascending n v s (m + 1)) (λ vs l. found (v ∷ vs) l)) (and_then (ending s m) (λ u l. found (v ∷ []) l))

-- one turn
turn : (n low : ℕ) (s : List ℕ) (at : ℕ) → 0 < n → ascending n low s at ≡ and_then (atom_above low s at) (onward (n - 1) s)
unfolding ascending
turn zero low s at h = absurd (omega arith)
turn (suc n) low s at h = let d : suc n - 1 ≡ n = omega arith in rw d

-- above 4,096 there is no atom
ascending-none : (n low : ℕ) (s : List ℕ) (at : ℕ) → last_atom ≤ low → ascending n low s at ≡ fault 7 at
unfolding ascending
ascending-none zero low s at h = refl
ascending-none (suc n) low s at h = go (atom_above low s at) (above low s at)
  where
    go : (a : Reading ℕ) → Above low s at a → and_then a (onward n s) ≡ fault 7 at
    go _ none = refl
    go _ (some l m i j) = absurd (omega arith)

-- the counter never runs out: with as much as the atoms that are left, more of it changes nothing
pub ascending_enough : (n m low : ℕ) (s : List ℕ) (at : ℕ) → last_atom ≤ n + low → last_atom ≤ m + low → ascending n low s at ≡ ascending m low s at
unfolding ascending
ascending_enough zero m low s at h g = sym (ascending-none m low s at (omega arith))
ascending_enough (suc n) zero low s at h g = ascending-none (suc n) low s at (omega arith)
ascending_enough (suc n) (suc m) low s at h g =
    go (λ v i. ascending_enough n m v s (i + 1)) (atom_above low s at) (above low s at)
  where
    go : ((v i : ℕ) → last_atom ≤ n + v → last_atom ≤ m + v → ascending n v s (i + 1) ≡ ascending m v s (i + 1)) → (a : Reading ℕ) → Above low s at a
        → and_then a (onward n s) ≡ and_then a (onward m s)
    go r _ none = refl
    go r _ (some {v} {n = i} l k j w) = rw (r v i (omega arith) (omega arith))

-- ---- the loop

-- the atoms of an answer behind those of a list
abbrev behind : List ℕ → Reading (List ℕ) → Reading (List ℕ)
behind vs a = and_then a (λ ws n. found (vs ++ ws) n)

behind-none : (a : Reading (List ℕ)) → a ≡ behind [] a
behind-none (found ws n) = refl
behind-none (fault k p) = refl

behind-both : (us vs : List ℕ) (a : Reading (List ℕ)) → behind us (behind vs a) ≡ behind (us ++ vs) a
behind-both us vs (found ws n) = rw append_assoc
behind-both us vs (fault k p) = refl

pub above_bounds : (low : ℕ) (s : List ℕ) (at : ℕ) {v n : ℕ} → found v n ≡ atom_above low s at → (low < v) × (v ≤ last_atom)
above_bounds low s at {v} {n} = go (atom_above low s at) (above low s at)
  where
    go : (a : Reading ℕ) → Above low s at a → found v n ≡ a → (low < v) × (v ≤ last_atom)
    go _ none e = let z : ◌≡◌ {A = ℕ} 0 1 = (cc) in absurd (omega arith)
    go _ (some {v = w} l k i j) e =
        let p : v ≡ w = (cc) in
        (omega arith, omega arith)

-- the bitmap after k turns: it holds atoms to low, and with those that are read from a place on they are the whole answer
pub record Marking (s x : List ℕ) (low at k : ℕ) (whole : Reading (List ℕ)) : Type 0 where
  pub places : length x ≡ atom_places
  pub clear : (a : ℕ) → low < a → get_or x a 0 ≡ 0
  pub rest : whole ≡ behind (atoms_of x) (ascending (last_atom - k) low s at)

-- a bitmap of zeros is blank
pub blank_zeros : Blank (replicate atom_places 0)
blank_zeros = record { places = length-replicate {A = ℕ} atom_places 0; clear = zeros atom_places }

pub none_marked : (x : List ℕ) → Blank x → atoms_of x ≡ []
none_marked x b = marks-none x b.clear

pub marking_start : {s x : List ℕ} {at : ℕ} → Blank x → Marking s x 0 at 0 (ascending last_atom 0 s at)
marking_start {s} {x} {at} b =
    record { places = b.places; clear = λ a l. b.clear a; rest = rw (none_marked x b) (behind-none (ascending last_atom 0 s at)) }

module _ {s x : List ℕ} {low at k : ℕ} {whole : Reading (List ℕ)} (h : Marking s x low at k whole) where
  pub marking_out : last_atom ≤ k → refused 7 at ≡ answer whole
  unfolding ascending
  marking_out l = let z : last_atom - k ≡ 0 = omega arith in rw (h.rest, z)

  -- above 4,096 nothing more is read
  pub marking_full : last_atom ≤ low → refused 7 at ≡ answer whole
  marking_full l = rw (h.rest, ascending-none (last_atom - k) low s at l)

  module _ (l : k < last_atom) where
    next : whole ≡ behind (atoms_of x) (and_then (atom_above low s at) (onward (last_atom - k - 1) s))
    next = h.rest ∙ rw (turn (last_atom - k) low s at (omega arith))

    pub marking_stop : {j p : ℕ} → fault j p ≡ atom_above low s at → refused j p ≡ answer whole
    marking_stop e = rw (next, ← e)

    module _ {v m : ℕ} (e : found v m ≡ atom_above low s at) where
      bounds : (low < v) × (v ≤ last_atom)
      bounds = above_bounds low s at e

      marks : atoms_of (set x v 1) ≡ atoms_of x ++ (v ∷ [])
      marks = marks-more x v (omega (arith, h.places, bounds)) (λ a g. h.clear a (omega (arith, bounds)))

      pub marking_open : {i q j p : ℕ} → fault i q ≡ byte 32 s m → fault j p ≡ ending s m → refused j p ≡ answer whole
      marking_open b d = rw (next, ← e, ne_eqb _ _ (byte_missed 32 s m b), ← d)

      pub marking_last : {i q l : ℕ} → fault i q ≡ byte 32 s m → found tt l ≡ ending s m → got (atoms_of (set x v 1)) ≡ answer whole
      marking_last b d = rw (next, ← e, ne_eqb _ _ (byte_missed 32 s m b), ← d, marks)

      -- it is the last
      pub marking_above : EndsAt v (set x v 1)
      marking_above = record {
        places = simp length-set h.places;
        small = bounds.1;
        none = λ a g. rw (get_or-set_other x v a 1 0 (λ d. omega arith), h.clear a (omega (arith, bounds)));
        marked = λ z. rw (get_or-set_same x v 1 0 (omega (arith, h.places, bounds)));
      }

      pub marking_more : {l : ℕ} → found tt l ≡ byte 32 s m → Marking s (set x v 1) v l (k + 1) whole
      marking_more b =
          let r = byte-read 32 s m b in
          let d : last_atom - (k + 1) ≡ last_atom - k - 1 = omega arith in
          rw r.1
          (record {
            places = simp length-set h.places;
            clear = λ a g. get_or-set_other x v a 1 0 (λ d. omega arith) ∙ h.clear a (omega (arith, bounds));
            rest =
                next
                ∙ rw (← e, eq-eqb _ _ r.0, marks, d)
                (behind-both (atoms_of x) (v ∷ []) (ascending (last_atom - k - 1) v s (m + 1)));
          })

-- what marking meets where little else is to be known
pub ruleset marking = (none_marked, above_bounds, marking_start, marking_out, marking_stop, marking_last)

-- ---- what a candidate is

-- strictly ascending above low, to the largest atom
abbrev pub AscendingFrom : (low : ℕ) → List ℕ → Type 0
AscendingFrom low [] = Unit {0}
AscendingFrom low (v ∷ vs) = (low < v) × (v ≤ last_atom) × AscendingFrom v vs

-- a list of atoms that was read from a place of the text: strictly ascending, or a fault by 7 within the text, and not far ahead
data Listed (low far : ℕ) (s : List ℕ) : Reading (List ℕ) → Type 0 where
  good : {vs : List ℕ} {n : ℕ} → AscendingFrom low vs → Listed low far s (found vs n)
  bad : {p : ℕ} → p ≤ length s → p ≤ far → Listed low far s (fault 7 p)

module _ (low far : ℕ) (s : List ℕ) (v : ℕ) (above : low < v) (most : v ≤ last_atom) where
  listed_more : (near : ℕ) → near ≤ far → (a : Reading (List ℕ)) → Listed v near s a → Listed low far s (and_then a (λ vs l. found (v ∷ vs) l))
  listed_more near h _ (good {vs} d) = good {vs = v ∷ vs} (above, most, d)
  listed_more near h _ (bad i j) = bad i (omega arith)

  listed_last : (at : ℕ) → at + 2 ≤ far → (a : Reading (Unit {0})) → Ended s at a → Listed low far s (and_then a (λ u l. found (v ∷ []) l))
  listed_last at h _ (more i j) = bad i (omega arith)
  listed_last at h _ over = good {vs = v ∷ []} (above, most, tt)

listed : (n low : ℕ) (s : List ℕ) (at : ℕ) → at ≤ length s → Listed low (at + 5 * n + 1) s (ascending n low s at)
unfolding ascending
listed zero low s at h = bad h (omega arith)
listed (suc n) low s at h = go (λ v m. listed n v s (m + 1)) (atom_above low s at) (above low s at)
  where
    go₂ : ((v m : ℕ) → m + 1 ≤ length s → Listed v (m + 1 + 5 * n + 1) s (ascending n v s (m + 1))) → (v m : ℕ) → low < v → v ≤ last_atom → m ≤ length s → m ≤ at + 4
        → (t : Bool) → eqb (byte_at s m) 32 ≡ t
        → Listed low (at + 5 * suc n + 1) s (pick t (and_then (ascending n v s (m + 1)) (λ vs l. found (v ∷ vs) l)) (and_then (ending s m) (λ u l. found (v ∷ []) l)))
    go₂ r v m l k i j true q =
        let b = there 32 s m (lit< tt) (eqb-true (byte_at s m) 32 q) in
        listed_more low (at + 5 * suc n + 1) s v l k (m + 1 + 5 * n + 1) (omega arith) _ (r v m (omega arith))
    go₂ r v m l k i j false q = listed_last low (at + 5 * suc n + 1) s v l k m (omega arith) _ (ended s m i)

    go : ((v m : ℕ) → m + 1 ≤ length s → Listed v (m + 1 + 5 * n + 1) s (ascending n v s (m + 1))) → (a : Reading ℕ) → Above low s at a
        → Listed low (at + 5 * suc n + 1) s (and_then a (onward n s))
    go r _ none = bad h (omega arith)
    go r _ (some {v} {n = m} l k i j) = go₂ r v m l k i j (eqb (byte_at s m) 32) refl

atoms-listed : (s : List ℕ) → Listed 0 20481 s (candidate_line s 0)
unfolding candidate_line
atoms-listed s = go (is_found (line_end s 0))
  where
    empty : (a : Reading (Unit {0})) → Ended s 0 a → Listed 0 20481 s (and_then a (λ u n. found [] n))
    empty _ (more i j) = bad i (omega arith)
    empty _ over = good tt

    go : (t : Bool) → Listed 0 20481 s (pick t (and_then (ending s 0) (λ u n. found [] n)) (ascending last_atom 0 s 0))
    go true = empty (ending s 0) (ended s 0 (omega arith))
    go false = listed last_atom 0 s 0 (omega arith)

-- the atoms of a candidate are strictly ascending, from 1 to 4,096
pub candidate-ascending : (s vs : List ℕ) → candidate s ≡ got vs → AscendingFrom 0 vs
unfolding candidate
candidate-ascending s vs = go (candidate_line s 0) (atoms-listed s)
  where
    go : (a : Reading (List ℕ)) → Listed 0 20481 s a → answer a ≡ got vs → AscendingFrom 0 vs
    go _ (good {vs = ws} h) e = let z : vs ≡ ws = (cc) in rw z h
    go _ (bad i j) e = let z : ◌≡◌ {A = ℕ} 0 1 = (cc) in absurd (omega arith)

refused-listed : (s : List ℕ) (k p : ℕ) → candidate s ≡ refused k p → (k ≡ 7) × (p ≤ length s) × (p ≤ 20481)
unfolding candidate
refused-listed s k p = go (candidate_line s 0) (atoms-listed s)
  where
    go : (a : Reading (List ℕ)) → Listed 0 20481 s a → answer a ≡ refused k p → (k ≡ 7) × (p ≤ length s) × (p ≤ 20481)
    go _ (good h) e = let z : ◌≡◌ {A = ℕ} 0 1 = (cc) in absurd (omega arith)
    go _ (bad {p = q} i j) e = let z : q ≡ p = (cc) in ((cc), omega arith, omega arith)

-- a candidate is refused by 7, at a place within it or at its end
pub candidate-place : (s : List ℕ) (k p : ℕ) → candidate s ≡ refused k p → (k ≡ 7) × (p ≤ length s)
candidate-place s k p e = let h = refused-listed s k p e in (h.0, h.1)

-- a candidate is refused within its first 4,096 fields, each of at most four digits and a space, and a line end of two bytes
pub candidate_near : (s : List ℕ) (k p : ℕ) → candidate s ≡ refused k p → p ≤ 20481
candidate_near s k p e = (refused-listed s k p e).2
