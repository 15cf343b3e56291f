-- What readers give, where it ends counted in: what is read behind a space stands in the next field of its line. Assumes nothing.
use Prim.Native.Nat.{ℕ, zero, suc, ◌+◌, ◌*◌, ◌<◌}
use mathlib.Core.Path.{◌≡◌, refl, sym, ap, ◌∙◌}
use mathlib.Core.List.{List, [], ◌∷◌}
use mathlib.Core.Bool.{Bool, true, false, ◌||◌}
use mathlib.Core.Logic.{◌⊎◌, inl, inr}
use native.Mathlib.Omega.{arith}
use native.Mathlib.Nat.{add-zero}
use native.Mathlib.Numerals.{add-one}
use borrow.Author.Tests.{eqb-true, eqb-false}
use lib.Dec.{eqb, leb, lit<}
use lib.ListN.{length, drop}
use Rattle.basics.specs.Bools.{pick}
use Rattle.faults.specs.Limits.{last_atom, last_term}
use Rattle.fields.specs.Reading.{Reading, found, fault, Reader, and_then, placed}
use Rattle.fields.specs.Fields.{space, minus_sign, byte_at, byte, until, ends_line, ends_field, field, is_space, behind_space, field_place, is_natural, value, natural, from_one, next, next_natural, negative, integer, next_integer, atom, next_atom, item, items, counted}
use Rattle.fields.specs.declared.Item.{Item}
use Rattle.fields.proofs.LineEnds.{byte_on}
use Rattle.fields.proofs.Naturals.{there}
use Rattle.fields.proofs.Fieldwise.{behind_more, field_last}

-- what is found, and the place after it, have P
pub data Gives {A : Type 0} (P : A → ℕ → Type 0) : Reading A → Type 0 where
  gives : {v : A} {n : ℕ} → P v n → Gives P (found v n)
  stops : {k p : ℕ} → Gives P (fault k p)

-- ---- ways to join readers

module _ {A : Type 0} {P : A → ℕ → Type 0} where
  -- a choice of two readers
  pub gives_either : (t : Bool) (f g : Reader A) {s : List ℕ} {at : ℕ} → Gives P (f s at) → Gives P (g s at) → Gives P (pick t f g s at)
  gives_either true f g h k = h
  gives_either false f g h k = k

  -- a value that is kept unless a test holds
  gives_unless : (t : Bool) (k p : ℕ) (v : A) (n : ℕ) → (t ≡ false → P v n) → Gives P (pick t (fault k p) (found v n))
  gives_unless true k p v n h = stops
  gives_unless false k p v n h = gives (h refl)

  -- a fault's place changes nothing
  gives_placed : (p : ℕ) {a : Reading A} → Gives P a → Gives P (placed p a)
  gives_placed p (gives h) = gives h
  gives_placed p stops = stops

-- what follows from what is found
gives_so : {A : Type 0} {P Q : A → ℕ → Type 0} {a : Reading A} → ((v : A) (n : ℕ) → P v n → Q v n) → Gives P a → Gives Q a
gives_so f (gives {v} {n} h) = gives (f v n h)
gives_so f stops = stops

-- one reader after another
pub gives_then : {A B : Type 0} {P : A → ℕ → Type 0} {Q : B → ℕ → Type 0} {a : Reading A} {f : A → ℕ → Reading B}
    → Gives P a → ((v : A) (n : ℕ) → P v n → Gives Q (f v n)) → Gives Q (and_then a f)
gives_then (gives {v} {n} h) k = k v n h
gives_then stops k = stops

-- one reader after another of which nothing is said
pub gives_after : {A B : Type 0} {Q : B → ℕ → Type 0} (a : Reading A) {f : A → ℕ → Reading B} → ((v : A) (n : ℕ) → Gives Q (f v n)) → Gives Q (and_then a f)
gives_after (found v n) k = k v n
gives_after (fault i p) k = stops

-- ---- the fields of a line

-- a space at n is the one before field k of the line at p
abbrev pub Follows : List ℕ → (p k n : ℕ) → Type 0
Follows s p k n = byte_at s n ≡ space → field_place s k p ≡ n + 1

-- the field behind field k
follows_more : (s : List ℕ) (p k n : ℕ) → Follows s (field_place s k p) 1 n → Follows s p (k + 1) n
unfolding field_place
follows_more s p k n h e = rw (add-one k, field_last s k p) (h e)

-- the bytes of a field that a space ends are those before the first space
first-space : (l : List ℕ) → byte_at l (length (until ends_field l)) ≡ space → until is_space l ≡ until ends_field l
unfolding until byte_at
first-space [] e = refl
first-space (b ∷ bs) e = go (eqb b space) refl (ends_line (b ∷ bs)) (first-space bs) e
  where
    go : (t : Bool) → eqb b space ≡ t → (u : Bool) → (byte_at bs (length (until ends_field bs)) ≡ space → until is_space bs ≡ until ends_field bs)
        → byte_at (b ∷ bs) (length (pick (t || u) [] (b ∷ until ends_field bs))) ≡ space
        → pick t [] (b ∷ until is_space bs) ≡ pick (t || u) [] (b ∷ until ends_field bs)
    go true q u r e = refl
    go false q true r e = absurd (eqb-false b space q e)
    go false q false r e = ap {B = List ℕ} (λ l. b ∷ l) (r e)

-- the next field stands behind the end of this one
field_follows : (s : List ℕ) (at n : ℕ) → n ≡ at + length (field s at) → Follows s at 1 n
unfolding field_place field behind_space
field_follows s at n d e =
    let f = first-space (drop at s) (rw (byte_on s at (length (field s at)), ← d) e) in
    rw f (omega (arith, there space s n (lit< tt) e))

-- ---- readers of a field: the next one stands behind the end of what is found

pub natural_gives : (k most : ℕ) (s : List ℕ) (at : ℕ) → Gives (λ v n. (natural k most s at ≡ found v n) × Follows s at 1 n) (natural k most s at)
unfolding natural
natural_gives k most s at = go (is_natural (field s at)) (leb (value 0 (field s at)) most) refl
  where
    go : (t u : Bool) {a : Reading ℕ} → a ≡ pick t (pick u (found (value 0 (field s at)) (at + length (field s at))) (fault k at)) (fault 3 at)
        → Gives (λ v n. (a ≡ found v n) × Follows s at 1 n) (pick t (pick u (found (value 0 (field s at)) (at + length (field s at))) (fault k at)) (fault 3 at))
    go true true e = gives (e, field_follows s at (at + length (field s at)) refl)
    go true false e = stops
    go false u e = stops

from_one_gives : (k most : ℕ) (s : List ℕ) (at : ℕ) → Gives (λ v n. Follows s at 1 n) (from_one k most s at)
unfolding from_one
from_one_gives k most s at = gives_then (natural_gives 5 most s at) (λ v n h. gives_unless (eqb v 0) k at v n (λ q. h.1))

-- a byte that is no space is passed over
follows_behind : (s : List ℕ) (at n : ℕ) → at < length s → (byte_at s at ≡ space → ⊥) → Follows s (at + 1) 1 n → Follows s at 1 n
unfolding field_place
follows_behind s at n l o h e = sym (behind_more s at l o) ∙ h e

-- w stands for a natural that is read at the place, or for a number below 0
abbrev pub Whole : (high : ℕ) → List ℕ → (at w n : ℕ) → Type 0
Whole high s at w n = ((v : ℕ) × (w ≡ 2 * v) × (natural 5 high s at ≡ found v n)) ⊎ ((v : ℕ) × (w ≡ 2 * v + 1) × (0 < v))

integer_gives : (low high : ℕ) (s : List ℕ) (at : ℕ) → Gives (λ w n. Whole high s at w n × Follows s at 1 n) (integer low high s at)
unfolding integer negative
integer_gives low high s at = go (eqb (byte_at s at) minus_sign) refl
  where
    go : (t : Bool) → eqb (byte_at s at) minus_sign ≡ t
        → Gives (λ w n. Whole high s at w n × Follows s at 1 n) (pick t (negative low s at) (and_then (natural 5 high s at) (λ v n. found (2 * v) n)))
    go true q =
        let m = eqb-true (byte_at s at) minus_sign q in
        gives_then (gives_placed at (natural_gives 5 low s (at + 1))) (λ v n h.
        gives_unless (eqb v 0) 3 at (2 * v + 1) n (λ o.
        (inr (v, refl, omega (arith, eqb-false v 0 o)), follows_behind s at n (there minus_sign s at (lit< tt) m) (λ e. omega arith) h.1)))
    go false q = gives_then (natural_gives 5 high s at) (λ v n h. gives (inl (v, refl, h.0), h.1))

-- ---- readers behind a space

module _ (s : List ℕ) (p : ℕ) where
  -- behind the space before field k, that field is read
  next_gives : {A : Type 0} {P : A → ℕ → Type 0} (r : Reader A) (k at : ℕ) → Follows s p k at → Gives P (r s (field_place s k p)) → Gives P (next r s at)
  unfolding byte
  next_gives {A} {P} r k at h g = go (eqb (byte_at s at) space) refl
    where
      go : (t : Bool) → eqb (byte_at s at) space ≡ t → Gives P (and_then (pick t (found (tt {0}) (at + 1)) (fault 3 at)) (λ u n. r s n))
      go true q = rw (h (eqb-true (byte_at s at) space q)) at g
      go false q = stops

  module _ (k at : ℕ) (h : Follows s p k at) where
    pub next_natural_gives : (j most : ℕ) → Gives (λ v n. (natural j most s (field_place s k p) ≡ found v n) × Follows s p (k + 1) n) (next_natural j most s at)
    unfolding next_natural
    next_natural_gives j most = next_gives (natural j most) k at h (gives_so (λ v n g. (g.0, follows_more s p k n g.1)) (natural_gives j most s (field_place s k p)))

    pub next_atom_gives : (j : ℕ) → Gives (λ v n. Follows s p (k + 1) n) (next_atom j s at)
    unfolding next_atom atom
    next_atom_gives j = next_gives (atom j) k at h (gives_so (λ v n g. follows_more s p k n g) (from_one_gives j last_atom s (field_place s k p)))

    pub next_integer_gives : (low high : ℕ) → Gives (λ w n. Whole high s (field_place s k p) w n × Follows s p (k + 1) n) (next_integer low high s at)
    unfolding next_integer
    next_integer_gives low high =
        next_gives (integer low high) k at h (gives_so (λ w n g. (g.0, follows_more s p k n g.1)) (integer_gives low high s (field_place s k p)))

  -- ---- numbers in fields, one behind the other: terms and elements are both numbered to 1,023

  -- the numbers stand in the fields from k on
  abbrev pub Stand : (k : ℕ) → List ℕ → Type 0
  Stand k [] = Unit {0}
  Stand k (u ∷ us) = ((n : ℕ) × (natural 5 last_term s (field_place s k p) ≡ found u n)) × Stand (k + 1) us

  -- items that are terms, or elements
  module _ (what : Item) (is : (at : ℕ) → item what s at ≡ next_natural 5 last_term s at) where
    items_gives : (n k at : ℕ) → Follows s p k at → Gives (λ us m. Stand k us × Follows s p (k + length us) m) (items what n s at)
    unfolding items
    items_gives zero k at h = gives {v = []} {n = at} (tt, rw add-zero h)
    items_gives (suc n) k at h =
        rw (is at)
        (gives_then (next_natural_gives k at h 5 last_term) (λ u m g.
        gives_then (items_gives n (k + 1) m g.1) (λ us o i.
        let d : k + 1 + length us ≡ k + suc (length us) = omega arith in
        gives (((m, g.0), i.0), rw d at i.1))))

    -- a count in field k, and the numbers behind it
    pub counted_gives : (k at j most : ℕ) → Follows s p k at → Gives (λ us m. Stand (k + 1) us × Follows s p (k + 1 + length us) m) (counted what j most s at)
    unfolding counted
    counted_gives k at j most h = gives_then (next_natural_gives k at h j most) (λ n m g. items_gives n (k + 1) m g.1)
