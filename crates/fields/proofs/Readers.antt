-- What each reader gives: how far its values end, what they keep to, and where its faults stand. Assumes nothing.
use Prim.Native.Nat.{ℕ, zero, suc, ◌+◌, ◌*◌, ◌/◌, ◌%◌, ◌≤◌, ◌<◌}
use mathlib.Core.Path.{◌≡◌, refl}
use mathlib.Core.List.{List, [], ◌∷◌}
use mathlib.Core.Bool.{Bool, true, false, ◌||◌, ◌&&◌}
use native.Mathlib.Omega.{arith}
use borrow.Author.Tests.{eqb-true, eqb-false, leb-true, ltb-true, ltb-false}
use lib.Dec.{eqb, leb, ltb, lit<}
use lib.ListN.{length}
use Rattle.basics.specs.Bools.{pick}
use Rattle.basics.specs.Lists.{All}
use Rattle.faults.specs.Limits.{last_atom, last_term, last_element, most_count, largest_weight}
use Rattle.fields.specs.Reading.{Reading, found, fault, Reader, and_then, placed}
use Rattle.fields.specs.Fields.{space, feed, return, minus_sign, byte_at, byte, bytes, line_end, same_end, line_end_of, text_end, all_positive, field, is_natural, value, natural, next, next_natural, natural_then, negative, integer, next_integer, literal, from_one, atom, next_atom, next_term, next_element, weight_unit, next_weight, premise, char, item, items, counted, string, rest_length, rest}
use Rattle.fields.specs.inner.Kept.{IsAtom, Fits, ByteOf, IsWeight, ItemKept}
use Rattle.fields.specs.declared.Item.{Item}
use Rattle.fields.specs.declared.LineEnd.{LineEnd}
use Rattle.fields.specs.declared.LineEnd.TheVariants as by
use Rattle.fields.proofs.Decimal.{natural-some}
use Rattle.fields.proofs.Naturals.{field-within, there}
use Rattle.fields.proofs.Words.{positive_more}
use Rattle.fields.specs.declared.Item.TheVariants as of

-- the number of a fault that reading gives
abbrev pub ByReading : ℕ → Type 0
ByReading k = (3 ≤ k) × (k ≤ 5)

-- what reading from `at` gives: a value has P, ends at least d bytes on and, if anything was read, within the text;
-- a fault has number 3, 4 or 5, and stands within the text if reading began there
pub data Reads {A : Type 0} (P : A → Type 0) (s : List ℕ) (at d : ℕ) : Reading A → Type 0 where
  finds : {v : A} {n : ℕ} → P v → at + d ≤ n → (at < n → n ≤ length s) → Reads P s at d (found v n)
  stops : {k p : ℕ} → ByReading k → (at ≤ length s → p ≤ length s) → Reads P s at d (fault k p)

-- nothing is said of a value
abbrev pub Any : {A : Type 0} → A → Type 0
Any v = Unit {0}

-- the three numbers
pub by_grammar : ByReading 3
by_grammar = (omega arith, omega arith)

pub by_carried : ByReading 4
by_carried = (omega arith, omega arith)

pub by_bounds : ByReading 5
by_bounds = (omega arith, omega arith)

-- ---- ways to join readers

module _ {A : Type 0} {P : A → Type 0} {s : List ℕ} {at : ℕ} where
  -- a value that is found where reading stands
  pub reads-found : {v : A} → P v → Reads P s at 0 (found v at)
  reads-found h = finds {n = at} h (omega arith) (λ l. absurd (omega arith))

  -- a fault no further on than where reading stands
  pub reads-fault : {d k p : ℕ} → ByReading k → p ≤ at → Reads P s at d (fault k p)
  reads-fault {p = p} b l = stops {p = p} b (λ i. omega arith)

  -- a choice of two answers
  pub reads-pick : {d : ℕ} (t : Bool) {a b : Reading A} → Reads P s at d a → Reads P s at d b → Reads P s at d (pick t a b)
  reads-pick true h k = h
  reads-pick false h k = k

  -- a choice of two readers
  pub reads_either : {d : ℕ} (t : Bool) (f g : Reader A) → Reads P s at d (f s at) → Reads P s at d (g s at) → Reads P s at d (pick t f g s at)
  reads_either true f g h k = h
  reads_either false f g h k = k

  -- a value that is kept unless a test holds
  pub reads_unless : (t : Bool) (k p : ℕ) (v : A) → ByReading k → p ≤ at → (t ≡ false → P v) → Reads P s at 0 (pick t (fault k p) (found v at))
  reads_unless true k p v b l h = reads-fault b l
  reads_unless false k p v b l h = reads-found (h refl)

  -- what was read from a later place, with a fault placed where reading began
  pub reads-placed : (e : ℕ) {from d : ℕ} {a : Reading A} → 0 < d → at + e ≤ from + d → Reads P s from d a → Reads P s at e (placed at a)
  reads-placed e i l (finds {n = n} h j w) = finds {n = n} h (omega arith) (λ q. w (omega arith))
  reads-placed e i l (stops b w) = stops {p = at} b (λ q. q)

  -- what is found ends within the text, if anything was read
  pub reads-ends : {d : ℕ} {a : Reading A} → 0 < d → Reads P s at d a → (v : A) (n : ℕ) → found v n ≡ a → P v × (at + d ≤ n) × (n ≤ length s)
  reads-ends i (finds {v = x} {n = m} h l w) v n e =
      let y : v ≡ x = (cc) in
      let z : n ≡ m = (cc) in
      (rw y h, omega arith, omega (arith, w (omega arith)))
  reads-ends i (stops b w) v n e = let z : ◌≡◌ {A = ℕ} 0 1 = (cc) in absurd (omega arith)

-- what follows from what is read, and from reading that far
pub reads_so : {A : Type 0} {P Q : A → Type 0} {s : List ℕ} {at d e : ℕ} {a : Reading A} → ((v : A) → P v → Q v) → e ≤ d → Reads P s at d a → Reads Q s at e a
reads_so f l (finds {v} {n} h i w) = finds {n = n} (f v h) (omega arith) w
reads_so f l (stops b w) = stops b w

-- what is read on from where reading had come to
module _ {A : Type 0} {P : A → Type 0} {s : List ℕ} {at n : ℕ} (d : ℕ) (far : at + d ≤ n) (near : at < n → n ≤ length s) where
  onward : {e : ℕ} {a : Reading A} → Reads P s n e a → Reads P s at (d + e) a
  onward (finds {n = m} h l w) = finds {n = m} h (omega arith) (go (ltb n m) refl)
    where
      go : (t : Bool) → ltb n m ≡ t → at < m → m ≤ length s
      go true q i = w (ltb-true n m q)
      go false q i = let g = ltb-false n m q in omega (arith, near (omega arith))
  onward (stops {p = p} b w) = stops {p = p} b (λ i. w (go (ltb at n) refl i))
    where
      go : (t : Bool) → ltb at n ≡ t → at ≤ length s → n ≤ length s
      go true q i = near (ltb-true at n q)
      go false q i = omega (arith, ltb-false at n q)

-- one reader after another
pub reads_then : {A B : Type 0} {P : A → Type 0} {Q : B → Type 0} {s : List ℕ} {at d e : ℕ} {a : Reading A} {f : A → ℕ → Reading B}
    → Reads P s at d a → ((v : A) (n : ℕ) → P v → at + d ≤ n → Reads Q s n e (f v n)) → Reads Q s at (d + e) (and_then a f)
reads_then {d = d} (finds {v} {n} h l w) k = onward d l w (k v n h l)
reads_then (stops b w) k = stops b w

-- ---- bytes

pub byte_reads : (b : ℕ) → 0 < b → (s : List ℕ) (at : ℕ) → Reads Any s at 1 (byte b s at)
unfolding byte
byte_reads b h s at = go (eqb (byte_at s at) b) refl
  where
    go : (t : Bool) → eqb (byte_at s at) b ≡ t → Reads {A = Unit {0}} Any s at 1 (pick t (found tt (at + 1)) (fault 3 at))
    go true q = finds {n = at + 1} tt (omega arith) (λ l. omega (arith, there b s at h (eqb-true (byte_at s at) b q)))
    go false q = reads-fault by_grammar (omega arith)

pub bytes-reads : (bs : List ℕ) → all_positive bs ≡ true → (s : List ℕ) (at : ℕ) → Reads Any s at (length bs) (bytes bs s at)
unfolding bytes
bytes-reads [] h s at = reads-found tt
bytes-reads (b ∷ bs) h s at =
    let p = positive_more (b ∷ bs) 0 (omega arith) h in
    reads_so (λ v i. i) (omega arith) (reads_then (byte_reads b p.0 s at) (λ v n i l. bytes-reads bs p.1 s n))

pub line_end-reads : (s : List ℕ) (at : ℕ) → Reads Any s at 1 (line_end s at)
unfolding line_end
line_end-reads s at = go (eqb (byte_at s at) feed) refl (eqb (byte_at s at) return) (eqb (byte_at s (at + 1)) feed) refl
  where
    go : (t : Bool) → eqb (byte_at s at) feed ≡ t → (u w : Bool) → eqb (byte_at s (at + 1)) feed ≡ w
        → Reads Any s at 1 (pick t (found by.Feed (at + 1)) (pick (u && w) (found by.Return (at + 2)) (fault 3 at)))
    go true p u w q = finds {n = at + 1} tt (omega arith) (λ l. omega (arith, there feed s at (lit< tt) (eqb-true (byte_at s at) feed p)))
    go false p true true q = finds {n = at + 2} tt (omega arith) (λ l. omega (arith, there feed s (at + 1) (lit< tt) (eqb-true (byte_at s (at + 1)) feed q)))
    go false p true false q = reads-fault by_grammar (omega arith)
    go false p false w q = reads-fault by_grammar (omega arith)

pub line_end_of-reads : (e : LineEnd) (s : List ℕ) (at : ℕ) → Reads Any s at 1 (line_end_of e s at)
unfolding line_end_of
line_end_of-reads e s at =
    reads_so (λ v i. i) (omega arith) (reads_then (line_end-reads s at) (λ f n i l. reads-pick (same_end e f) (reads-found tt) (reads-fault by_grammar (omega arith))))

pub text_end-reads : (s : List ℕ) (at : ℕ) → Reads Any s at 0 (text_end s at)
unfolding text_end
text_end-reads s at = reads_unless (ltb at (length s)) 3 at tt by_grammar (omega arith) (λ q. tt)

-- ---- naturals

pub natural-reads : (k most : ℕ) → ByReading k → (s : List ℕ) (at : ℕ) → Reads (λ v. v ≤ most) s at 1 (natural k most s at)
unfolding natural
natural-reads k most b s at = go (is_natural (field s at)) refl (leb (value 0 (field s at)) most) refl
  where
    go : (t : Bool) → is_natural (field s at) ≡ t → (u : Bool) → leb (value 0 (field s at)) most ≡ u
        → Reads (λ v. v ≤ most) s at 1 (pick t (pick u (found (value 0 (field s at)) (at + length (field s at))) (fault k at)) (fault 3 at))
    go true p true q =
        let l = natural-some (field s at) p in
        finds {n = at + length (field s at)} (leb-true (value 0 (field s at)) most q) (omega arith) (field-within s at (at + length (field s at)) refl)
    go true p false q = reads-fault b (omega arith)
    go false p u q = reads-fault by_grammar (omega arith)

-- a space, and what is read after it
pub next-reads : {A : Type 0} {P : A → Type 0} {d : ℕ} (p : Reader A) (s : List ℕ) (at : ℕ) → ((n : ℕ) → Reads P s n d (p s n)) → Reads P s at (1 + d) (next p s at)
next-reads p s at h = reads_then (byte_reads space (lit< tt) s at) (λ v n i l. h n)

pub next_natural-reads : (k most : ℕ) → ByReading k → (s : List ℕ) (at : ℕ) → Reads (λ v. v ≤ most) s at 2 (next_natural k most s at)
unfolding next_natural
next_natural-reads k most b s at = next-reads (natural k most) s at (natural-reads k most b s)

pub natural_then-reads : (k most b : ℕ) → ByReading k → 0 < b → (s : List ℕ) (at : ℕ) → Reads (λ v. v ≤ most) s at 3 (natural_then k most b s at)
unfolding natural_then
natural_then-reads k most b h i s at =
    reads_then (next_natural-reads k most h s at) (λ v n l j. reads_then (byte_reads b i s n) (λ u m q w. reads-found l))

pub from_one-reads : (k most : ℕ) → ByReading k → (s : List ℕ) (at : ℕ) → Reads (λ v. (0 < v) × (v ≤ most)) s at 1 (from_one k most s at)
unfolding from_one
from_one-reads k most b s at =
    reads_then (natural-reads 5 most by_bounds s at) (λ v n h l.
    reads_unless (eqb v 0) k at v b (omega arith) (λ q. (omega (arith, eqb-false v 0 q), h)))

-- a natural that was read, whatever number refuses it beyond
pub natural-within : (k most : ℕ) (s : List ℕ) (at v n : ℕ) → found v n ≡ natural k most s at → (v ≤ most) × (at < n) × (n ≤ length s)
unfolding natural
natural-within k most s at v n e =
    let h = reads-ends (lit< tt) (natural-reads 5 most by_bounds s at) v n (same (is_natural (field s at)) (leb (value 0 (field s at)) most) _ _ e) in
    (h.0, omega arith, h.2)
  where
    same : (t u : Bool) (x m : ℕ) → found v n ≡ pick t (pick u (found x m) (fault k at)) (fault 3 at) → found v n ≡ pick t (pick u (found x m) (fault 5 at)) (fault 3 at)
    same true true x m e = e
    same true false x m e = let z : ◌≡◌ {A = ℕ} 0 1 = (cc) in absurd (omega arith)
    same false u x m e = e

pub next_natural-within : (k most : ℕ) (s : List ℕ) (at v n : ℕ) → found v n ≡ next_natural k most s at → (v ≤ most) × (at + 1 < n) × (n ≤ length s)
unfolding next_natural
next_natural-within k most s at v n = go (byte_reads space (lit< tt) s at)
  where
    go : {a : Reading Unit} → Reads Any s at 1 a → found v n ≡ and_then a (λ u m. natural k most s m) → (v ≤ most) × (at + 1 < n) × (n ≤ length s)
    go (finds {n = m} i l w) e = let h = natural-within k most s m v n e in (h.0, omega arith, h.2)
    go (stops b w) e = let z : ◌≡◌ {A = ℕ} 0 1 = (cc) in absurd (omega arith)

-- ---- integers and literals

pub integer-reads : (low high : ℕ) (s : List ℕ) (at : ℕ) → Reads (Fits low high) s at 1 (integer low high s at)
unfolding integer negative
integer-reads low high s at =
    reads-pick (eqb (byte_at s at) minus_sign)
    (reads_then (reads-placed 1 (lit< tt) (omega arith) (natural-reads 5 low by_bounds s (at + 1))) (λ v n h l.
    reads_unless (eqb v 0) 3 at (2 * v + 1) by_grammar (omega arith) (λ q. record { even = λ e. absurd (omega arith); odd = λ o. (omega (arith, eqb-false v 0 q), omega arith) })))
    (reads_then (natural-reads 5 high by_bounds s at) (λ v n h l.
    reads-found (record { even = λ e. omega arith; odd = λ o. absurd (o (omega arith)) })))

pub next_integer-reads : (low high : ℕ) (s : List ℕ) (at : ℕ) → Reads (Fits low high) s at 2 (next_integer low high s at)
unfolding next_integer
next_integer-reads low high s at = next-reads (integer low high) s at (integer-reads low high s)

-- the atom of an integer other than 0
fits-atom : (w : ℕ) → Fits last_atom last_atom w → (w ≡ 0 → ⊥) → IsAtom (w / 2)
fits-atom w f h = go (eqb (w % 2) 0) refl
  where
    go : (t : Bool) → eqb (w % 2) 0 ≡ t → IsAtom (w / 2)
    go true q = let e = eqb-true (w % 2) 0 q in (omega arith, f.even e)
    go false q = f.odd (eqb-false (w % 2) 0 q)

pub literal-reads : (s : List ℕ) (at : ℕ) → Reads (λ w. IsAtom (w / 2)) s at 1 (literal s at)
unfolding literal
literal-reads s at =
    reads_then (integer-reads last_atom last_atom s at) (λ w n f l.
    reads_unless (eqb w 0) 5 at w by_bounds (omega arith) (λ q. fits-atom w f (eqb-false w 0 q)))

-- ---- the three countings

pub atom-reads : (k : ℕ) → ByReading k → (s : List ℕ) (at : ℕ) → Reads IsAtom s at 1 (atom k s at)
unfolding atom
atom-reads k = from_one-reads k last_atom

pub next_atom-reads : (k : ℕ) → ByReading k → (s : List ℕ) (at : ℕ) → Reads IsAtom s at 2 (next_atom k s at)
unfolding next_atom
next_atom-reads k b s at = next-reads (atom k) s at (atom-reads k b s)

pub next_term-reads : (s : List ℕ) (at : ℕ) → Reads (λ u. u ≤ last_term) s at 2 (next_term s at)
unfolding next_term
next_term-reads = next_natural-reads 5 last_term by_bounds

pub next_element-reads : (s : List ℕ) (at : ℕ) → Reads (λ v. v ≤ last_element) s at 2 (next_element s at)
unfolding next_element
next_element-reads = next_natural-reads 5 last_element by_bounds

-- ---- a literal and its weight

pub next_literal-reads : (s : List ℕ) (at : ℕ) → Reads (λ w. IsAtom (w / 2)) s at 2 (next literal s at)
next_literal-reads s at = next-reads literal s at (literal-reads s)

pub next_weight-reads : (s : List ℕ) (at : ℕ) → Reads IsWeight s at 2 (next_weight s at)
unfolding next_weight
next_weight-reads s at = next-reads (from_one 5 largest_weight) s at (from_one-reads 5 largest_weight by_bounds s)

-- a literal and a weight that were read
pub next_literal-within : (s : List ℕ) (at w n : ℕ) → found w n ≡ next literal s at → w / 2 ≤ last_atom
next_literal-within s at w n e = (reads-ends (lit< tt) (next_literal-reads s at) w n e).0.1

pub next_weight-within : (s : List ℕ) (at w n : ℕ) → found w n ≡ next_weight s at → w ≤ largest_weight
next_weight-within s at w n e = (reads-ends (lit< tt) (next_weight-reads s at) w n e).0.1

-- the word of both says each
pub premise_parts : (l w : ℕ) → IsAtom (l / 2) → ((weight_unit * w + l) % weight_unit ≡ l) × ((weight_unit * w + l) / weight_unit ≡ w)
premise_parts l w h = (omega (arith, h.1), omega (arith, h.1))

pub premise-reads : (s : List ℕ) (at : ℕ) → Reads (ItemKept s of.Premise) s at 4 (premise s at)
unfolding premise
premise-reads s at =
    reads_then (next_literal-reads s at) (λ l n h i.
    reads_then (next_weight-reads s n) (λ w m g j.
    let p = premise_parts l w h in reads-found (rw p.0 h, rw p.1 g)))

-- ---- counted lists and strings

pub char-reads : (s : List ℕ) (at : ℕ) → Reads (ByteOf s) s at 1 (char s at)
unfolding char
char-reads s at = go (eqb (byte_at s at) 0) refl
  where
    go : (t : Bool) → eqb (byte_at s at) 0 ≡ t → Reads (ByteOf s) s at 1 (pick (t || eqb (byte_at s at) feed) (fault 3 at) (found (byte_at s at) (at + 1)))
    go true q = reads-fault by_grammar (omega arith)
    go false q =
        let h : 0 < byte_at s at = omega (arith, eqb-false (byte_at s at) 0 q) in
        reads-pick (eqb (byte_at s at) feed) (reads-fault by_grammar (omega arith))
        (finds {n = at + 1} (at, refl, h) (omega arith) (λ l. omega (arith, there (byte_at s at) s at h refl)))

pub item-reads : (what : Item) (s : List ℕ) (at : ℕ) → Reads (ItemKept s what) s at 1 (item what s at)
unfolding item
item-reads of.Atom s at = reads_so (λ v h. h) (omega arith) (next_atom-reads 5 by_bounds s at)
item-reads of.Literal s at = reads_so (λ v h. h) (omega arith) (next_literal-reads s at)
item-reads of.Premise s at = reads_so (λ v h. h) (omega arith) (premise-reads s at)
item-reads of.Term s at = reads_so (λ v h. h) (omega arith) (next_term-reads s at)
item-reads of.Element s at = reads_so (λ v h. h) (omega arith) (next_element-reads s at)
item-reads of.Char s at = char-reads s at

-- an item that was read
pub item-within : (what : Item) (s : List ℕ) (at x n : ℕ) → found x n ≡ item what s at → (at < n) × (n ≤ length s)
item-within what s at x n e = let h = reads-ends (lit< tt) (item-reads what s at) x n e in (omega arith, h.2)

pub items-reads : (what : Item) (n : ℕ) (s : List ℕ) (at : ℕ) → Reads (λ xs. All (ItemKept s what) xs × (length xs ≡ n)) s at n (items what n s at)
unfolding items
items-reads what zero s at = reads-found (tt, refl)
items-reads what (suc n) s at =
    reads_so (λ xs h. h) (omega arith)
    (reads_then (item-reads what s at) (λ x m h l.
    reads_then (items-reads what n s m) (λ xs i hs j.
    reads-found ((h, hs.0), omega arith))))

pub counted-reads : (what : Item) (k most : ℕ) → ByReading k → (s : List ℕ) (at : ℕ) → Reads (λ xs. All (ItemKept s what) xs × (length xs ≤ most)) s at 2 (counted what k most s at)
unfolding counted
counted-reads what k most b s at =
    reads_then {e = 0} (next_natural-reads k most b s at) (λ n m h l.
    reads_so (λ xs i. (i.0, omega arith)) (omega arith) (items-reads what n s m))

pub string-reads : (s : List ℕ) (at : ℕ) → Reads (λ bs. All (ByteOf s) bs × (length bs ≤ most_count)) s at 3 (string s at)
unfolding string
string-reads s at =
    reads_then {e = 0} (natural_then-reads 5 most_count space by_bounds (lit< tt) s at) (λ n m h l.
    reads_so (λ bs i. (i.0, omega arith)) (omega arith) (items-reads of.Char n s m))

pub rest-reads : (e : LineEnd) (s : List ℕ) (at : ℕ) → Reads (All (ByteOf s)) s at 0 (rest e s at)
unfolding rest
rest-reads e s at = reads_so (λ bs h. h.0) (omega arith) (items-reads of.Char (rest_length e s at) s at)

-- what the files number and tape of src take of these
pub ruleset within = (natural-within, next_natural-within, next_literal-within, next_weight-within, item-within)
