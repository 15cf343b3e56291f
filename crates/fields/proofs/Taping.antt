-- Laws of the tape: words that were written, and what it says of the reading. Assumes nothing.
use Prim.Native.Nat.{ℕ, zero, suc, ◌+◌, ◌≤◌, ◌<◌}
use mathlib.Core.Path.{◌≡◌, refl, sym}
use mathlib.Core.List.{List, [], ◌∷◌, ◌++◌}
use native.Mathlib.Omega.{arith}
use native.Mathlib.Nat.{add-zero}
use native.Mathlib.Numerals.{add-one}
use lib.ListN.{length, set, length-append}
use lib.Seq.{sets}
use Rattle.basics.specs.Lists.{All}
use Rattle.basics.proofs.Lists.{sets_append}
use Rattle.fields.specs.Reading.{Reading, found, fault, and_then}
use Rattle.fields.specs.Fields.{item, items}
use Rattle.fields.specs.inner.Kept.{ItemKept}
use Rattle.fields.specs.inner.Tape.{written, on_tape, bare, listed}
use Rattle.fields.specs.declared.Item.{Item}
use Rattle.fields.proofs.Readers.{Reads, finds, stops, items-reads}

-- ---- reading n items

-- a word in front of the words of an answer, and that word stored first
on_tape-cons : (t : List ℕ) (o x : ℕ) (a : Reading (List ℕ))
    → on_tape bare t o (and_then a (λ xs n. found (x ∷ xs) n)) ≡ on_tape bare (set t o x) (o + 1) a
unfolding on_tape
on_tape-cons t o x (found xs n) =
    let e : o + suc (length xs) ≡ o + 1 + length xs = omega arith in
    rw (e, add-one)
on_tape-cons t o x (fault k p) = refl

module _ (what : Item) (s : List ℕ) (at : ℕ) (t : List ℕ) (o : ℕ) where
  pub items-none : (left : ℕ) → left ≤ 0 → found (written t o) at ≡ on_tape bare t o (items what left s at)
  unfolding items on_tape
  items-none left h = let e : left ≡ 0 = omega arith in rw (e, add-zero)

  pub items_more : (left rest x n : ℕ) → left ≡ suc rest → found x n ≡ item what s at
      → on_tape bare (set t o x) (o + 1) (items what rest s n) ≡ on_tape bare t o (items what left s at)
  unfolding items
  items_more left rest x n d e = rw (d, ← e) (sym (on_tape-cons t o x (items what rest s n)))

  pub items_stop : (left k q : ℕ) → 0 < left → fault k q ≡ item what s at → fault k q ≡ on_tape bare t o (items what left s at)
  unfolding items on_tape
  items_stop zero k q h e = absurd (omega arith)
  items_stop (suc l) k q h e = rw (← e)

-- ---- a list behind its count

-- the count stored, and the items behind it
pub counted-items : (what : Item) (n : ℕ) (s : List ℕ) (at : ℕ) (t : List ℕ) (o : ℕ)
    → on_tape bare (set t o n) (o + 1) (items what n s at) ≡ on_tape listed t o (items what n s at)
unfolding on_tape
counted-items what n s at t o = go (items-reads what n s at)
  where
    go : {a : Reading (List ℕ)} → Reads (λ xs. All (ItemKept s what) xs × (length xs ≡ n)) s at n a → on_tape bare (set t o n) (o + 1) a ≡ on_tape listed t o a
    go (finds {v = xs} h l w) =
        let d : o + suc (length xs) ≡ o + 1 + length xs = omega arith in
        rw (d, h.1, add-one)
    go (stops b w) = refl

-- ---- what is known where words were written

-- the words of x were written: what was read, what the tape holds, its next place
pub record Wrote {A : Type 0} (words : A → List ℕ) (t : List ℕ) (o : ℕ) (a : Reading A) (t' : List ℕ) (o' n : ℕ) : Type 0 where
  pub value : A
  pub is : a ≡ found value n
  pub tape : t' ≡ sets t o (words value)
  pub next : o' ≡ o + length (words value)

pub wrote : {A : Type 0} (words : A → List ℕ) (t : List ℕ) (o : ℕ) (a : Reading A) {t' : List ℕ} {o' n : ℕ}
    → found (written t' o') n ≡ on_tape words t o a → Wrote words t o a t' o' n
unfolding on_tape
wrote words t o (found x m) {t'} {o'} {n} e =
    let z : m ≡ n = (cc) in
    record { value = x; is = rw z; tape = (cc); next = (cc) }
wrote words t o (fault k p) e = let z : ◌≡◌ {A = ℕ} 0 1 = (cc) in absurd (omega arith)

pub stopped : {A : Type 0} (words : A → List ℕ) (t : List ℕ) (o : ℕ) (a : Reading A) {k q : ℕ}
    → fault k q ≡ on_tape words t o a → a ≡ fault k q
unfolding on_tape
stopped words t o (found x m) e = let z : ◌≡◌ {A = ℕ} 0 1 = (cc) in absurd (omega arith)
stopped words t o (fault i p) {k} {q} e =
    let y : i ≡ k = (cc) in
    let z : p ≡ q = (cc) in
    rw (y, z)

-- the words so far: the tape t with the words ws from o on is t', whose next place is o'
pub record On (t : List ℕ) (o : ℕ) (ws : List ℕ) (t' : List ℕ) (o' : ℕ) : Type 0 where
  pub tape : t' ≡ sets t o ws
  pub next : o' ≡ o + length ws

module _ (t : List ℕ) (o : ℕ) where
  pub on_start : On t o [] t o
  on_start = record { tape = refl; next = sym (add-zero o) }

  pub on_more : (ws xs : List ℕ) {t' t'' : List ℕ} {o' o'' : ℕ} → On t o ws t' o' → t'' ≡ sets t' o' xs → o'' ≡ o' + length xs → On t o (ws ++ xs) t'' o''
  on_more ws xs h p q =
      record { tape = rw (p, h.tape, h.next, sets_append t o ws xs); next = omega (arith, length-append ws xs, h.next) }

  -- the words so far are those of a value
  pub on_found : {A : Type 0} (words : A → List ℕ) (x : A) (n : ℕ) (ws : List ℕ) {t' : List ℕ} {o' : ℕ} → On t o ws t' o' → words x ≡ ws → found (written t' o') n ≡ on_tape words t o (found x n)
  unfolding on_tape
  on_found words x n ws h e = rw (h.tape, h.next, e)

  -- a part that is read behind the words so far, and what is made of it
  pub on_last : {A B : Type 0} (words : A → List ℕ) (part : B → List ℕ) (make : B → A) (ws : List ℕ) (r : Reading B) {t' : List ℕ} {o' : ℕ} → On t o ws t' o'
      → ((b : B) → words (make b) ≡ ws ++ part b) → on_tape part t' o' r ≡ on_tape words t o (and_then r (λ b n. found (make b) n))
  unfolding on_tape
  on_last words part make ws (found b n) h e =
      let m = on_more ws (part b) h refl refl in
      rw (m.tape, m.next, e b)
  on_last words part make ws (fault k p) h e = refl

-- what the file tape of src takes of these
pub ruleset taping = (items-none, items_more, items_stop, counted-items)
