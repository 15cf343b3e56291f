-- Words of four bytes: how they are stored, and that bytes and number give each other.
use Prim.Native.Nat.{ℕ, suc, ◌+◌, ◌*◌, ◌/◌, ◌%◌, ◌≤◌, ◌<◌}
use mathlib.Core.Path.{◌≡◌, ap, sym, subst, ◌∙◌}
use mathlib.Core.List.{List, [], ◌∷◌, ◌++◌, append_assoc}
use borrow.Rule.Slice.PartMut.{put_mid}
use native.Mathlib.Omega.{arith}
use native.Mathlib.Nat.{add-zero}
use lib.ListN.{length, get_or, take, drop}
use lib.Seq.{sets, sets-eq, get_or-drop, drop-drop, drop-cons}
use Rattle.timetable.specs.Word.{four_bytes, word_at}

-- four bytes that replace the four at a place are a word stored
pub word-stored : (l bs : List ℕ) (p w k : ℕ) → p + 4 ≤ length l → k ≡ 4 → bs ≡ four_bytes w → put_mid p k l bs ≡ sets l p (four_bytes w)
unfolding four_bytes
word-stored l bs p w k h e f =
    let d : drop k (drop p l) ≡ drop (p + 4) l = drop-drop k p l ∙ ap (λ (i : ℕ). drop i l) (omega (arith, e)) in
    rw (f, d) (sym (append_assoc (take p l) (four_bytes w) (drop (p + 4) l)) ∙ sym (sets-eq (four_bytes w) l p h))

four : (v : ℕ) → v < 4294967296
    → v % 256 + 256 * (v / 256 % 256) + 65536 * (v / 65536 % 256) + 16777216 * (v / 16777216 % 256) ≡ v
four v h =
    let d₂ : v / 65536 ≡ v / 256 / 256 = omega arith in
    let d₃ : v / 16777216 ≡ v / 256 / 256 / 256 = omega arith in
    let a : v % 256 + 256 * (v / 256) ≡ v = omega arith in
    let b : v / 256 % 256 + 256 * (v / 256 / 256) ≡ v / 256 = omega arith in
    let c : v / 256 / 256 % 256 + 256 * (v / 256 / 256 / 256) ≡ v / 256 / 256 = omega arith in
    let d : v / 256 / 256 / 256 % 256 ≡ v / 256 / 256 / 256 = omega arith in
    rw (d₂, d₃) (omega (arith, a, b, c, d))

-- where the bytes of a number of 32 bits stand, that number is read
pub word_here : (s : List ℕ) (p v : ℕ) (rest : List ℕ) → v < 4294967296 → drop p s ≡ four_bytes v ++ rest → word_at s p ≡ v
unfolding four_bytes word_at
word_here s p v rest h e =
    let a : get_or s p 0 ≡ v % 256 = subst (λ (k : ℕ). get_or s k 0 ≡ v % 256) (add-zero p) (sym (get_or-drop p s 0 0) ∙ rw e) in
    let b : get_or s (p + 1) 0 ≡ v / 256 % 256 = sym (get_or-drop p s 1 0) ∙ rw e in
    let c : get_or s (p + 2) 0 ≡ v / 65536 % 256 = sym (get_or-drop p s 2 0) ∙ rw e in
    let d : get_or s (p + 3) 0 ≡ v / 16777216 % 256 = sym (get_or-drop p s 3 0) ∙ rw e in
    rw (a, b, c, d) (four v h)

pub word_next : (s : List ℕ) (p v : ℕ) (rest : List ℕ) → drop p s ≡ four_bytes v ++ rest → drop (p + 4) s ≡ rest
unfolding four_bytes
word_next s p v rest e = sym (drop-drop 4 p s) ∙ rw e

-- each member is a byte
pub record Bytes (s : List ℕ) : Type 0 where
  pub small : (i : ℕ) → get_or s i 0 < 256

bytes_back : (a b c d : ℕ) → a < 256 → b < 256 → c < 256 → d < 256
    → four_bytes (a + 256 * b + 65536 * c + 16777216 * d) ≡ a ∷ b ∷ c ∷ d ∷ []
unfolding four_bytes
bytes_back a b c d ha hb hc hd =
    let v = a + 256 * b + 65536 * c + 16777216 * d in
    let x : v % 256 ≡ a = omega arith in
    let y : v / 256 % 256 ≡ b = let q : v / 256 ≡ b + 256 * c + 65536 * d = omega arith in rw q (omega arith) in
    let z : v / 65536 % 256 ≡ c = let q : v / 65536 ≡ c + 256 * d = omega arith in rw q (omega arith) in
    let w : v / 16777216 % 256 ≡ d = let q : v / 16777216 ≡ d = omega arith in rw q (omega arith) in
    rw (x, y, z, w)

-- four bytes are the bytes of the number that is read there
pub word_forth : (s : List ℕ) → Bytes s → (p : ℕ) → p + 4 ≤ length s → drop p s ≡ four_bytes (word_at s p) ++ drop (p + 4) s
unfolding word_at
word_forth s q p h =
    let e₁ : suc p ≡ p + 1 = omega arith in
    let e₂ : suc (p + 1) ≡ p + 2 = omega arith in
    let e₃ : suc (p + 2) ≡ p + 3 = omega arith in
    let e₄ : suc (p + 3) ≡ p + 4 = omega arith in
    let d₁ : drop p s ≡ get_or s p 0 ∷ drop (p + 1) s = drop-cons s p 0 (omega arith) ∙ rw e₁ in
    let d₂ : drop (p + 1) s ≡ get_or s (p + 1) 0 ∷ drop (p + 2) s = drop-cons s (p + 1) 0 (omega arith) ∙ rw e₂ in
    let d₃ : drop (p + 2) s ≡ get_or s (p + 2) 0 ∷ drop (p + 3) s = drop-cons s (p + 2) 0 (omega arith) ∙ rw e₃ in
    let d₄ : drop (p + 3) s ≡ get_or s (p + 3) 0 ∷ drop (p + 4) s = drop-cons s (p + 3) 0 (omega arith) ∙ rw e₄ in
    let w = bytes_back (get_or s p 0) (get_or s (p + 1) 0) (get_or s (p + 2) 0) (get_or s (p + 3) 0) (q.small p) (q.small (p + 1)) (q.small (p + 2)) (q.small (p + 3)) in
    rw (d₁, d₂, d₃, d₄, w)
