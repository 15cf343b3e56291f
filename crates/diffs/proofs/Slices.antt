-- A part of a list, `slice f t l`: by index, as a take of a drop, and cut in two.
use mathlib.Core.Path.{◌≡◌, ap, ap₂, sym, ◌∙◌}
use mathlib.Core.List.{List, [], ◌∷◌, ◌++◌}
use Prim.Native.Nat.{ℕ, zero, suc, ◌+◌, ◌-◌, ◌≤◌, ◌<◌}
use native.Mathlib.Omega.{arith}
use lib.ListN.{take, drop}
use lib.Seq.{slice, take-nil, take-add, drop-drop, get_or-take, get_or-drop}
use Rattle.diffs.specs.inner.Answer.{cell}

pub slice_at : (w : List ℕ) (a e k : ℕ) → k < e - a → cell (slice a e w) k ≡ cell w (a + k)
slice_at w a e k h = get_or-drop a (take e w) k 0 ∙ get_or-take e w (a + k) 0 (omega arith)

slice-add : (f n : ℕ) (l : List ℕ) → slice f (f + n) l ≡ take n (drop f l)
slice-add zero n l = let e : 0 + n ≡ n = omega arith in ap (λ (k : ℕ). take k l) e
slice-add (suc f) n [] = ap (drop (suc f)) (take-nil (suc f + n)) ∙ sym (take-nil n)
slice-add (suc f) n (x ∷ l) =
    let e : suc f + n ≡ suc (f + n) = omega arith in
    ap (λ (k : ℕ). drop (suc f) (take k (x ∷ l))) e ∙ slice-add f n l

pub slice-take : (f t : ℕ) (l : List ℕ) → f ≤ t → slice f t l ≡ take (t - f) (drop f l)
slice-take f t l h =
    let e : t ≡ f + (t - f) = omega arith in
    ap (λ (k : ℕ). slice f k l) e ∙ slice-add f (t - f) l

pub slice_split : (w : List ℕ) (start end q : ℕ) → start ≤ q → q ≤ end → slice start end w ≡ slice start q w ++ slice q end w
slice_split w start end q f b =
    let e : end - start ≡ (q - start) + (end - q) = omega arith in
    let g : start + (q - start) ≡ q = omega arith in
    slice-take start end w (omega arith)
    ∙ ap (λ (n : ℕ). take n (drop start w)) e
    ∙ take-add (q - start) (end - q) (drop start w)
    ∙ ap (λ (l : List ℕ). take (q - start) (drop start w) ++ take (end - q) l) (drop-drop (q - start) start w ∙ ap (λ (n : ℕ). drop n w) g)
    ∙ ap₂ (λ (l r : List ℕ). l ++ r) (sym (slice-take start q w f)) (sym (slice-take q end w b))
