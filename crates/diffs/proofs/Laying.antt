-- A walk, from one of its places on and round to it, is written through a table to the front of a room: first its end, then its front.
use mathlib.Core.Path.{◌≡◌, ap, ap₂, sym, ◌∙◌}
use mathlib.Core.List.{List, ◌++◌, map, map-append}
use Prim.Native.Nat.{ℕ, ◌+◌, ◌-◌, ◌≤◌, ◌<◌}
use native.Mathlib.Omega.{arith}
use lib.ListN.{length, set, take, drop, length-take, length-drop, length-append, length-map}
use lib.Seq.{drop-drop, take_all, take_at, drop_at, append_snoc, set_at, length-take-le}
use Rattle.std.proofs.lemmas.List.{append-nil, append_assoc, drop_more, drop_all, map_more}
use borrow.Rule.Slice.PartMut.{mid_of, put_mid}
use Rattle.diffs.specs.inner.Answer.{cell}
use Rattle.diffs.specs.inner.Steps.{turned}

-- one more entry of a part is written
pub one_more : (f : ℕ → ℕ) (part room : List ℕ) (j : ℕ) → j < length part → length part ≤ length room
    → set (map f (take j part) ++ drop j room) j (f (cell part j)) ≡ map f (take (j + 1) part) ++ drop (j + 1) room
one_more f part room j h g =
    let l : length (map f (take j part)) ≡ j = length-map (take j part) f ∙ length-take-le j part (omega arith) in
    ap (λ (r : List ℕ). set (map f (take j part) ++ r) j (f (cell part j))) (drop_more room j 0 (omega arith))
    ∙ set_at (map f (take j part)) (cell room j) (drop (j + 1) room) (f (cell part j)) j l
    ∙ sym (append_snoc (map f (take j part)) (f (cell part j)) (drop (j + 1) room))
    ∙ ap (λ (r : List ℕ). r ++ drop (j + 1) room) (sym (map_more f part j 0 h))

pub turned-length : (w : List ℕ) (q : ℕ) → q ≤ length w → length (turned w q) ≡ length w
turned-length w q h = omega (arith, length-append (drop q w) (take q w), length-drop q w, length-take q w)

-- both parts are written: a, the walk's end, and then b, its front
pub all-written : (f : ℕ → ℕ) (w a b room room' part : List ℕ) (q n k : ℕ) → q ≤ length w → length w ≤ length room → n ≡ length w - q → k ≡ length room - n
    → a ≡ drop q w → b ≡ take q w
    → room' ≡ map f a ++ drop (length a) room → part ≡ map f b ++ drop (length b) (mid_of n k room')
    → put_mid n k room' part ≡ map f (turned w q) ++ drop (length w) room
all-written f w a b room room' part q n k h r nn kk aa bb e g =
    let la : length a ≡ n = omega (arith, ap length aa, length-drop q w) in
    let lb : length b ≡ q = omega (arith, ap length bb, length-take q w) in
    let lm : length (map f a) ≡ n = length-map a f ∙ la in
    let t : take n room' ≡ map f a = ap (take n) e ∙ take_at (map f a) (drop (length a) room) n lm in
    let d : drop n room' ≡ drop n room = ap (drop n) e ∙ drop_at (map f a) (drop (length a) room) n lm ∙ ap (λ (i : ℕ). drop i room) la in
    let l : length (drop n room') ≤ k = omega (arith, ap length d, length-drop n room) in
    let m : mid_of n k room' ≡ drop n room = take_all k (drop n room') l ∙ d in
    let z : n + length b ≡ length w = omega arith in
    ap₂ (λ (x y : List ℕ). x ++ y) t
    (ap₂ (λ (x y : List ℕ). x ++ y) (g ∙ ap (λ (x : List ℕ). map f b ++ drop (length b) x) m) (drop_all k (drop n room') l) ∙ append-nil _)
    ∙ ap (λ (x : List ℕ). map f a ++ (map f b ++ x)) (drop-drop (length b) n room ∙ ap (λ (i : ℕ). drop i room) z)
    ∙ sym (append_assoc (map f a) (map f b) (drop (length w) room))
    ∙ ap (λ (x : List ℕ). x ++ drop (length w) room) (ap₂ (λ (x y : List ℕ). map f x ++ map f y) aa bb ∙ sym (map-append f (drop q w) (take q w)))
