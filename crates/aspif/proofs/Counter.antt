-- The line counter never runs out. Assumes nothing.
use Prim.Native.Nat.{ℕ, zero, suc, ◌+◌, ◌≤◌, ◌<◌}
use mathlib.Core.Path.{◌≡◌, refl, sym, ap}
use mathlib.Core.List.{List, [], ◌∷◌}
use mathlib.Core.Bool.{Bool, true, false}
use native.Mathlib.Omega.{arith}
use lib.Dec.{eqb, lit<}
use lib.ListN.{length, drop, length-drop}
use Rattle.basics.specs.Bools.{pick}
use Rattle.fields.specs.Reading.{Reading, found, fault, and_then, ◌>>=◌, ◌>>◌, pure}
use Rattle.fields.specs.Fields.{natural, ends_field, field}
use Rattle.fields.proofs.Runs.{until-length}
use Rattle.fields.proofs.Naturals.{natural-none}
use Rattle.aspif.specs.declared.lines.Header.{Header}
use Rattle.aspif.specs.Grammar.{line_of, last_line, lines, first_line, plan}
use Rattle.fields.proofs.Readers.{reads-ends, natural-within}
use Rattle.aspif.proofs.Kept.{line_reads}

-- past the end of the text there is no line, whatever the count
lines_past : (first : Header) (n : ℕ) (s : List ℕ) (at : ℕ) → length s ≤ at → fault 3 at ≡ lines first n s at
unfolding lines field
lines_past first zero s at h = refl
lines_past first (suc n) s at h =
    let e : at ≡ at + length (field s at) = omega (arith, until-length ends_field (drop at s), length-drop at s) in
    rw (← natural-none s at at e 3 10 (omega arith))

-- two ways to go on that agree on every value that is found
pub and_then-same : {A B : Type 0} (a : Reading A) (f g : A → ℕ → Reading B) → ((v : A) (n : ℕ) → found v n ≡ a → f v n ≡ g v n) → and_then a f ≡ and_then a g
and_then-same (found v n) f g h = h v n refl
and_then-same (fault k p) f g h = refl

-- two counts that reach the end of the text give the same lines
pub lines_enough : (first : Header) (n m : ℕ) (s : List ℕ) (at : ℕ) → length s ≤ at + n → length s ≤ at + m → lines first n s at ≡ lines first m s at
unfolding lines
lines_enough first zero m s at h k = lines_past first m s at (omega arith)
lines_enough first (suc n) zero s at h k = sym (lines_past first (suc n) s at (omega arith))
lines_enough first (suc n) (suc m) s at h k =
    and_then-same (natural 3 10 s at) _ _ (λ i j e.
    go (λ l d. lines_enough first n m s l (omega arith) (omega arith)) i j (natural-within 3 10 s at i j e).1 (eqb i 0))
  where
    go : ((l : ℕ) → at < l → lines first n s l ≡ lines first m s l) → (i j : ℕ) → at < j → (t : Bool)
        → (pick t (last_line first.ends >> pure []) (line_of first.ends i at >>= (λ x. lines first n >>= (λ xs. pure (x ∷ xs))))) s j
        ≡ (pick t (last_line first.ends >> pure []) (line_of first.ends i at >>= (λ x. lines first m >>= (λ xs. pure (x ∷ xs))))) s j
    go r i j d true = refl
    go r i j d false =
        and_then-same (line_of first.ends i at s j) _ _ (λ x l e.
        let c = reads-ends (lit< tt) (line_reads s first.ends i at j (omega arith)) x l e in
        ap (λ a. and_then a (λ xs o. found (x ∷ xs) o)) (r l (omega arith)))

-- a count of the text's length or more gives the plan
pub plan_enough : (n : ℕ) (s : List ℕ) (at : ℕ) → length s ≤ n → and_then (first_line s at) (λ first k. lines first n s k) ≡ plan s at
unfolding plan
plan_enough n s at h =
    and_then-same (first_line s at) _ _ (λ first k e. lines_enough first n (length s) s k (omega arith) (omega arith))
