-- Judgements that are equal, and what that says of their values. Assumes nothing.
use Prim.Native.Nat.{ℕ}
use mathlib.Core.Path.{◌≡◌, ap}
use native.Mathlib.Omega.{arith}
use Rattle.judge.specs.Judged.{acceptance, refusal, Result}

-- equal results have the same verdict
pub verdicts : {r s : Result} → r ≡ s → r.verdict ≡ s.verdict
verdicts e = ap (λ (x : Result). x.verdict) e

-- equal refusals have the same number
pub numbers : {k l p m : ℕ} → refusal k p ≡ refusal l m → k ≡ l
numbers e = cc

-- and the same place
pub places : {k l p m : ℕ} → refusal k p ≡ refusal l m → p ≡ m
places e = cc

-- equal acceptances have the same length
pub lengths : {n m : ℕ} → acceptance n ≡ acceptance m → n ≡ m
lengths e = cc

-- an acceptance is no refusal
pub not-accepted : {n k p : ℕ} → acceptance n ≡ refusal k p → ⊥
not-accepted e = let z : ◌≡◌ {A = ℕ} 0 1 = (cc) in omega arith
