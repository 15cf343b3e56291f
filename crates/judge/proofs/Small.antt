-- What a difference atom says keeps to the bounds: names below 1,024, and a bound of at most 1,000,000 either way. Assumes nothing.
use Prim.Native.Nat.{ℕ, ◌≤◌}
use mathlib.Core.List.{List}
use native.Mathlib.Omega.{arith}
use lib.IntN.{ℤ, pos, negsuc, neg_ℤ}
use lib.Signed.{◌≤ℤ◌}
use Rattle.faults.specs.Limits.{largest_number}
use Rattle.aspif.specs.Statements.{Line}
use Rattle.aspif.specs.inner.Kept.{FromTo, AllInRange}
use Rattle.diffs.specs.Diff.{Diff}
use Rattle.diffs.specs.inner.Steps.{down}
use Rattle.diffs.proofs.Integers.{up_le, neg_up}
use Rattle.terms.specs.Says.{Says}
use Rattle.terms.specs.inner.Tables.{SmallDiff}
use Rattle.terms.proofs.Bounds.{says-small}

-- what an atom of lines within the bounds says is within the bounds
pub said_small : (ls : List Line) → AllInRange ls → (a : ℕ) (d : Diff) → Says ls a d → SmallDiff d
said_small ls s a d e = (says-small ls a d s e).0

not_low : (k : ℤ) → FromTo largest_number largest_number k → down k ≤ largest_number
not_low (pos n) h = omega arith
not_low (negsuc n) h = h

-- such a bound is not below -1,000,000
pub bound-low : (d : Diff) → SmallDiff d → neg_ℤ (pos largest_number) ≤ℤ d.k
bound-low d s = up_le (omega (arith, neg_up (pos largest_number), not_low d.k s.k-small))
