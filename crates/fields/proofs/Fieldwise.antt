-- Where the fields of a line stand: behind the first space, one field after the other, and within the text. Assumes nothing.
use Prim.Native.Nat.{ℕ, zero, suc, ◌+◌, ◌≤◌, ◌<◌}
use mathlib.Core.Path.{◌≡◌, refl, ap}
use mathlib.Core.List.{List}
use native.Mathlib.Omega.{arith}
use borrow.Author.Tests.{ne_eqb}
use lib.ListN.{length}
use Rattle.fields.specs.Fields.{space, byte_at, is_space, behind_space, field_place}
use Rattle.fields.proofs.Runs.{run_out, run_stop, run_more}
use Rattle.fields.proofs.LineEnds.{byte_here}

-- behind a place
module _ (s : List ℕ) (at : ℕ) where
  -- a space stands there
  pub behind_here : at < length s → byte_at s at ≡ space → at + 1 ≡ behind_space s at
  unfolding behind_space
  behind_here h e = omega (arith, ap length (run_stop is_space s at h (rw (byte_here s at, e))))

  -- another byte stands there
  pub behind_more : at < length s → (byte_at s at ≡ space → ⊥) → behind_space s (at + 1) ≡ behind_space s at
  unfolding behind_space
  behind_more h o = omega (arith, ap length (run_more is_space s at h (rw (byte_here s at) (ne_eqb (byte_at s at) space o))))

  -- nothing does
  pub behind_end : length s ≤ at → length s ≡ behind_space s at
  unfolding behind_space
  behind_end h = omega (arith, ap length (run_out is_space s at h))

-- one field more
pub field_next : (s : List ℕ) (k j at : ℕ) → k ≡ suc j → field_place s j (behind_space s at) ≡ field_place s k at
unfolding field_place
field_next s k j at d = rw d

pub field_none : (s : List ℕ) (k at : ℕ) → k ≤ 0 → at ≡ field_place s k at
unfolding field_place
field_none s k at h = let z : k ≡ 0 = omega arith in rw z

-- one field more, at the end
pub field_last : (s : List ℕ) (k p : ℕ) → field_place s (suc k) p ≡ behind_space s (field_place s k p)
unfolding field_place
field_last s zero p = refl
field_last s (suc k) p = field_last s k (behind_space s p)

-- a field of what stands within the text stands within it or at its end
pub place-within : (s : List ℕ) (k at : ℕ) → at ≤ length s → field_place s k at ≤ length s
unfolding field_place behind_space
place-within s zero at h = h
place-within s (suc k) at h = place-within s k (behind_space s at) (omega arith)

-- what the file places of src takes of these
pub ruleset places = (behind_here, behind_more, behind_end, field_next, field_none)
