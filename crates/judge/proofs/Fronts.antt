-- What stands behind the first 65,536 bytes of a text or of a candidate changes nothing. Assumes nothing.
use Prim.Native.Nat.{ℕ, ◌<◌}
use mathlib.Core.Path.{◌≡◌, refl}
use mathlib.Core.Bool.{Bool, true, false}
use native.Mathlib.Omega.{arith}
use borrow.Author.Tests.{ltb-true, ltb-false, lt-ltb}
use lib.Dec.{ltb, lit<}
use lib.ListN.{length, take, length-take}
use lib.Seq.{take_all}
use Rattle.faults.specs.Limits.{longest_text}
use Rattle.aspif.proofs.Fronts.{candidate-front}
use Rattle.judge.specs.Plan.{Asked, Rooms, legible, pair, readable}
use Rattle.judge.specs.Fronts.{fronts, Fronts}

-- a text is too long in both forms or is not cut; a candidate is read from its first 20,482 bytes
readable-front : (n : ℕ) (a : Asked) (b : Rooms) → longest_text < n → readable (fronts n a) b ≡ readable a b
unfolding readable legible pair
readable-front n a b h = go (ltb longest_text (length a.text)) refl
  where
    go : (t : Bool) → ltb longest_text (length a.text) ≡ t → readable (fronts n a) b ≡ readable a b
    go true q = rw (lt-ltb longest_text (length (take n a.text)) (omega (arith, length-take n a.text, ltb-true longest_text (length a.text) q)), q)
    go false q = rw (take_all n a.text (omega (arith, ltb-false longest_text (length a.text) q)), candidate-front n a.cand (omega arith))

-- the judge gives for the first 65,536 bytes of both what it gives for all
pub fronts_enough : Fronts
fronts_enough a b r = let e = readable-front 65536 a b (lit< tt) in (λ j. rw e at j, λ j. rw e j)
