-- Laws of a fixed word: one step at a place of it. Assumes nothing.
use Prim.Native.Nat.{ℕ, suc, ◌+◌, ◌≤◌, ◌<◌}
use mathlib.Core.Path.{◌≡◌}
use mathlib.Core.List.{List}
use mathlib.Core.Bool.{true, ◌&&◌}
use native.Mathlib.Numerals.{add-one}
use lib.ListN.{length, get_or, drop, drop_of_length-le}
use lib.Seq.{drop-cons}
use lib.Dec.{ltb}
use borrow.Author.Tests.{ltb-true}
use Rattle.basics.proofs.Bools.{and_cases}
use Rattle.fields.specs.Reading.{found, fault}
use Rattle.fields.specs.Fields.{byte, bytes, all_positive}

module _ (w : List ℕ) (i : ℕ) where
  pub positive_more : i < length w → all_positive (drop i w) ≡ true → (0 < get_or w i 0) × (all_positive (drop (i + 1) w) ≡ true)
  unfolding all_positive
  positive_more h e =
      let k : (ltb 0 (get_or w i 0) && all_positive (drop (suc i) w)) ≡ true = rw (drop-cons w i 0 h) at e in
      let p = and_cases (ltb 0 (get_or w i 0)) (all_positive (drop (suc i) w)) k in
      (ltb-true 0 (get_or w i 0) p.0, rw add-one p.1)

  module _ (s : List ℕ) (at : ℕ) where
    pub word_out : length w ≤ i → found tt at ≡ bytes (drop i w) s at
    unfolding bytes
    word_out h = rw (drop_of_length-le w h)

    pub word_more : (n : ℕ) → i < length w → found tt n ≡ byte (get_or w i 0) s at → bytes (drop (i + 1) w) s n ≡ bytes (drop i w) s at
    unfolding bytes
    word_more n h e = rw (drop-cons w i 0 h, ← e, add-one)

    pub word_stop : (k q : ℕ) → i < length w → fault k q ≡ byte (get_or w i 0) s at → fault k q ≡ bytes (drop i w) s at
    unfolding bytes
    word_stop k q h e = rw (drop-cons w i 0 h, ← e)

-- what the file number of src takes of these
pub ruleset words = (positive_more, word_out, word_more, word_stop)
