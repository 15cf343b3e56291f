-- Laws of the bytes before the first place at which what follows ends them, one step of them at a place of the text. Assumes nothing.
use Prim.Native.Nat.{ℕ, ◌+◌, ◌≤◌, ◌<◌, max}
use mathlib.Core.Path.{◌≡◌, refl, ap}
use mathlib.Core.List.{List, [], ◌∷◌}
use mathlib.Core.Bool.{Bool, true, false}
use native.Mathlib.Omega.{arith}
use native.Mathlib.Numerals.{add-one}
use lib.ListN.{length, get_or, take, drop, length-drop, drop_of_length-le}
use lib.Seq.{drop-cons}
use Rattle.basics.specs.Bools.{pick}
use Rattle.fields.specs.Fields.{until}

module _ (ends : List ℕ → Bool) (s : List ℕ) (i : ℕ) where
  pub run_out : length s ≤ i → until ends (drop i s) ≡ []
  unfolding until
  run_out h = rw (drop_of_length-le s h)

  pub run_stop : i < length s → ends (drop i s) ≡ true → until ends (drop i s) ≡ []
  unfolding until
  run_stop h t =
      let c = drop-cons s i 0 h in
      let u = rw c at t in
      rw (c, u)

  pub run_more : i < length s → ends (drop i s) ≡ false → until ends (drop i s) ≡ get_or s i 0 ∷ until ends (drop (i + 1) s)
  unfolding until
  run_more h t =
      let c = drop-cons s i 0 h in
      let u = rw c at t in
      rw (c, u, add-one)

-- they are a front part of the list
pub until-length : (ends : List ℕ → Bool) (l : List ℕ) → length (until ends l) ≤ length l
unfolding until
until-length ends [] = omega arith
until-length ends (b ∷ bs) = go (ends (b ∷ bs)) (until-length ends bs)
  where
    go : (t : Bool) → length (until ends bs) ≤ length bs → length (pick t [] (b ∷ until ends bs)) ≤ length (b ∷ bs)
    go true h = omega arith
    go false h = omega arith

pub until-take : (ends : List ℕ → Bool) (l : List ℕ) → take (length (until ends l)) l ≡ until ends l
unfolding until
until-take ends [] = refl
until-take ends (b ∷ bs) = go (ends (b ∷ bs)) (until-take ends bs)
  where
    go : (t : Bool) → take (length (until ends bs)) bs ≡ until ends bs
        → take (length (pick t [] (b ∷ until ends bs))) (b ∷ bs) ≡ pick t [] (b ∷ until ends bs)
    go true h = refl
    go false h = ap {B = List ℕ} (λ r. b ∷ r) h

-- they end within the text, or where they begin
pub until-most : (ends : List ℕ → Bool) (s : List ℕ) (at : ℕ) → at + length (until ends (drop at s)) ≤ max at (length s)
until-most ends s at = omega (arith, until-length ends (drop at s), length-drop at s)

-- from a place within the text on they end within it
pub until-within : (ends : List ℕ → Bool) (s : List ℕ) (at : ℕ) → at ≤ length s → at + length (until ends (drop at s)) ≤ length s
until-within ends s at h = omega (arith, until-most ends s at)

-- two tests that agree
pub until-same : (f g : List ℕ → Bool) → ((l : List ℕ) → f l ≡ g l) → (l : List ℕ) → until f l ≡ until g l
unfolding until
until-same f g h [] = refl
until-same f g h (b ∷ bs) = rw (h (b ∷ bs), until-same f g h bs)

-- what the files ends, digits and tape of src take of these
pub ruleset runs = (run_out, run_stop, run_more, until-most, until-within)
