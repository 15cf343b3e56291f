-- Laws of line ends: what stands at a place, by its bytes. Assumes nothing.
use Prim.Native.Nat.{ℕ, ◌+◌}
use mathlib.Core.Path.{◌≡◌, refl, sym, ap, ◌∙◌}
use mathlib.Core.List.{List}
use mathlib.Core.Bool.{Bool, true, false, ◌||◌}
use native.Mathlib.Nat.{add-zero, zero-add}
use borrow.Author.Tests.{eq-eqb, ne_eqb}
use lib.Dec.{eqb}
use lib.ListN.{length, drop}
use lib.Seq.{get_or-drop}
use Rattle.fields.specs.Fields.{feed, return, byte_at, until, return_feed, ends_line, breaks, breaks_at, ends_of}
use Rattle.fields.specs.declared.LineEnd.{LineEnd}
use Rattle.fields.specs.declared.LineEnd.TheVariants as by
use Rattle.fields.proofs.Runs.{until-same}

-- a byte of what stands from a place on
pub byte_on : (s : List ℕ) (at k : ℕ) → byte_at (drop at s) k ≡ byte_at s (at + k)
unfolding byte_at
byte_on s at k = get_or-drop at s k 0

pub byte_here : (s : List ℕ) (at : ℕ) → byte_at (drop at s) 0 ≡ byte_at s at
byte_here s at = byte_on s at 0 ∙ ap (byte_at s) (add-zero at)

-- a line end at a place, by its bytes
pub ends_here : (s : List ℕ) (at : ℕ) → ends_line (drop at s) ≡ eqb (byte_at s at) feed || return_feed s at
ends_here s at = rw (byte_here s at, byte_on s at 1)

-- a feed, or the end of a line, is the end of a line
breaks-feed : (e : LineEnd) (l : List ℕ) → breaks_at feed e l ≡ breaks e l
breaks-feed by.Feed l = go (eqb (byte_at l 0) feed)
  where
    go : (t : Bool) → t || t ≡ t
    go true = refl
    go false = refl
breaks-feed by.Return l = go (eqb (byte_at l 0) feed) (return_feed l 0)
  where
    go : (t u : Bool) → t || (t || u) ≡ t || u
    go true u = refl
    go false u = refl

pub until-feed : (e : LineEnd) (l : List ℕ) → until (breaks_at feed e) l ≡ until (breaks e) l
until-feed e l = until-same (breaks_at feed e) (breaks e) (breaks-feed e) l

-- a line's part ends where its bytes do before a feed or the end of the line
pub part-ends : (e : LineEnd) (s : List ℕ) (at : ℕ) {n : ℕ} → n ≡ at + length (until (breaks_at feed e) (drop at s)) → n ≡ at + length (until (breaks e) (drop at s))
part-ends e s at p = rw (until-feed e (drop at s)) at p

-- the kind of a text, by the byte at its first line end
module _ (s : List ℕ) {n : ℕ} (first : n ≡ 0 + length (until ends_line (drop 0 s))) where
  here : length (until ends_line s) ≡ n
  here = sym (first ∙ zero-add _)

  pub ends_return : byte_at s n ≡ return → by.Return ≡ ends_of s
  unfolding ends_of
  ends_return e = rw (here, eq-eqb _ _ e)

  pub ends-feed : (byte_at s n ≡ return → ⊥) → by.Feed ≡ ends_of s
  unfolding ends_of
  ends-feed o = rw (here, ne_eqb _ _ o)

-- what the file ends of src takes of these
pub ruleset line_ends = (byte_here, ends_here, ends_return, ends-feed)
