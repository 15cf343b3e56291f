-- The differences in the slices are those that the lines say.
use Prim.Native.Nat.{ℕ, ◌<◌}
use mathlib.Core.Path.{◌≡◌, refl}
use mathlib.Core.List.{List}
use lib.ListN.{length}
use Rattle.aspif.specs.Statements.{Line}
use Rattle.aspif.specs.inner.Words.{word}
use Rattle.diffs.specs.Diff.{Diff}
use Rattle.diffs.specs.declared.Difference.{Difference}
use Rattle.terms.specs.Says.{Says}
use Rattle.terms.specs.Terms.{Stated}
use Rattle.terms.specs.inner.Tables.{held_at}
use Rattle.terms.proofs.Stating.{says-listed, listed-says}
use Rattle.judge.specs.inner.Stages.{stated, Stating}
use Rattle.judge.proofs.Firsts.{Place, some-place, place-some}

module _ (ls : List Line) (atoms : List ℕ) (ds : List Difference) (h : Stating ls atoms ds) where
  -- the atom at a place says the difference there
  pub said : (j : ℕ) → j < length atoms → Says ls (word atoms j) (held_at atoms ds j).says
  said j l =
      listed-says ls (stated atoms ds) h.stated (word atoms j) (held_at atoms ds j).says
      (place-some (λ (s : Stated). s ≡ held_at atoms ds j) (length atoms) (held_at atoms ds) j l refl)

  -- what an atom says stands at a place
  pub placed : (a : ℕ) (d : Diff) → Says ls a d → Place (λ (s : Stated). s ≡ record { atom = a; says = d }) (length atoms) (held_at atoms ds)
  placed a d q = some-place (λ (s : Stated). s ≡ record { atom = a; says = d }) (length atoms) (held_at atoms ds) (says-listed ls (stated atoms ds) h.stated a d q)
