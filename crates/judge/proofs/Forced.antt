-- The differences that were gathered are those in force: each is said by an atom that holds, and each that is said so was gathered.
use Prim.Native.Nat.{ℕ, ◌<◌}
use mathlib.Core.Path.{◌≡◌, refl, sym, ap, ◌∙◌}
use mathlib.Core.List.{List}
use native.Mathlib.Omega.{arith}
use lib.ListN.{length}
use Rattle.basics.proofs.Bitmaps.{marked-holds}
use Rattle.aspif.specs.Statements.{Line}
use Rattle.aspif.specs.inner.Words.{word}
use Rattle.diffs.specs.Diff.{Diff}
use Rattle.diffs.specs.inner.Answer.{cell, diff_at, Among}
use Rattle.diffs.specs.declared.Difference.{Difference}
use Rattle.terms.specs.Terms.{Stated, Lists}
use Rattle.terms.specs.inner.Tables.{held_at}
use Rattle.terms.proofs.Stating.{says-listed, listed-says}
use Rattle.judge.specs.Plan.{Held, InForce}
use Rattle.judge.specs.inner.Stages.{stated, Stating, ready_at, in_force}
use Rattle.judge.proofs.Firsts.{some-place, place-some, force_lists, lists_force}

module _ (ls : List Line) (atoms : List ℕ) (ds : List Difference) (h : Stating ls atoms ds)
    (x labels : List ℕ) (gathered : List Difference) (alike : length labels ≡ length gathered)
    (g : stated labels gathered ≡ in_force x (stated atoms ds)) where
  -- each label holds and says the difference beside it
  held_at_lem : (i : ℕ) → i < length gathered → Held (ready_at ls x) (word labels i) (held_at labels gathered i).says
  held_at_lem i l =
      let d = (held_at labels gathered i).says in
      let p : Lists (stated labels gathered) (word labels i) d = place-some (λ (s : Stated). s ≡ held_at labels gathered i) (length labels) (held_at labels gathered) i (omega arith) refl in
      let f = force_lists x (stated atoms ds) (word labels i) d (rw g at p) in
      record { holds = marked-holds x (word labels i) ∙ f.1; says = listed-says ls (stated atoms ds) h.stated (word labels i) d f.0 }

  -- each difference that was gathered is said by its label, which holds
  pub label_held : (i : ℕ) → i < length gathered → Held (ready_at ls x) (cell labels i) (diff_at gathered i)
  unfolding word
  label_held i l = held_at_lem i l

  -- what was gathered is in force
  pub among_force : (d : Diff) → Among (length gathered) (diff_at gathered) d → InForce (ready_at ls x) d
  among_force d q = record { atom = cell labels q.number; held = rw q.is at (label_held q.number q.within) }

  -- what is in force was gathered
  pub force_among : (d : Diff) → InForce (ready_at ls x) d → Among (length gathered) (diff_at gathered) d
  force_among d q =
      let a = q.atom in
      let l = says-listed ls (stated atoms ds) h.stated a d q.held.says in
      let f = lists_force x (stated atoms ds) a d l (sym (marked-holds x a) ∙ q.held.holds) in
      let k : Lists (stated labels gathered) a d = rw g f in
      let p = some-place (λ (s : Stated). s ≡ record { atom = a; says = d }) (length labels) (held_at labels gathered) k in
      record { number = p.place; within = omega (arith, p.within); is = ap (λ (s : Stated). s.says) p.holds }
