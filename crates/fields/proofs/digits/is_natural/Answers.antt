-- `fields::digits::is_natural` meets its contract. Assumes nothing.
use mathlib.Core.Path.{◌∙◌}
use borrow.Author.Tests.{le-ltb, eq-eqb}
use Rattle.fields.proofs.Naturals.{natural_unled, natural-one}
use Rattle.fields.proofs.digits.is_natural.Goals as goal
use Rattle.fields.proofs.digits.is_natural.Goals.{then-at-end+then-end-at, then-at-end+else-end-at, else-at-end}

pub returns-then-peek-ne-ZERO_DIGIT : goal.returns-then-peek-ne-ZERO_DIGIT
returns-then-peek-ne-ZERO_DIGIT c =
    c.ends_field.ensures ∙ elim c.if-at-end.branch [
      | then-at-end+then-end-at w ↦ natural-one _ _ _ c.requires w.if-at-end.true w.if-end-at.true
      | then-at-end+else-end-at w ↦
          natural_unled _ _ _ c.requires w.if-at-end.true (λ z. let e = rw (eq-eqb _ _ (w.peek.ensures ∙ z)) at w.value-is in cc)
      | else-at-end w ↦ let e = rw (le-ltb _ _ w.if-at-end.false) at w.value-is in cc
    ]
