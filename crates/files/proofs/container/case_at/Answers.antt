-- `case_at`: the case as it is read. Assumes nothing.
use Rattle.std.proofs.Common.{arith}
use borrow.Author.Tests.{eq-eqb, ne_eqb}
use Rattle.files.specs.inner.Cases.{case_at}
use Rattle.files.proofs.Cases.{length_in, case_in}
use Rattle.files.proofs.container.case_at.Goals as goal

pub returns-in_default-clause-value : goal.returns-in_default-clause-value
unfolding case_at
returns-in_default-clause-value c = rw (← c.past_field-name.ensures, ← c.in_default.ensures)

pub ahead-end-requires : goal.ahead-end-requires
ahead-end-requires c = omega (arith, length_in _ _ c.in-Ok.ensures)

pub returns-then-look-ne-CASE_END-clause-value : goal.returns-then-look-ne-CASE_END-clause-value
unfolding case_at
returns-then-look-ne-CASE_END-clause-value c =
    rw (← c.past_field-name.ensures, ← c.in-Ok.ensures, ← c.ahead-end.ensures, ← c.look.ensures, ne_eqb _ _ c.if-look-ne-CASE_END.true)

pub returns-clause-value : goal.returns-clause-value
unfolding case_at
returns-clause-value c =
    rw (← c.past_field-name.ensures, ← c.in-Ok.ensures, ← c.ahead-end.ensures, ← c.look.ensures, eq-eqb _ _ c.if-look-ne-CASE_END.false)

pub returns-clause-stands : goal.returns-clause-stands
returns-clause-stands c = case_in _ _ (returns-clause-value c)
