-- `aspif::lines::lines` meets its contract: with each turn what is left to read gives the whole answer, and the tape has the words
-- of the lines so far (Turns). Assumes nothing.
use Prim.Native.Nat.{◌≤◌}
use mathlib.Core.Path.{refl}
use native.Mathlib.Omega.{arith}
use lib.ListN.{length}
use Rattle.std.proofs.lemmas.Grind.{common_steps}
use Rattle.fields.specs.Fields.{byte_at}
use Rattle.aspif.specs.inner.Values.{taped}
use Rattle.aspif.proofs.Far.{type_far, end_far}
use Rattle.aspif.proofs.Turns.{none_left, type_stops, last_stops, all_read, statement_stops, end_stops, reach_more}
use Rattle.aspif.proofs.lines.lines.Goals as goal

pub returns-in_err-k-clause-tape_after : goal.returns-in_err-k-clause-tape_after
unfolding taped
returns-in_err-k-clause-tape_after c = grind (arith, common_steps, type_stops c.loop-done.invariant)

pub returns-in_err-k-clause-result_after : goal.returns-in_err-k-clause-result_after
returns-in_err-k-clause-result_after c = grind (arith, common_steps, type_stops c.loop-done.invariant)

pub returns-in_err-last_line-clause-tape_after : goal.returns-in_err-last_line-clause-tape_after
unfolding taped
returns-in_err-last_line-clause-tape_after c = grind (arith, common_steps, last_stops c.loop-done.invariant)

pub returns-in_err-last_line-clause-result_after : goal.returns-in_err-last_line-clause-result_after
returns-in_err-last_line-clause-result_after c = grind (arith, common_steps, last_stops c.loop-done.invariant)

pub returns-then-k-eq0 : goal.returns-then-k-eq0
unfolding byte_at
returns-then-k-eq0 c =
    let i = c.loop-done.invariant in
    let far = type_far _ _ c.in_ok-k.ensures in
    let fits : c.loop-done.o ≤ length c.args.tape.now = omega (arith, i.room, far) in
    let all = all_read i c.loop-done-test.true c.in_ok-k.ensures _ refl c.if-k-eq0.true c.in_ok-last_line.ensures fits (λ k. omega (arith, c.type_inv.s k)) in
    record { tape_after = all.0; result_after = all.1; taped_if = all.2 }

pub returns-in_err-said-clause-tape_after : goal.returns-in_err-said-clause-tape_after
unfolding taped
returns-in_err-said-clause-tape_after c = grind (arith, common_steps, statement_stops c.loop-done.invariant)

pub returns-in_err-said-clause-result_after : goal.returns-in_err-said-clause-result_after
returns-in_err-said-clause-result_after c = grind (arith, common_steps, statement_stops c.loop-done.invariant)

pub returns-in_err-d-clause-tape_after : goal.returns-in_err-d-clause-tape_after
unfolding taped
returns-in_err-d-clause-tape_after c = grind (arith, common_steps, end_stops c.loop-done.invariant)

pub returns-in_err-d-clause-result_after : goal.returns-in_err-d-clause-result_after
returns-in_err-d-clause-result_after c = grind (arith, common_steps, end_stops c.loop-done.invariant)

pub loop-done-preserved : goal.loop-done-preserved
loop-done-preserved c =
    let says = c.in_ok-said.ensures in
    reach_more c.loop-done.invariant c.loop-done-test.true c.in_ok-k.ensures c.if-k-eq0.false says c.in_ok-d.ensures c.head_line.ensures
    (omega (arith, c.in_ok-said.said.roomy, end_far _ _ _ c.in_ok-d.ensures))

pub returns-clause-tape_after : goal.returns-clause-tape_after
unfolding taped
returns-clause-tape_after c = grind (arith, common_steps, none_left c.loop-done.invariant)

pub returns-clause-result_after : goal.returns-clause-result_after
returns-clause-result_after c = grind (arith, common_steps, none_left c.loop-done.invariant)
