-- `first_broken`: the lines ahead have the first broken rule of all lines, since those passed are whole. Assumes nothing.
use native.Mathlib.Omega.{arith}
use Rattle.std.proofs.lemmas.List.{length_push}
use Rattle.aspif.proofs.Places.{turn, end, next}
use Rattle.stable.proofs.Breaking.{here, rule_here, broken_here, pass_whole, pass_other, whole}
use Rattle.stable.proofs.first_broken.Goals as goal
use Rattle.stable.proofs.first_broken.Goals.{else-word_at-eq-RULE-via-then-word_at-eq-RULE+else-is_broken, else-word_at-eq-RULE-via-else-word_at-eq-RULE}

pub overflow_add-p : goal.overflow_add-p
overflow_add-p c =
    let t = turn c.into_iter-p-iterator.ensures.into_iter_gives _ c.places-p-items.ensures _ _ c.loop-p.yielded_by c.next.new.self c.next.ensures.steps c.in-Some.is in
    let walk = rw (← t.1) at c.loop-p.invariant in
    omega (arith, here walk t.0)

pub is_broken-requires : goal.is_broken-requires
is_broken-requires c =
    let t = turn c.into_iter-p-iterator.ensures.into_iter_gives _ c.places-p-items.ensures _ _ c.loop-p.yielded_by c.next.new.self c.next.ensures.steps c.in-Some.is in
    let walk = rw (← t.1) at c.loop-p.invariant in
    record { rule_on = rule_here walk t.0 c.word_at.ensures.0 c.if-word_at-eq-RULE.true }

pub offset_bounds-tape-p : goal.offset_bounds-tape-p
offset_bounds-tape-p c =
    let t = turn c.into_iter-p-iterator.ensures.into_iter_gives _ c.places-p-items.ensures _ _ c.loop-p.yielded_by c.next.new.self c.next.ensures.steps c.in-Some.is in
    let walk = rw (← t.1) at c.loop-p.invariant in
    omega (arith, here walk t.0)

pub bounds-tape-p : goal.bounds-tape-p
bounds-tape-p c =
    let t = turn c.into_iter-p-iterator.ensures.into_iter_gives _ c.places-p-items.ensures _ _ c.loop-p.yielded_by c.next.new.self c.next.ensures.steps c.in-Some.is in
    let walk = rw (← t.1) at c.loop-p.invariant in
    omega (arith, here walk t.0)

pub returns-then-is_broken : goal.returns-then-is_broken
returns-then-is_broken c =
    let t = turn c.into_iter-p-iterator.ensures.into_iter_gives _ c.places-p-items.ensures _ _ c.loop-p.yielded_by c.next.new.self c.next.ensures.steps c.in-Some.is in
    let walk = rw (← t.1) at c.loop-p.invariant in
    broken_here walk t.0 c.word_at.ensures.0 c.if-word_at-eq-RULE.true c.is_broken.ensures c.if-is_broken.true

pub loop-p-preserved : goal.loop-p-preserved
loop-p-preserved c =
    let t = turn c.into_iter-p-iterator.ensures.into_iter_gives _ c.places-p-items.ensures _ _ c.loop-p.yielded_by c.next.new.self c.next.ensures.steps c.in-Some.is in
    let walk = rw (← t.1) at c.loop-p.invariant in
    let kind = c.word_at.ensures.0 in
    let behind = next _ _ _ t.1 in
    rw (length_push c.loop-p.yielded c.in-Some.p)
    (elim c.else-word_at-eq-RULE.branch [
      | else-word_at-eq-RULE-via-then-word_at-eq-RULE+else-is_broken w ↦ pass_whole walk t.0 kind w.if-word_at-eq-RULE.true w.is_broken.ensures w.if-is_broken.false behind
      | else-word_at-eq-RULE-via-else-word_at-eq-RULE w ↦ pass_other walk t.0 kind w.if-word_at-eq-RULE.false behind
    ])

pub returns : goal.returns
returns c = whole c.loop-p.invariant (omega (arith, end c.into_iter-p-iterator.ensures.into_iter_gives _ c.places-p-items.ensures _ _ c.loop-p.yielded_by c.next.new.self c.next.ensures.steps c.in-None.is))
