-- `collect`: what is gathered, and what the lines to come give, is the answer; each turn takes one line.
use mathlib.Core.Path.{◌≡◌, refl, ap, ◌∙◌}
use native.Mathlib.Omega.{arith}
use borrow.Author.Rules.{rules}
use Rattle.std.specs.Prelude.{Ok, Err}
use Rattle.aspif.proofs.Walking.{ahead_starts}
use Rattle.std.proofs.lemmas.List.{length_push}
use Rattle.aspif.proofs.Places.{turn, end, next}
use Rattle.terms.proofs.Walks.{room-kept, at_first, at_line, at_refusal, at_none, at_stated, in-atoms, in_found, at_last, at_end}
use Rattle.terms.proofs.collect.Goals as goal

pub loop-p-init : goal.loop-p-init
loop-p-init c = at_first _ _ _ _ _ c.args.lines.ahead

pub take-requires : goal.take-requires
take-requires c =
    let t = turn c.into_iter-p-iterator.ensures.into_iter_gives _ c.places-p-items.ensures _ _ c.loop-p.yielded_by c.next.new.self c.next.ensures.steps c.in-Some.is in
    let walk = rw (← t.1) at c.loop-p.invariant in
    (at_line t.0 walk, c.requires.tape_len_bound)

pub returns-in_err-stated-clause-found_after : goal.returns-in_err-stated-clause-found_after
returns-in_err-stated-clause-found_after c =
    let t = turn c.into_iter-p-iterator.ensures.into_iter_gives _ c.places-p-items.ensures _ _ c.loop-p.yielded_by c.next.new.self c.next.ensures.steps c.in-Some.is in
    let walk = rw (← t.1) at c.loop-p.invariant in
    let e : c.from_residual.result ≡ Err c.in_err-stated.field-0.0 = search rules in
    rw e (at_refusal t.0 walk c.take.ensures _ c.in_err-stated.was)

pub offset_bounds-atoms-m : goal.offset_bounds-atoms-m
offset_bounds-atoms-m c = omega (arith, c.loop-p.invariant.counted, ahead_starts _ _ _ c.loop-p.invariant.ahead, c.requires.tape_len_bound)

pub bounds-atoms-m : goal.bounds-atoms-m
bounds-atoms-m c =
    let t = turn c.into_iter-p-iterator.ensures.into_iter_gives _ c.places-p-items.ensures _ _ c.loop-p.yielded_by c.next.new.self c.next.ensures.steps c.in-Some.is in
    let walk = rw (← t.1) at c.loop-p.invariant in
    in-atoms t.0 walk c.take.ensures _ refl _ _ (c.in_ok-stated.was ∙ ap Ok c.in-Some-stated.is) (room-kept c.loop-p.auto.atoms c.loop-p.auto.found c.requires.roomy)

pub offset_bounds-found-m : goal.offset_bounds-found-m
offset_bounds-found-m c = omega (arith, c.loop-p.invariant.counted, ahead_starts _ _ _ c.loop-p.invariant.ahead, c.requires.tape_len_bound)

pub bounds-found-m : goal.bounds-found-m
bounds-found-m c =
    let t = turn c.into_iter-p-iterator.ensures.into_iter_gives _ c.places-p-items.ensures _ _ c.loop-p.yielded_by c.next.new.self c.next.ensures.steps c.in-Some.is in
    let walk = rw (← t.1) at c.loop-p.invariant in
    in_found t.0 walk c.take.ensures _ refl _ _ (c.in_ok-stated.was ∙ ap Ok c.in-Some-stated.is) (room-kept c.loop-p.auto.atoms c.loop-p.auto.found c.requires.roomy)

pub overflow_add-m : goal.overflow_add-m
overflow_add-m c = omega (arith, c.loop-p.invariant.counted, ahead_starts _ _ _ c.loop-p.invariant.ahead, c.requires.tape_len_bound)

pub loop-p-preserved-in-Some-stated : goal.loop-p-preserved-in-Some-stated
loop-p-preserved-in-Some-stated c =
    let t = turn c.into_iter-p-iterator.ensures.into_iter_gives _ c.places-p-items.ensures _ _ c.loop-p.yielded_by c.next.new.self c.next.ensures.steps c.in-Some.is in
    let walk = rw (← t.1) at c.loop-p.invariant in
    rw (length_push c.loop-p.yielded c.in-Some.p)
    (at_stated t.0 walk c.take.ensures _ (next _ _ _ t.1) _ _ (c.in_ok-stated.was ∙ ap Ok c.in-Some-stated.is) (room-kept c.loop-p.auto.atoms c.loop-p.auto.found c.requires.roomy))

pub loop-p-preserved : goal.loop-p-preserved
loop-p-preserved c =
    let t = turn c.into_iter-p-iterator.ensures.into_iter_gives _ c.places-p-items.ensures _ _ c.loop-p.yielded_by c.next.new.self c.next.ensures.steps c.in-Some.is in
    let walk = rw (← t.1) at c.loop-p.invariant in
    rw (length_push c.loop-p.yielded c.in-Some.p) (at_none t.0 walk c.take.ensures _ (next _ _ _ t.1) (c.in_ok-stated.was ∙ ap Ok c.in_default.is))

pub returns-clause-found_after : goal.returns-clause-found_after
returns-clause-found_after c = at_last _ _ _ _ _ _ _ _ _ _ _ (omega (arith, end c.into_iter-p-iterator.ensures.into_iter_gives _ c.places-p-items.ensures _ _ c.loop-p.yielded_by c.next.new.self c.next.ensures.steps c.in-None.is)) c.loop-p.invariant

pub returns-clause-stated_within : goal.returns-clause-stated_within
returns-clause-stated_within c = at_end c.loop-p.invariant (room-kept c.loop-p.auto.atoms c.loop-p.auto.found c.requires.roomy)
