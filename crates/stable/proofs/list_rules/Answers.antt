-- `list_rules`: a rule of the lines is written or is ahead; each takes eight words or more, so the index has room. Assumes nothing.
use borrow.Author.Rules.{rules}
use mathlib.Core.Path.{refl}
use native.Mathlib.Omega.{arith}
use Rattle.std.proofs.lemmas.List.{length_push}
use Rattle.aspif.proofs.Places.{turn, end, next}
use Rattle.stable.proofs.Listing.{here, room, put, pass, fits, whole}
use Rattle.stable.proofs.list_rules.Goals as goal

pub overflow_add-q : goal.overflow_add-q
overflow_add-q c =
    let t = turn c.into_iter-p-iterator.ensures.into_iter_gives _ c.places-p-items.ensures _ _ c.loop-p.yielded_by c.next.new.self c.next.ensures.steps c.in-Some.is in
    let walk = rw (← t.1) at c.loop-p.invariant in
    omega (arith, here walk t.0, c.requires)

pub overflow_cast-index : goal.overflow_cast-index
overflow_cast-index c =
    let t = turn c.into_iter-p-iterator.ensures.into_iter_gives _ c.places-p-items.ensures _ _ c.loop-p.yielded_by c.next.new.self c.next.ensures.steps c.in-Some.is in
    let walk = rw (← t.1) at c.loop-p.invariant in
    record { fits = omega (arith, here walk t.0, c.requires) }

pub bounds-index-m : goal.bounds-index-m
bounds-index-m c =
    let t = turn c.into_iter-p-iterator.ensures.into_iter_gives _ c.places-p-items.ensures _ _ c.loop-p.yielded_by c.next.new.self c.next.ensures.steps c.in-Some.is in
    let walk = rw (← t.1) at c.loop-p.invariant in
    omega (arith, room walk t.0 c.word_at.ensures.0 c.if-word_at-eq-RULE.true, walk.long)

pub offset_bounds-index-m : goal.offset_bounds-index-m
offset_bounds-index-m c =
    let t = turn c.into_iter-p-iterator.ensures.into_iter_gives _ c.places-p-items.ensures _ _ c.loop-p.yielded_by c.next.new.self c.next.ensures.steps c.in-Some.is in
    let walk = rw (← t.1) at c.loop-p.invariant in
    omega (arith, room walk t.0 c.word_at.ensures.0 c.if-word_at-eq-RULE.true, walk.long, c.requires)

pub overflow_add-m : goal.overflow_add-m
overflow_add-m c =
    let t = turn c.into_iter-p-iterator.ensures.into_iter_gives _ c.places-p-items.ensures _ _ c.loop-p.yielded_by c.next.new.self c.next.ensures.steps c.in-Some.is in
    let walk = rw (← t.1) at c.loop-p.invariant in
    omega (arith, room walk t.0 c.word_at.ensures.0 c.if-word_at-eq-RULE.true, walk.long, c.requires)

pub loop-p-preserved-then-word_at-eq-RULE : goal.loop-p-preserved-then-word_at-eq-RULE
loop-p-preserved-then-word_at-eq-RULE c =
    let t = turn c.into_iter-p-iterator.ensures.into_iter_gives _ c.places-p-items.ensures _ _ c.loop-p.yielded_by c.next.new.self c.next.ensures.steps c.in-Some.is in
    let walk = rw (← t.1) at c.loop-p.invariant in
    rw (length_push c.loop-p.yielded c.in-Some.p) (put walk t.0 c.word_at.ensures.0 c.if-word_at-eq-RULE.true refl refl (next _ _ _ t.1))

pub loop-p-preserved : goal.loop-p-preserved
loop-p-preserved c =
    let t = turn c.into_iter-p-iterator.ensures.into_iter_gives _ c.places-p-items.ensures _ _ c.loop-p.yielded_by c.next.new.self c.next.ensures.steps c.in-Some.is in
    let walk = rw (← t.1) at c.loop-p.invariant in
    rw (length_push c.loop-p.yielded c.in-Some.p) (pass walk t.0 c.word_at.ensures.0 c.if-word_at-eq-RULE.false refl refl (next _ _ _ t.1))

pub slice_bounds-result-end : goal.slice_bounds-result-end
slice_bounds-result-end c = let room = fits c.loop-p.invariant in search rules

pub returns : goal.returns
returns c = whole c.loop-p.invariant (omega (arith, end c.into_iter-p-iterator.ensures.into_iter_gives _ c.places-p-items.ensures _ _ c.loop-p.yielded_by c.next.new.self c.next.ensures.steps c.in-None.is))
