-- `clear_heads`: the heads of the lines to come, and those cleared, are all.
use native.Mathlib.Omega.{arith}
use Rattle.aspif.proofs.Walking.{ahead-next}
use Rattle.std.proofs.lemmas.List.{length_push}
use Rattle.aspif.proofs.Places.{turn, end, next}
use Rattle.terms.proofs.Marking.{heads-next, heads_end}
use Rattle.terms.proofs.marks.clear_heads.Goals as goal

pub clear_line-requires : goal.clear_line-requires
clear_line-requires c =
    let t = turn c.into_iter-p-iterator.ensures.into_iter_gives _ c.places-p-items.ensures _ _ c.loop-p.yielded_by c.next.new.self c.next.ensures.steps c.in-Some.is in
    let walk = rw (← t.1) at c.loop-p.invariant in
    (ahead-next _ _ _ (omega (arith, t.0)) walk.ahead).0

pub loop-p-preserved : goal.loop-p-preserved
loop-p-preserved c =
    let t = turn c.into_iter-p-iterator.ensures.into_iter_gives _ c.places-p-items.ensures _ _ c.loop-p.yielded_by c.next.new.self c.next.ensures.steps c.in-Some.is in
    let walk = rw (← t.1) at c.loop-p.invariant in
    rw (length_push c.loop-p.yielded c.in-Some.p) (heads-next _ _ t.0 (next _ _ _ t.1) c.clear_line.auto.bits c.clear_line.ensures walk)

pub returns : goal.returns
returns c = heads_end (omega (arith, end c.into_iter-p-iterator.ensures.into_iter_gives _ c.places-p-items.ensures _ _ c.loop-p.yielded_by c.next.new.self c.next.ensures.steps c.in-None.is)) c.loop-p.invariant
