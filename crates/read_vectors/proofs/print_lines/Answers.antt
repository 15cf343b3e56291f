-- `print_lines`: the lines that are left stand ahead. Assumes nothing.
use Rattle.std.proofs.Common.{◌≡◌, ◌-◌, ◌+◌, length, arith, rules}
use Rattle.std.proofs.lemmas.List.{length_push}
use Rattle.aspif.proofs.Places.{turn, next}
use Rattle.aspif.proofs.Walking.{ahead_starts, ahead-next}
use Rattle.read_vectors.proofs.print_lines.Goals as goal

pub after_at-end-requires : goal.after_at-end-requires
after_at-end-requires g c =
    let t = turn c.into_iter-p-iterator.ensures.into_iter_gives _ c.places-p-items.ensures _ _ c.loop-p.yielded_by c.next.new.self c.next.ensures.steps c.in-Some.is in
    let walk = rw (← t.1) at c.loop-p.invariant in
    ahead_starts _ _ _ walk

pub offset_bounds-tape-p : goal.offset_bounds-tape-p
offset_bounds-tape-p g c =
    let t = turn c.into_iter-p-iterator.ensures.into_iter_gives _ c.places-p-items.ensures _ _ c.loop-p.yielded_by c.next.new.self c.next.ensures.steps c.in-Some.is in
    let walk = rw (← t.1) at c.loop-p.invariant in
    let here = ahead_starts _ _ _ walk in
    search rules

pub slice_bounds-print_line-end : goal.slice_bounds-print_line-end
slice_bounds-print_line-end g c =
    let t = turn c.into_iter-p-iterator.ensures.into_iter_gives _ c.places-p-items.ensures _ _ c.loop-p.yielded_by c.next.new.self c.next.ensures.steps c.in-Some.is in
    let walk = rw (← t.1) at c.loop-p.invariant in
    let behind = ahead_starts _ _ _ (ahead-next _ _ _ (omega (arith, t.0)) walk).1 in
    search rules

pub loop-p-preserved : goal.loop-p-preserved
loop-p-preserved g c =
    let t = turn c.into_iter-p-iterator.ensures.into_iter_gives _ c.places-p-items.ensures _ _ c.loop-p.yielded_by c.next.new.self c.next.ensures.steps c.in-Some.is in
    let walk = rw (← t.1) at c.loop-p.invariant in
    let left : c.args.lines.count - (length c.loop-p.yielded + 1) ≡ c.args.lines.count - length c.loop-p.yielded - 1 = omega arith in
    rw (length_push c.loop-p.yielded c.in-Some.p, next _ _ _ t.1, left) (ahead-next _ _ _ (omega (arith, t.0)) walk).1
