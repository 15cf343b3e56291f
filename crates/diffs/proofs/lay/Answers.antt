-- `lay`: the walk's end is shown first, then its front.
use mathlib.Core.Path.{refl}
use native.Mathlib.Omega.{arith}
use Rattle.std.proofs.lemmas.List.{take_rest}
use Rattle.diffs.specs.inner.Answer.{cell}
use Rattle.diffs.proofs.Laying.{all-written}
use Rattle.diffs.proofs.lay.Goals as goal

pub returns : goal.returns
returns c =
    let w = c.args.walk.now in
    let q = c.least-q in
    record {
      first = q.result;
      least = q.ensures;
      count = refl;
      shown = all-written (cell c.args.labels.now) w _ _ c.args.room.now _ _ q.result _ _ (omega (arith, q.ensures.before)) c.requires.start_in_bounds refl
          (omega (arith, c.show.auto.room)) (take_rest w q.result) refl c.show.ensures c.show-2.ensures;
    }
