-- `read_full`: a read adds its part right behind what was read before. Assumes nothing.
use Rattle.std.proofs.Common.{rules}
use Rattle.files.proofs.Reading.{taken_more, front_more}
use Rattle.files.proofs.read_full.Goals as goal

pub loop-done-preserved : goal.loop-done-preserved
loop-done-preserved g c =
    let before = c.loop-done.invariant in
    let part = c.in-Ok.ensures in
    record {
      within = search rules;
      taken = rw (front_more _ _ _ _ _ before.within part.bound.0) (taken_more _ _ _ _ _ before.taken part.bytes.0);
    }
