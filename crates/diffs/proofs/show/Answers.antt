-- `show`: the labels of the first j entries are written, and no other place of the room.
use Rattle.diffs.specs.inner.Answer.{cell}
use Rattle.diffs.proofs.Laying.{one_more}
use Rattle.diffs.proofs.show.Goals as goal

pub loop-j-preserved : goal.loop-j-preserved
loop-j-preserved c =
    let a = c.args in
    let l = c.loop-j in
    rw l.invariant (one_more (cell a.labels.now) a.part.now a.room.now l.j c.loop-j-test.true c.requires.1)
