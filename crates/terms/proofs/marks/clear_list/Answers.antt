-- `clear_list`: those left and those cleared are all.
use Rattle.terms.proofs.Marking.{list-next, list_end}
use Rattle.terms.proofs.marks.clear_list.Goals as goal

pub loop-i-preserved : goal.loop-i-preserved
loop-i-preserved c = list-next _ _ c.loop-i-test.true c.atom_at-a.ensures c.mark.ensures c.loop-i.invariant

pub returns : goal.returns
returns c = list_end c.loop-i-test.false c.loop-i.invariant
