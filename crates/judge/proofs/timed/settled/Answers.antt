-- `settled`: a cycle is shown as `decide` left it; earliest times are never late, so they can be written.
use Rattle.judge.proofs.Blank.{labelled_given}
use Rattle.judge.proofs.Lateness.{earliest_writable}
use Rattle.judge.proofs.Settling.{times_of, settled-times, settled-cycle}
use Rattle.judge.proofs.timed.settled.Goals as goal

pub decide-requires : goal.decide-requires
decide-requires c = labelled_given c.requires.labelled c.requires.candidate.1.places

pub returns-in-Some : goal.returns-in-Some
returns-in-Some c = rw c.at.ensures (settled-cycle _ _ _ _ _ _ _ _ _ c.decide.ensures _ c.in-Some.is)

pub written-requires : goal.written-requires
written-requires c =
    earliest_writable _ _ c.requires.labelled _ _ _ _ (times_of _ _ _ _ _ _ c.decide.ensures c.in_default.is).earliest
    c.told-names c.decide.array_long c.requires.candidate.0 c.requires.candidate.1.bytes

pub returns : goal.returns
returns c = settled-times _ _ _ _ _ _ _ _ _ c.decide.ensures c.in_default.is _ _ c.written.ensures
