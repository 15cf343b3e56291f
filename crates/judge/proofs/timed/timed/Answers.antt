-- `timed`: the front parts that `gather` left are the differences in force, whatever lines state them.
use Rattle.faults.specs.inner.Places.{term_places}
use Rattle.terms.proofs.Marking.{marks-zeros}
use Rattle.judge.proofs.Gathering.{fronts_alike, gathered_labelled}
use Rattle.judge.proofs.Settling.{settled-timed}
use Rattle.judge.proofs.timed.timed.Goals as goal

pub mark_names-requires : goal.mark_names-requires
mark_names-requires c = marks-zeros term_places

pub settled-requires-clause-labelled : goal.settled-requires-clause-labelled
settled-requires-clause-labelled c =
    let g = c.gather-n.ensures in
    gathered_labelled _ _ c.requires.filled.0 _ c.requires.filled.1 _ _ (fronts_alike g.within) g.is

pub returns : goal.returns
returns c =
    let g = c.gather-n.ensures in
    λ ls h. settled-timed ls _ _ h _ c.requires.filled.1 _ _ (fronts_alike g.within) g.is _ c.mark_names.ensures _ _ c.settled.ensures
