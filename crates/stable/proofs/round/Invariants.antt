-- `round`: each visit adds only what every model has, and nothing where nothing is new. Assumes nothing.
use Rattle.basics.specs.inner.Bitmaps.{is_marked}
use Rattle.stable.proofs.Rounds.{Turn}
use Rattle.stable.proofs.round.Given as goal

abbrev pub invariant-loop-q : goal.invariant-loop-q
invariant-loop-q l = Turn (is_marked l.x) l.tape l.index l.initial.found l.found l.added l.q-index
