-- `unfounded_by`: the models by the index are the models by the lines, so what was sought is the answer. Assumes nothing.
use Rattle.stable.specs.inner.Values.{as_unfounded}
use Rattle.aspif.proofs.Candidates.{blank_zeros}
use Rattle.stable.proofs.Joining.{answer}
use Rattle.stable.proofs.unfounded_by.Goals as goal

pub least-requires-clause-blank : goal.least-requires-clause-blank
least-requires-clause-blank g c = blank_zeros

pub returns : goal.returns
returns g c = answer c.list_rules-rules.ensures _ _ _ c.least.ensures (as_unfounded c.seek.result) c.seek.ensures
