-- `judge::show::show` meets its contract. Assumes nothing.
use mathlib.Core.Path.{sym, ◌∙◌}
use Rattle.judge.proofs.Parts.{behind_end, shows_text, shows_candidate, shows_none}
use Rattle.judge.proofs.show.show.Goals as goal

pub returns-then-in_text : goal.returns-then-in_text
returns-then-in_text c = shows_text _ _ _ _ _ c.part_from.ensures (sym c.in_text.ensures ∙ c.if-in_text.true)

pub returns-then-in_candidate : goal.returns-then-in_candidate
returns-then-in_candidate c = shows_candidate _ _ _ _ _ c.part_from-then-in_candidate.ensures (sym c.in_text.ensures ∙ c.if-in_text.false)
    (sym c.in_candidate.ensures ∙ c.if-in_candidate.true)

pub returns : goal.returns
returns c = shows_none _ _ _ _ _ (behind_end c.args.text.now) (sym c.in_text.ensures ∙ c.if-in_text.false)
    (sym c.in_candidate.ensures ∙ c.if-in_candidate.false)
