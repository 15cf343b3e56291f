-- `entry`: what is read, or 0 past the end, is what `word` says.
use mathlib.Core.Path.{sym, ◌∙◌}
use borrow.Author.Tests.{ltb-false}
use Rattle.terms.proofs.Reading.{place_out, place_is}
use Rattle.terms.proofs.tables.entry.Goals as goal

pub returns-in_err-e : goal.returns-in_err-e
returns-in_err-e c = c.from_residual.ensures ∙ place_out _ _ (ltb-false _ _ (sym c.in_err-e.ensures.lookup.0))

pub returns : goal.returns
returns c = place_is _ _ _ _ (c.in_ok-e.ensures.lookup.3.1 0) c.checked_sub.ensures
