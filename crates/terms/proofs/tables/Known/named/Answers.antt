-- `named`: the statement of a string, whose bytes are compared.
use mathlib.Core.Path.{◌∙◌}
use Rattle.terms.proofs.Reading.{string_out, string-is}
use Rattle.terms.proofs.tables.Known.named.Goals as goal

pub returns-in_default : goal.returns-in_default
returns-in_default c = string_out _ _ _ _ c.in_default.ensures

pub returns : goal.returns
returns c = c.same.ensures ∙ string-is _ _ _ _ _ _ c.in-Some.ensures c.word_at-n.ensures.0
