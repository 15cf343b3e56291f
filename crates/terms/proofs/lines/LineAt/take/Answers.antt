-- `take`: by the role of the line, which its kind tells.
use Rattle.terms.proofs.ByKind.{role_is}
use Rattle.terms.proofs.Turns.{other_turned}
use Rattle.terms.proofs.lines.LineAt.take.Goals as goal

pub returns-in-Term : goal.returns-in-Term
returns-in-Term c = c.take_term.ensures _ _

pub returns-in-Element : goal.returns-in-Element
returns-in-Element c = c.take_element.ensures _

pub returns-in-Other : goal.returns-in-Other
returns-in-Other c = other_turned _ _ _ _ _ _ (role_is _ _ _ _ _ c.word_at-kind.ensures.0 c.role_of-role.ensures c.in-Other.is)
