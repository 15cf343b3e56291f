-- `element_use`: an element uses its terms.
use Rattle.terms.proofs.Using.{element_terms}
use Rattle.terms.proofs.uses.element_use.Goals as goal

pub returns : goal.returns
returns c = λ els seen. element_terms _ _ els seen _ c.requires.1 _ _ c.word_at-n.ensures.0 c.unknown.ensures
