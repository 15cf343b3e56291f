-- `functor_use`: t is unknown if it is a term number without an entry.
use mathlib.Core.Bool.{not}
use mathlib.Core.Path.{ap, ◌∙◌}
use Rattle.terms.proofs.Using.{functor-none, functor-unknown, functor-known}
use Rattle.terms.proofs.uses.functor_use.Goals.{else-is_term-via-then-is_term+else-is_none, else-is_term-via-else-is_term}
use Rattle.terms.proofs.uses.functor_use.Goals as goal

pub returns-then-is_none : goal.returns-then-is_none
returns-then-is_none c = functor-unknown _ _ _ c.is_term.ensures _ c.if-is_term.true c.entry.ensures c.if-is_none.ensures

pub returns : goal.returns
returns c = elim c.else-is_term.branch [
  | else-is_term-via-then-is_term+else-is_none w ↦ functor-known _ _ _ c.is_term.ensures _ w.if-is_term.true w.entry.ensures
      (w.is_none.ensures ∙ ap not w.if-is_none.false)
  | else-is_term-via-else-is_term w ↦ functor-none _ c.args.t _ c.is_term.ensures w.if-is_term.false
]
