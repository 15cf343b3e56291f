-- `atom_use`: name, or else elements, or else operator and bound.
use Prim.Native.Nat.{◌+◌}
use borrow.Author.Rules.{rules}
use Rattle.std.proofs.Common.{of_calls}
use Rattle.aspif.specs.inner.Words.{words_from}
use Rattle.terms.specs.Reasons.{unknown_from}
use Rattle.terms.specs.inner.Tables.{entered}
use Rattle.terms.proofs.Using.{or_else_is, atom_uses, guarded}
use Rattle.terms.proofs.uses.atom_use.Goals as goal

pub returns : goal.returns
returns c =
    let known = c.args.known.now in
    let n = c.word_at-n.result in
    λ seen. atom_uses _ _ _ seen _ c.requires.1 _ c.word_at-n.ensures.0 _
    (or_else_is _ _ _ (guarded known.tape.now known.terms.now known.elements.now seen c.args.q c.requires.1 n c.word_at-n.ensures.0) _ c.or_else-2.ensures
    (or_else_is _ _ _ (unknown_from (entered known.elements.now) 5 (words_from known.tape.now (c.args.q + 4) n)) _ c.or_else.ensures c.unknown.ensures (λ e. search (rules, of_calls, e)))
    (λ e. search (rules, of_calls, e)))
