-- `term_use`: a compound uses its t, or else its arguments.
use Prim.Native.Nat.{◌+◌}
use borrow.Author.Rules.{rules}
use Rattle.std.proofs.Common.{of_calls}
use Rattle.aspif.specs.inner.Words.{words_from}
use Rattle.terms.specs.Reasons.{unknown_from}
use Rattle.terms.specs.inner.Tables.{entered}
use Rattle.terms.proofs.Using.{or_else_is, term_plain, term_compound}
use Rattle.terms.proofs.uses.term_use.Goals as goal

pub returns-then-kind-ne-COMPOUND : goal.returns-then-kind-ne-COMPOUND
returns-then-kind-ne-COMPOUND c = λ els seen. term_plain _ _ els seen _ c.requires.1 _ c.word_at-kind.ensures.0 c.if-kind-ne-COMPOUND.true

pub returns : goal.returns
returns c =
    let args = c.args in
    let n = c.word_at-n.result in
    λ els seen. term_compound _ _ els seen _ c.requires.1 _ c.word_at-kind.ensures.0 c.if-kind-ne-COMPOUND.false _ _ _
    c.word_at-t.ensures.0 c.word_at-n.ensures.0 (or_else_is _ _ _ (unknown_from (entered args.terms.now) 5 (words_from args.tape.now (args.q + 4) n)) _ c.or_else.ensures c.functor_use.ensures (λ e. search (rules, of_calls, e)))
