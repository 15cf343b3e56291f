-- `list_at`: the words behind the count are those of the list. Assumes nothing.
use borrow.Author.Rules.{rules}
use native.Mathlib.Omega.{arith}
use Prim.Native.Nat.{◌+◌, ◌-◌}
use mathlib.Core.Path.{◌≡◌}
use lib.ListN.{get_or}
use Rattle.aspif.specs.inner.Words.{word}
use Rattle.stable.proofs.Lines.{words_cut}
use Rattle.stable.proofs.list_at.Goals as goal

pub slice_bounds-result-end : goal.slice_bounds-result-end
unfolding word
slice_bounds-result-end c = search rules

pub returns : goal.returns
unfolding word
returns c =
    let at = c.args.at in
    let n = get_or c.args.tape.now at 0 in
    let e : at + 1 + n - (at + 1) ≡ n = omega arith in
    rw e (words_cut c.args.tape.now (at + 1) n c.requires.at_in_bounds)
