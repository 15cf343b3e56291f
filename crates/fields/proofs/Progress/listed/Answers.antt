-- `fields::Progress::listed` meets its contract: an item is ahead of its place on the tape, and within the text. Assumes nothing.
use native.Mathlib.Omega.{arith}
use lib.ListN.{length-set}
use Rattle.fields.proofs.Readers.{item-within}
use Rattle.fields.proofs.Progress.listed.Goals as goal

pub bounds-tape-o : goal.bounds-tape-o
bounds-tape-o c =
    let h = simp length-set at c.loop-o.auto.tape in
    omega (arith, item-within _ _ _ _ _ c.in_ok-v.ensures)
