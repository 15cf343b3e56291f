-- `first_broken`: the lines ahead have the first broken rule of all lines, since those passed are whole. Assumes nothing.
use lib.ListN.{length}
use Rattle.basics.specs.inner.Bitmaps.{is_marked}
use Rattle.aspif.specs.inner.Words.{place_of}
use Rattle.stable.proofs.Breaking.{Passed}
use Rattle.stable.proofs.first_broken.Given as goal

abbrev pub invariant-loop-p : goal.invariant-loop-p
invariant-loop-p l =
    let i = length l.yielded in
    Passed (is_marked l.x) l.lines.tape.now l.lines.count (place_of l.lines.tape.now i) i
