-- `clear_heads`: the heads of the lines to come, and those cleared, are all.
use lib.ListN.{length}
use Rattle.aspif.specs.inner.Words.{place_of}
use Rattle.terms.proofs.Marking.{Heading}
use Rattle.terms.proofs.marks.clear_heads.Given as goal

abbrev pub invariant-loop-p : goal.invariant-loop-p
invariant-loop-p l =
    let i = length l.yielded in
    Heading l.lines.tape.now l.lines.count l.initial.bits l.bits (place_of l.lines.tape.now i) i
