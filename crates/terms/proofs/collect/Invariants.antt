-- `collect`: what is gathered, and what the lines to come give, is the answer; each turn takes one line.
use lib.ListN.{length}
use Rattle.aspif.specs.inner.Words.{place_of}
use Rattle.terms.proofs.Walks.{Underway}
use Rattle.terms.proofs.collect.Given as goal

abbrev pub invariant-loop-p : goal.invariant-loop-p
invariant-loop-p l =
    let i = length l.yielded in
    Underway l.text l.lines.tape.now l.lines.count (place_of l.lines.tape.now i) i l.m l.terms l.elements l.seen l.atoms l.found
