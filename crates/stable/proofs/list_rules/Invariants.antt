-- `list_rules`: a rule of the lines is written or is ahead; each takes eight words or more, so the index has room. Assumes nothing.
use lib.ListN.{length}
use Rattle.aspif.specs.inner.Words.{place_of}
use Rattle.stable.proofs.Listing.{Listing}
use Rattle.stable.proofs.list_rules.Given as goal

abbrev pub invariant-loop-p : goal.invariant-loop-p
invariant-loop-p l =
    let i = length l.yielded in
    Listing l.lines.tape.now l.lines.count l.index (length l.initial.index) l.m (place_of l.lines.tape.now i) i
