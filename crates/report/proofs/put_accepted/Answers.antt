-- `put_accepted`: the word, the counts and the records. Assumes nothing.
use Rattle.report.proofs.Listing.{accepted-fits, counts_fit, records_fit, accepted-put}
use Rattle.report.proofs.put_accepted.Goals as goal

pub put-a-requires : goal.put-a-requires
put-a-requires c = accepted-fits _ _ c.requires.1

pub put_two-b-requires : goal.put_two-b-requires
put_two-b-requires c = rw (c.from.ensures, c.word_at-n.ensures, c.from-2.ensures, c.word_at-m.ensures) (counts_fit _ _ c.requires.1 c.put-a.ensures)

pub put_records-requires : goal.put_records-requires
put_records-requires c =
    let counts = rw (c.from.ensures, c.word_at-n.ensures, c.from-2.ensures, c.word_at-m.ensures) at c.put_two-b.ensures in
    rw c.word_at-n.ensures (c.requires.0, records_fit _ _ c.requires.1 c.put-a.ensures counts)

pub returns : goal.returns
returns c =
    let counts = rw (c.from.ensures, c.word_at-n.ensures, c.from-2.ensures, c.word_at-m.ensures) at c.put_two-b.ensures in
    accepted-put _ _ c.put-a.ensures counts (rw c.word_at-n.ensures at c.put_records.ensures)
