-- `timetable::write_header` meets its contract: four words, each stored where the one before it ends.
use Rattle.timetable.proofs.Writing.{header_stored}
use Rattle.timetable.proofs.write_header.Goals as goal

pub returns : goal.returns
returns c =
    let put_word = c.put_word in
    let put-word2 = c.put_word-2 in
    let put-word3 = c.put_word-3 in
    header_stored _ _ _ _ _ _ _ put_word.ensures put-word2.ensures put-word3.ensures c.put_word-4.ensures
