-- `timetable::put_record` meets its contract: the time is stored where the name ends.
use Rattle.timetable.proofs.Writing.{two-stored}
use Rattle.timetable.proofs.put_record.Goals as goal

pub returns : goal.returns
returns c = two-stored _ _ _ _ _ _ c.put_word.ensures c.put_word-2.ensures
