-- `word_at`: the four bytes are the number's.
use native.Mathlib.Omega.{arith}
use Rattle.timetable.specs.Word.{word_at}
use Rattle.timetable.proofs.word_at.Goals as goal

pub returns : goal.returns
unfolding word_at
returns c = let e = c.from_le_bytes.ensures in omega (arith, c.from_le_bytes.ensures)
