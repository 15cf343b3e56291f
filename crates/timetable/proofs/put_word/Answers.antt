-- `put_word`: the four bytes that are copied are the number's.
use native.Mathlib.Omega.{arith}
use mathlib.Core.Path.{◌∙◌}
use Rattle.timetable.specs.Word.{four_bytes}
use Rattle.timetable.proofs.Words.{word-stored}
use Rattle.timetable.proofs.put_word.Goals as goal

pub returns : goal.returns
unfolding four_bytes
returns c = word-stored _ _ _ c.args.w _ c.requires (omega arith) (c.copy_from_slice.ensures.after ∙ c.to_le_bytes.ensures)
