-- 11 or the timetable, as the judgement and the room say it.
use Prim.Native.Nat.{ℕ}
use mathlib.Core.Path.{◌≡◌}
use mathlib.Core.List.{List}
use Rattle.std.specs.Prelude.{Ok, Err}
use Rattle.basics.specs.inner.Bitmaps.{marked_from}
use Rattle.faults.specs.Answer.{got, refused}
use Rattle.faults.specs.Values.{number}
use Rattle.faults.specs.declared.Refusal.{Refusal}
use Rattle.timetable.specs.Table.{table_of}
use Rattle.timetable.specs.inner.Given.{given, time_at, WrittenTable}
use Rattle.judge.specs.Judged.{in_time, table, accepting}
use Rattle.judge.specs.Values.{rooms}
use Rattle.judge.specs.inner.Stages.{as_judged}

module _ (names times x room cycle : List ℕ) where
  -- some name is late
  pub refused-late : (r : Refusal) → refused (number r.kind) r.place ≡ in_time (marked_from 0 names) (time_at times)
      → as_judged (Err r) room cycle ≡ accepting (rooms room cycle) (table (marked_from 0 names) (time_at times) (marked_from 1 x))
  unfolding table
  refused-late r e = rw (← e)

  -- no name is late, and the table is written
  pub accepted-table : got tt ≡ in_time (marked_from 0 names) (time_at times) → (room' : List ℕ) (n : ℕ) → WrittenTable (table_of (given names times x)) room room' n
      → as_judged (Ok n) room' cycle ≡ accepting (rooms room cycle) (table (marked_from 0 names) (time_at times) (marked_from 1 x))
  unfolding table given
  accepted-table e room' n w = rw (← e, w.is, w.count)
