-- `records_within`: whether the records that are left are within the bounds is the whole answer.
use mathlib.Core.Path.{◌≡◌}
use mathlib.Core.List.{map}
use lib.ListN.{drop}
use Rattle.timetable.specs.inner.Given.{record_read}
use Rattle.timetable.proofs.Reading.{records_left}
use Rattle.timetable.proofs.records_within.Given as goal

abbrev pub invariant-loop-record : goal.invariant-loop-record
invariant-loop-record l = records_left l.low (map record_read (drop l.record-index l.records)) ≡ records_left 0 (map record_read l.records)
