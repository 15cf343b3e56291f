-- `put_records`: a line for each record, and what is still to come fits behind what is written. Assumes nothing.
use Rattle.std.proofs.Common.{◌+◌, ◌-◌, ◌*◌}
use Rattle.timetable.specs.Table.{records_at}
use Rattle.report.specs.Report.{record_lines}
use Rattle.report.proofs.Putting.{Rest}
use Rattle.report.proofs.put_records.Given as goal

abbrev pub invariant-loop-i : goal.invariant-loop-i
invariant-loop-i l =
    Rest (record_lines (records_at l.table (l.n - l.i) (16 + 8 * l.i))) (record_lines (records_at l.table l.n 16)) l.initial.out l.at l.out l.end
