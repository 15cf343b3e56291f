-- `read_full`: what was read stands at the start of the buffer, in its order, and the reader has lost no other byte. Assumes nothing.
use Rattle.std.proofs.Common.{◌-◌, ◌≤◌, length, take}
use Rattle.std.specs.Io.KnownBytes.{Consumes}
use Rattle.files.proofs.read_full.Given as goal

abbrev pub invariant-loop-done : goal.invariant-loop-done
invariant-loop-done g l = record {
  within : l.done ≤ length l.buf;
  taken : Consumes (g.F.Read.remaining l.initial.file) (g.F.Read.remaining l.file) (take l.done l.buf);
}

-- how many places are left
abbrev pub decreases-loop-done : goal.decreases-loop-done
decreases-loop-done g l = length l.buf - l.done
