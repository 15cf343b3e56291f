-- `print_lines`: the lines that are left stand ahead. Assumes nothing.
use Rattle.std.proofs.Common.{◌-◌, length}
use Rattle.aspif.specs.inner.Kept.{Ahead}
use Rattle.aspif.specs.inner.Words.{place_of}
use Rattle.read_vectors.proofs.print_lines.Given as goal

abbrev pub invariant-loop-p : goal.invariant-loop-p
invariant-loop-p g l = let i = length l.yielded in Ahead l.fn.lines.tape.now (place_of l.fn.lines.tape.now i) (l.fn.lines.count - i)
