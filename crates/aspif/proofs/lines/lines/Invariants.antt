-- `aspif::lines::lines` meets its contract: with each turn what is left to read gives the whole answer, and the tape has the words
-- of the lines so far (Turns). Assumes nothing.
use Rattle.aspif.specs.Grammar.{lines}
use Rattle.aspif.proofs.Turns.{Reached}
use Rattle.aspif.proofs.lines.lines.Given as goal

abbrev pub invariant-loop-done : goal.invariant-loop-done
invariant-loop-done l = Reached l.first l.s l.n l.initial.tape (lines l.first l.n l.s l.initial.d.at) l.tape l.d.at l.o l.done
