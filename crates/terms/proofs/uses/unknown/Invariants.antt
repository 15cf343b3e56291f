-- `unknown`: the leftmost of those left decides the whole; each turn passes one that is entered.
use Prim.Native.Nat.{◌+◌}
use Rattle.terms.proofs.Using.{Passing}
use Rattle.terms.proofs.uses.unknown.Given as goal

abbrev pub invariant-loop-i : goal.invariant-loop-i
invariant-loop-i l = Passing l.tape l.table (l.q + l.k) l.k l.n l.i
