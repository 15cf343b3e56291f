-- `same`: what is left of both strings decides the whole; each turn passes one byte that is the same.
use Rattle.terms.proofs.Strings.{Same}
use Rattle.terms.proofs.difference.same.Given as goal

abbrev pub invariant-loop-i : goal.invariant-loop-i
invariant-loop-i l = Same l.tape l.q l.n l.wanted l.i
