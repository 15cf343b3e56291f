-- `least`: what is found is in every model, and is a model once a round adds nothing. Assumes nothing.
use Prim.Native.Nat.{◌-◌}
use Rattle.stable.specs.inner.Steps.{marked_count}
use Rattle.basics.specs.inner.Bitmaps.{is_marked}
use Rattle.faults.specs.inner.Places.{atom_places}
use Rattle.stable.proofs.Rounds.{Between}
use Rattle.stable.proofs.least.Given as goal

abbrev pub invariant-loop : goal.invariant-loop
invariant-loop l = Between (is_marked l.x.marks.now) (is_marked l.ext) l.tape l.index l.found

abbrev pub decreases-loop : goal.decreases-loop
decreases-loop l = atom_places - marked_count l.found
