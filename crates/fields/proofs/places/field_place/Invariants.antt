-- `field_place`: the place of the field that is so many further on, reckoned from `place`, is the place that is asked.
use Prim.Native.Nat.{◌-◌}
use mathlib.Core.Path.{◌≡◌}
use Rattle.fields.specs.Fields.{field_place}
use Rattle.fields.proofs.places.field_place.Given as goal

abbrev pub invariant-loop : goal.invariant-loop
invariant-loop l = field_place l.s (l.k - l.counter) l.place ≡ field_place l.s l.k l.at
