-- Believed: how much of a text and of a candidate is ever asked for, as one statement about what `Judged` allows. Assumes nothing.
use Rattle.std.specs.Prelude.{ℕ, ◌↔◌, take}
use Rattle.judge.specs.Plan.{Asked, Rooms, asked}
use Rattle.judge.specs.Judged.{Result, Judged}

-- the first n bytes of both
abbrev pub fronts : ℕ → Asked → Asked
fronts n a = asked (take n a.text) (take n a.cand)

-- what stands behind the first 65,536 bytes of either changes nothing
abbrev pub Fronts : Type 0
Fronts = (a : Asked) (b : Rooms) (r : Result) → Judged (fronts 65536 a) b r ↔ Judged a b r
