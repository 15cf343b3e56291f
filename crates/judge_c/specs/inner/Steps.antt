-- Inner: what the functions below the exported ones ask and answer. Assumes nothing.
use Rattle.std.specs.Prelude.{◌<◌}
use Rattle.judge.specs.declared.Verdict.{Verdict}
use Rattle.judge.specs.declared.Verdict.TheVariants.{Accepted, Refused}
use Rattle.judge_c.specs.Packed.{half}

-- the lower half holds a verdict's length or place
abbrev pub Fitting : Verdict → Type 0
Fitting (Accepted n) = n < half
Fitting (Refused f) = f.place < half
