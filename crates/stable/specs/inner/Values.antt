-- Inner: what each answer of the code stands for. Assumes nothing.
use Rattle.std.specs.Prelude.{ℕ, Option, Some, None}
use Rattle.faults.specs.declared.AtomNo.{AtomNo}
use Rattle.stable.specs.Meaning.{Broken, unbroken, broken_at, Founding, founded, unfounded_at}

-- the first broken rule, by the place of its line
abbrev pub as_broken : Option ℕ → Broken
as_broken None = unbroken
as_broken (Some p) = broken_at p

-- the smallest unfounded atom
abbrev pub as_unfounded : Option AtomNo → Founding
as_unfounded None = founded
as_unfounded (Some a) = unfounded_at a.0
