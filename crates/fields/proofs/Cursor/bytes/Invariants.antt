-- `fields::Cursor::bytes` meets its contract. The invariant: the bytes from `b` on are read from `c` on. Assumes nothing.
use mathlib.Core.Path.{◌≡◌}
use mathlib.Core.Bool.{true}
use lib.ListN.{drop}
use Rattle.fields.specs.Fields.{all_positive, bytes}
use Rattle.fields.proofs.Cursor.bytes.Given as goal

abbrev pub invariant-loop-b : goal.invariant-loop-b
invariant-loop-b l = (bytes (drop l.b-index l.word) l.s l.c.at ≡ bytes l.word l.s l.initial.c.at) × (all_positive (drop l.b-index l.word) ≡ true)
