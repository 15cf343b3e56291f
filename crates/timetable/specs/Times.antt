-- Believed: what the reader of a time answers: docs/RULES.md, 'Timetable bytes'. Assumes nothing.
use Rattle.std.specs.Prelude.{ℕ, List, [], ◌∷◌, eqb}
use Rattle.basics.specs.Bools.{pick}
use Rattle.faults.specs.Answer.{Answer, got, refused}
use Rattle.timetable.specs.Table.{Record, content_of, is_table}

-- the time of name u among records, or 21
unfoldable pub time_among : ℕ → List Record → Answer ℕ
time_among u [] = refused 21 u
time_among u (r ∷ rs) = pick (eqb r.name u) (got r.time) (time_among u rs)

-- 20, or the time of name u, or 21
unfoldable pub time_of : List ℕ → ℕ → Answer ℕ
time_of s u = pick (is_table s) (time_among u (content_of s).records) (refused 20 0)
