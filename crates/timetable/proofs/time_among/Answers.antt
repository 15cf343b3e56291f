-- `time_among`: the first record of the name answers.
use borrow.Author.Rules.{rules}
use borrow.Author.Tests.{tests}
use mathlib.Core.Path.{ap, ◌∙◌}
use lib.Dec.{eqb}
use Rattle.std.proofs.lemmas.Iterator.{YieldsList-from_slice}
use Rattle.std.proofs.lemmas.Iterator.Search.{find_from_yields_List}
use Rattle.timetable.specs.Word.{word_at}
use Rattle.timetable.proofs.Reading.{time_found, time_first}
use Rattle.timetable.proofs.time_among.Goals as goal

pub returns-in_default : goal.returns-in_default
unfolding time_found
returns-in_default c =
    let u = c.args.name.0 in
    let f = find_from_yields_List (λ b. eqb (word_at b 0) u) _ _ c.find.result c.find.ensures.ran (YieldsList-from_slice c.args.records.now cc) (λ x b q k. search (rules, tests)) in
    rw c.at.ensures (ap (time_found u) (rw c.in_default.is at f) ∙ time_first u _)

pub returns : goal.returns
unfolding time_found
returns c =
    let u = c.args.name.0 in
    let f = find_from_yields_List (λ b. eqb (word_at b 0) u) _ _ c.find.result c.find.ensures.ran (YieldsList-from_slice c.args.records.now cc) (λ x b q k. search (rules, tests)) in
    rw c.word_at.ensures (ap (time_found u) (rw c.in-Some.is at f) ∙ time_first u _)
