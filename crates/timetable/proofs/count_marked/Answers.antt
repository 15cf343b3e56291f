-- `count_marked`: as many are marked as places hold 1.
use borrow.Author.Rules.{rules}
use borrow.Author.Tests.{tests}
use mathlib.Core.Path.{◌∙◌}
use lib.Dec.{eqb}
use Rattle.std.proofs.lemmas.Iterator.{YieldsList-from_slice}
use Rattle.std.proofs.lemmas.Iterator.Adapters.{YieldsList-from_skip}
use Rattle.std.proofs.lemmas.Iterator.Consumers.{YieldsList-from_filter, count_from_yields_List}
use Rattle.basics.specs.inner.Bitmaps.{marked_from}
use Rattle.timetable.proofs.Marks.{count-marks}
use Rattle.timetable.proofs.count_marked.Goals as goal

pub returns-clause-value : goal.returns-clause-value
unfolding marked_from
returns-clause-value c =
    count_from_yields_List c.filter.result c.count.result c.count.ensures.ran
    (YieldsList-from_filter _ (λ b. eqb b 1) (YieldsList-from_skip c.args.from (YieldsList-from_slice c.args.map.now cc) cc) c.filter.ensures.closure (λ x b q k. search (rules, tests)))
    ∙ count-marks _ _
