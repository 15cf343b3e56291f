-- `aspif::rules::output_line` meets its contract: the words so far grow with each field. Assumes nothing.
use mathlib.Core.Path.{◌∙◌}
use mathlib.Core.List.{[], ◌∷◌}
use Rattle.fields.specs.Fields.{string}
use Rattle.fields.specs.inner.Tape.{listed}
use Rattle.fields.proofs.Taping.{wrote, on_start, on_more, on_last}
use Rattle.aspif.specs.Grammar.{output_line}
use Rattle.aspif.proofs.Coding.{literals_forth}
use Rattle.aspif.proofs.rules.output_line.Goals as goal

pub returns : goal.returns
unfolding output_line string
returns c =
    let w = wrote listed _ _ _ c.in_ok-d.ensures in
    let kind = c.put-out.ensures in
    rw (← c.in_ok-n.ensures, w.is) (c.literals.ensures ∙ on_last _ _ _ _ _ _ _
    (on_more _ _ _ (listed w.value) (on_more _ _ _ (_ ∷ []) (on_start _ _) kind.0 kind.1) w.tape w.next) (λ ls. rw literals_forth))
