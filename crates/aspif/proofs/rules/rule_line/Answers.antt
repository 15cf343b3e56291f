-- `aspif::rules::rule_line` meets its contract: the words so far grow with each field. Assumes nothing.
use mathlib.Core.Path.{sym, ◌∙◌}
use mathlib.Core.List.{[], ◌∷◌}
use Rattle.fields.specs.inner.Tape.{listed}
use Rattle.fields.proofs.Taping.{wrote, on_start, on_more, on_last}
use Rattle.aspif.specs.Grammar.{rule_line}
use Rattle.aspif.proofs.Coding.{head_forth, heads-few}
use Rattle.aspif.proofs.Far.{kind_far}
use Rattle.aspif.proofs.rules.rule_line.Goals as goal

pub returns : goal.returns
unfolding rule_line
returns c =
    let w = wrote listed _ _ _ c.in_ok-d.ensures in
    let begun = c.begin-out.ensures in
    let head = head_forth _ w.value (kind_far _ _ _ c.in_ok-kind.ensures).0 (heads-few _ _ _ _ _ (sym w.is)) in
    rw (← c.in_ok-kind.ensures, w.is) (c.body.ensures ∙ on_last _ _ _ _ _ _ _
    (on_more _ _ _ (listed w.value) (on_more _ _ _ (_ ∷ _ ∷ []) (on_start _ _) begun.0 begun.1) w.tape w.next) (λ b. rw head))
