-- `aspif::theory::guarded_line` meets its contract: the words so far grow with each field. Assumes nothing.
use mathlib.Core.List.{[], ◌∷◌, append_assoc}
use Rattle.fields.proofs.Taping.{wrote, on_start, on_more, on_found}
use Rattle.aspif.specs.Grammar.{guarded_line}
use Rattle.aspif.specs.inner.Words.{guarded_kind, front_words}
use Rattle.aspif.proofs.theory.guarded_line.Goals as goal

pub returns : goal.returns
unfolding guarded_line
returns c =
    let w = wrote (front_words guarded_kind) _ _ _ c.in_ok-d.ensures in
    let so_far = on_more _ _ _ (front_words guarded_kind w.value) (on_start _ _) w.tape w.next in
    let operator = c.put-o1.ensures in
    let bound = c.put-out.ensures in
    rw (w.is, ← c.in_ok-g.ensures, ← c.in_ok-u.ensures) (on_found _ _ _ _ _ _
    (on_more _ _ _ (_ ∷ []) (on_more _ _ _ (_ ∷ []) so_far operator.0 operator.1) bound.0 bound.1) (rw append_assoc))
