-- `take_element`: its number is within the table of elements; what becomes of it tells the turn.
use native.Mathlib.Omega.{arith}
use Rattle.aspif.proofs.Walking.{after-inside}
use Rattle.terms.proofs.ByKind.{element_room}
use Rattle.terms.proofs.Turns.{element-defined}
use Rattle.terms.proofs.lines.LineAt.take_element.Goals as goal

pub define-requires : goal.define-requires
define-requires c =
    let pre = c.requires in
    (omega (arith, pre.short, after-inside pre.on), omega (arith, c.element_at-v.ensures, c.told-elements, element_room pre.on pre.role))

pub returns : goal.returns
returns c =
    let pre = c.requires in
    λ seen. element-defined _ _ _ seen _ pre.role _ c.element_at-v.ensures _ _ _ _ (c.element_use-unknown.ensures _ seen)
    (omega (arith, c.element_at-v.ensures, c.told-elements, element_room pre.on pre.role)) c.define.ensures
