-- `take_term`: its number is within the table of terms; what becomes of it tells the turn.
use native.Mathlib.Omega.{arith}
use Rattle.aspif.proofs.Walking.{after-inside}
use Rattle.terms.proofs.ByKind.{term-room}
use Rattle.terms.proofs.Turns.{term-defined}
use Rattle.terms.proofs.lines.LineAt.take_term.Goals as goal

pub define-requires : goal.define-requires
define-requires c =
    let pre = c.requires in
    (omega (arith, pre.short, after-inside pre.on), omega (arith, c.term_at-u.ensures, c.told-terms, term-room pre.on pre.role))

pub returns : goal.returns
returns c =
    let pre = c.requires in
    λ els seen. term-defined _ _ els seen _ pre.role _ c.term_at-u.ensures _ _ _ _ (c.term_use-unknown.ensures els seen)
    (omega (arith, c.term_at-u.ensures, c.told-terms, term-room pre.on pre.role)) c.define.ensures
