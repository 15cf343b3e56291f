-- `take_atom`: an unknown use, a second statement and one that is no difference are refused, in this order; else the atom is entered.
use native.Mathlib.Omega.{arith}
use mathlib.Core.Path.{sym, ap, ◌∙◌}
use Rattle.terms.specs.inner.Values.{as_option, as_said}
use Rattle.terms.proofs.ByKind.{atom-room}
use Rattle.terms.proofs.Turns.{turn_refused, atom-unknown, atom-second, atom_no_difference, atom-turned}
use Rattle.terms.proofs.lines.LineAt.take_atom.Goals as goal

pub returns-in-Some : goal.returns-in-Some
returns-in-Some c = turn_refused _ _ _ _ _ _ _ _ _ c.refusal.ensures
    (atom-unknown _ _ _ _ _ c.requires.role _ _ (ap as_option c.in-Some.is) (c.atom_use-unknown.ensures _))

pub bounds-seen-i : goal.bounds-seen-i
bounds-seen-i c = omega (arith, c.atom_at-a.ensures, atom-room c.requires.on c.requires.role)

pub returns-then-seen-i : goal.returns-then-seen-i
returns-then-seen-i c = turn_refused _ _ _ _ _ _ _ _ _ c.refusal-then-seen-i.ensures
    (atom-second _ _ _ _ _ c.requires.role (sym (ap as_option c.in_default.is) ∙ c.atom_use-unknown.ensures _) _ c.atom_at-a.ensures
    (sym c.if-seen-i.true))

pub returns-in_default-difference : goal.returns-in_default-difference
returns-in_default-difference c = turn_refused _ _ _ _ _ _ _ _ _ c.refusal-in_default-difference.ensures
    (atom_no_difference _ _ _ _ _ c.requires.role (sym (ap as_option c.in_default.is) ∙ c.atom_use-unknown.ensures _) _ c.atom_at-a.ensures
    (sym c.if-seen-i.false) (sym (ap as_said c.in_default-difference.is) ∙ c.difference.ensures))

pub bounds-seen-i-2 : goal.bounds-seen-i-2
bounds-seen-i-2 c = omega (arith, c.atom_at-a.ensures, atom-room c.requires.on c.requires.role)

pub returns : goal.returns
returns c =
    let pre = c.requires in
    let a = c.atom_at-a.ensures in
    atom-turned _ _ _ _ _ pre.role (sym (ap as_option c.in_default.is) ∙ c.atom_use-unknown.ensures _) _ a
    (sym c.if-seen-i.false) _ _ pre.on (sym (ap as_said c.in-Some-difference.is) ∙ c.difference.ensures)
    (omega (arith, a, c.told-seen, atom-room pre.on pre.role))
