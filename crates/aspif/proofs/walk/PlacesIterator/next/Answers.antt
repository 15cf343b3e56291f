-- `next` of the places on a tape: the first line that is left, or none. Assumes nothing.
use Prim.Native.Nat.{◌-◌}
use native.Mathlib.Omega.{arith}
use borrow.Author.Rules.{rules}
use Rattle.aspif.proofs.Walking.{ahead_size, ahead-next, places_next, places-length, places_none}
use Rattle.aspif.proofs.walk.PlacesIterator.next.Goals as goal

pub returns-then-self-eq0-clause-steps : goal.returns-then-self-eq0-clause-steps
returns-then-self-eq0-clause-steps c = let e = places_none _ _ _ c.if-self-eq0.true in (e, e)

pub after_line-self-requires : goal.after_line-self-requires
after_line-self-requires c = ahead_size _ _ _ (omega (arith, c.if-self-eq0.false)) c.args.self.now.ahead

pub invariant_of-self : goal.invariant_of-self
invariant_of-self c = record { ahead = rw c.after_line-self.ensures (ahead-next _ _ _ (omega (arith, c.if-self-eq0.false)) c.args.self.now.ahead).1 }

pub returns-clause-steps : goal.returns-clause-steps
returns-clause-steps c = rw c.after_line-self.ensures (places_next _ _ _ (omega (arith, c.if-self-eq0.false)))

pub returns-clause-goes : goal.returns-clause-goes
returns-clause-goes c =
    let self = c.args.self.now in
    let before = places-length self.tape.now self.at self.left in
    let behind = places-length self.tape.now c.after_line-self.result (self.left - 1) in
    search rules
