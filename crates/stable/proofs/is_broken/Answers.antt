-- `is_broken`: a choice rule is whole, so is a rule whose atom is in x, and else the body decides. Assumes nothing.
use borrow.Author.Tests.{ne_eqb}
use Rattle.basics.specs.inner.Bitmaps.{is_marked}
use Rattle.stable.proofs.Breaking.{choice-whole, head-broken, empty-broken}
use Rattle.stable.proofs.Heads.{body_on, no-head, one-head}
use Rattle.stable.proofs.is_broken.Goals as goal
use Rattle.stable.proofs.is_broken.Goals.{in-Some+else-x-a-eq1, in_default}

pub returns-then-tape-q-ne0 : goal.returns-then-tape-q-ne0
returns-then-tape-q-ne0 c = choice-whole c.requires.rule_on (is_marked c.args.x.now) c.if-tape-q-ne0.true

pub body_true-requires : goal.body_true-requires
body_true-requires c = record { body_on = body_on c.requires.rule_on c.list_at-heads.ensures }

pub returns : goal.returns
returns c =
    let rule = c.requires.rule_on in
    let x = is_marked c.args.x.now in
    let plain = c.if-tape-q-ne0.false in
    elim c.match-first.branch [
      | in-Some+else-x-a-eq1 w ↦ head-broken rule x plain c.list_at-heads.ensures (one-head _ w.in-Some.ensures.value) (ne_eqb _ 1 w.if-x-a-eq1.false) c.body_true.ensures
      | in_default w ↦ empty-broken rule x plain c.list_at-heads.ensures (no-head _ w.in_default.ensures.value) c.body_true.ensures
    ]
