-- `fire`: a false body adds nothing, a true one the heads in the reduct. Assumes nothing.
use Rattle.stable.proofs.Heads.{choice-small, body_on, idle, chosen, plain}
use Rattle.stable.proofs.fire.Goals as goal

pub body_true-requires : goal.body_true-requires
body_true-requires c = record { body_on = body_on c.requires.rule_on c.list_at-heads.ensures }

pub returns-then-not-body_true : goal.returns-then-not-body_true
returns-then-not-body_true c =
    let args = c.args in
    idle c.requires.rule_on c.list_at-heads.ensures args.x.now args.found.now c.body_true.ensures c.if-not-body_true.true

pub add_chosen-requires : goal.add_chosen-requires
add_chosen-requires c = record { small_head = choice-small c.requires.rule_on c.list_at-heads.ensures c.if-tape-q-ne0.true }

pub returns-then-tape-q-ne0 : goal.returns-then-tape-q-ne0
returns-then-tape-q-ne0 c =
    let args = c.args in
    let body = c.body_true.ensures in
    let if2 = c.if-tape-q-ne0 in
    chosen c.requires.rule_on c.list_at-heads.ensures args.x.now args.found.now body c.if-not-body_true.false if2.true c.add_chosen.ensures

pub returns : goal.returns
returns c =
    let args = c.args in
    let body = c.body_true.ensures in
    let if2 = c.if-tape-q-ne0 in
    plain c.requires.rule_on c.list_at-heads.ensures args.x.now args.found.now body c.if-not-body_true.false if2.false c.add_single.ensures
