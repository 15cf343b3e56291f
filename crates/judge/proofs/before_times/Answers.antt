-- `judge::before_times` meets its contract: each step is a refusal, or what the next one needs. Assumes nothing.
use mathlib.Core.Path.{refl, sym}
use native.Mathlib.Omega.{arith}
use Rattle.std.proofs.lemmas.Result.{err_from_is_err_and}
use Rattle.faults.specs.inner.Places.{atom_places}
use Rattle.terms.proofs.Marking.{marks-zeros}
use Rattle.judge.specs.Plan.{asked}
use Rattle.judge.specs.Judged.{unreadable}
use Rattle.judge.proofs.Staging.{unread, unsound, passed, mispaired, breaking, unfounding, upheld}
use Rattle.judge.proofs.before_times.Goals as goal

pub returns-in_err-count : goal.returns-in_err-count
returns-in_err-count c =
    let pre = c.requires.text_in_bounds in
    let r = err_from_is_err_and c.from_residual.result c.from_residual.ensures.1 in
    rw (r.1, r.2) (λ b z. unreadable _ _ (unread _ b z (omega (arith, pre)) _ _ (sym c.in_err-count.ensures.result_after)) refl)

pub returns-in_err-m : goal.returns-in_err-m
returns-in_err-m c =
    let pre = c.requires.text_in_bounds in
    let r = err_from_is_err_and c.from_residual-in_err-m.result c.from_residual-in_err-m.ensures.1 in
    rw (r.1, r.2) (λ b z. unreadable _ _ (unsound _ b z (omega (arith, pre)) _ (sym c.in_ok-count.ensures.result_after) _ _ (sym c.in_err-m.ensures.found_after)) refl)

pub returns-in_err-last : goal.returns-in_err-last
returns-in_err-last c =
    let r = err_from_is_err_and c.from_residual-in_err-last.result c.from_residual-in_err-last.ensures.1 in
    let n = c.in_ok-count.ensures in
    let m = c.in_ok-m.ensures in
    let p = passed (asked c.args.text.now c.args.cand.now) c.requires.text_in_bounds c.read.auto.tape n.result_after n.taped_if m.found_after m.stated_within in
    rw (r.1, r.2) (mispaired p c.in_err-last.ensures.x_after)

pub returns-in-Some : goal.returns-in-Some
returns-in-Some c =
    let n = c.in_ok-count.ensures in
    let m = c.in_ok-m.ensures in
    let p = passed (asked c.args.text.now c.args.cand.now) c.requires.text_in_bounds c.read.auto.tape n.result_after n.taped_if m.found_after m.stated_within in
    rw c.at.ensures (breaking p _ c.in_ok-last.ensures.x_after c.in-Some.ensures)

pub externals-requires : goal.externals-requires
externals-requires c = marks-zeros atom_places

pub returns-in-Some-smallest_unfounded : goal.returns-in-Some-smallest_unfounded
returns-in-Some-smallest_unfounded c =
    let n = c.in_ok-count.ensures in
    let m = c.in_ok-m.ensures in
    let last = c.in_ok-last.ensures in
    let p = passed (asked c.args.text.now c.args.cand.now) c.requires.text_in_bounds c.read.auto.tape n.result_after n.taped_if m.found_after m.stated_within in
    rw c.at-in-Some-smallest_unfounded.ensures (unfounding p _ last.x_after c.in_default.ensures last.marked_to c.externals.ensures c.in-Some-smallest_unfounded.ensures)

pub returns : goal.returns
returns c =
    let n = c.in_ok-count.ensures in
    let m = c.in_ok-m.ensures in
    let last = c.in_ok-last.ensures in
    let p = passed (asked c.args.text.now c.args.cand.now) c.requires.text_in_bounds c.read.auto.tape n.result_after n.taped_if m.found_after m.stated_within in
    upheld p _ last.x_after c.in_default.ensures last.marked_to c.externals.ensures c.in_default-smallest_unfounded.ensures
