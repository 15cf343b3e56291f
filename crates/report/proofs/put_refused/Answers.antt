-- `put_refused`: the line of the refusal, and after 10 that of the list. Assumes nothing.
use denote.Enum.Bare.{sameb, same_true}
use Rattle.std.proofs.Common.{◌≡◌, true, false, rules, ap, subst}
use Rattle.std.proofs.lemmas.List.{take_min}
use Rattle.faults.specs.Values.{number}
use Rattle.faults.specs.contracts.Kind as kind
use Rattle.faults.specs.declared.Kind.{Kind}
use Rattle.faults.specs.declared.Kind.TheVariants.{Cycle}
use Rattle.faults.proofs.Numbers.{same_kind}
use Rattle.report.proofs.Listing.{refused-fits, reason-fits, list-fits, refused-put, list_put}
use Rattle.report.proofs.put_refused.Goals as goal

-- the kind that has a list is the one with number 10
listed : (k : Kind) → sameb kind.the_type k Cycle ≡ true → number k ≡ 10
listed k e = ap number {y = Cycle} (same_true kind.the_type (search rules) k Cycle e)

unlisted : (k : Kind) → sameb kind.the_type k Cycle ≡ false → number k ≡ 10 → ⊥
unlisted k e h =
    let f : sameb kind.the_type Cycle Cycle ≡ false = subst (λ (j : Kind). sameb kind.the_type j Cycle ≡ false) (same_kind k Cycle h) e in
    search rules

pub put-a-requires : goal.put-a-requires
put-a-requires c = refused-fits _ _ _ _ c.requires

pub put_two-b-requires : goal.put_two-b-requires
put_two-b-requires c = rw (c.from.ensures, c.number-number.ensures) (reason-fits _ _ _ _ c.requires c.put-a.ensures)

pub returns-then-ne : goal.returns-then-ne
returns-then-ne c =
    let e : sameb kind.the_type c.args.refusal.kind Cycle ≡ false = search rules in
    refused-put _ _ _ _ c.put-a.ensures (rw (c.from.ensures, c.number-number.ensures) at c.put_two-b.ensures) (unlisted _ e)

pub put_list-requires : goal.put_list-requires
put_list-requires c =
    let e : sameb kind.the_type c.args.refusal.kind Cycle ≡ true = search rules in
    let t = rw (c.from.ensures, c.number-number.ensures) at c.put_two-b.ensures in
    rw (c.min-end.ensures, take_min c.args.refusal.place c.args.cycle.now) (list-fits _ _ _ _ c.requires c.put-a.ensures (listed _ e) t)

pub returns : goal.returns
returns c =
    let e : sameb kind.the_type c.args.refusal.kind Cycle ≡ true = search rules in
    let t = rw (c.from.ensures, c.number-number.ensures) at c.put_two-b.ensures in
    list_put _ _ _ _ c.put-a.ensures t (listed _ e) (rw (c.min-end.ensures, take_min c.args.refusal.place c.args.cycle.now) at c.put_list.ensures)
