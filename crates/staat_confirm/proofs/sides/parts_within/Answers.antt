use Rattle.std.proofs.Common.{sym, subst}
use Rattle.std.specs.Ordering.{nat_cmp}
use Rattle.staat_vec.specs.Lists.{Lists}
use Rattle.staat_confirm.specs.Owners.{IsOwnedWithin}
use Rattle.staat_confirm.proofs.Owning.{HasBelow, lists_begin, lists_end, lists_more, lists_same, owned_below, owned_no, owned_yes}
use Rattle.staat_confirm.proofs.sides.parts_within.Goals.{then-is_within+in_ok-push, else-is_within}
use Rattle.staat_confirm.proofs.sides.parts_within.Goals as goal

pub loop-p-init : goal.loop-p-init
loop-p-init c = let P = IsOwnedWithin c.args.owners.now c.args.from c.args.end in subst (Lists nat_cmp (HasBelow P 0)) (sym c.new-members.ensures.items) (lists_begin P)

pub loop-p-preserved : goal.loop-p-preserved
loop-p-preserved c =
    let owners = c.args.owners.now in
    let P = IsOwnedWithin owners c.args.from c.args.end in
    let p = c.loop-p.p in
    let s = c.loop-p.members.items in
    elim c.if-is_within.branch [
      | then-is_within+in_ok-push w ↦ rw w.members-is (rw w.in_ok-push.ensures.items (lists_more P p s (owned_yes owners c.args.from c.args.end p _ c.loop-p-test.true (c.is_within.ensures.0 w.if-is_within.true)) c.loop-p.invariant))
      | else-is_within w ↦ rw w.members-is (lists_same P p s (owned_no owners c.args.from c.args.end p _ c.loop-p-test.true (λ h. let told = c.is_within.ensures.1 h in absurd (cc (w.if-is_within.false)))) c.loop-p.invariant)
    ]

pub returns : goal.returns
returns c = lists_end (IsOwnedWithin c.args.owners.now c.args.from c.args.end) c.loop-p.p c.loop-p.members.items (owned_below c.args.owners.now c.args.from c.args.end c.loop-p.p c.loop-p-test.false) c.loop-p.invariant
