use Rattle.std.proofs.Common.{◌∙◌, sym, subst}
use Rattle.std.specs.Ordering.{nat_cmp}
use Rattle.staat_vec.specs.Lists.{Lists}
use Rattle.staat_holds.proofs.Joining.{IsOfOneBelow, among_begin, among_end, among_more, among_same}
use Rattle.staat_holds.proofs.NodeNames.{among_no, among_yes}
use Rattle.staat_holds.proofs.last_joined.parts_among.Goals.{then-is_among+in_ok-push, else-is_among}
use Rattle.staat_holds.proofs.last_joined.parts_among.Goals as goal

pub loop-p-init : goal.loop-p-init
loop-p-init c = subst (Lists nat_cmp (IsOfOneBelow c.args.names.now c.args.nodes.now 0)) (sym c.new-members.ensures.items) (among_begin c.args.names.now c.args.nodes.now)

pub loop-p-preserved : goal.loop-p-preserved
loop-p-preserved c =
    let names = c.args.names.now in
    let nodes = c.args.nodes.now in
    let p = c.loop-p.p in
    let s = c.loop-p.members.items in
    elim c.if-is_among.branch [
      | then-is_among+in_ok-push w ↦ rw w.members-is (rw w.in_ok-push.ensures.items (among_more names nodes p _ s c.loop-p-test.true (among_yes nodes _ (sym c.is_among.ensures ∙ w.if-is_among.true)) c.loop-p.invariant))
      | else-is_among w ↦ rw w.members-is (among_same names nodes p _ s c.loop-p-test.true (among_no nodes _ (sym c.is_among.ensures ∙ w.if-is_among.false)) c.loop-p.invariant)
    ]

pub returns : goal.returns
returns c = among_end c.args.names.now c.args.nodes.now c.loop-p.p c.loop-p.members.items c.loop-p-test.false c.loop-p.invariant
