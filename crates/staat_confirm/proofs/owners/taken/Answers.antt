use Rattle.std.proofs.Common.{arith, subst}
use Rattle.staat_confirm.specs.Members.{IsMemberOf}
use Rattle.staat_confirm.specs.Owners.{AreOwners, RefusesSome}
use Rattle.staat_confirm.proofs.Owning.{member_fault, owners_written}
use Rattle.staat_confirm.proofs.owners.taken.Goals as goal
use Rattle.staat_vec.proofs.ListLaws.{place_is}

pub returns-then-not-branch : goal.returns-then-not-branch
returns-then-not-branch c =
    member_fault c.args.parts.now c.args.nodes.now c.loop-k.k c.index-nodes-k.result c.loop-k.owners.items (place_is c.args.nodes.now c.loop-k.k c.index-nodes-k.result c.loop-k-test.true c.index-nodes-k.is) c.loop-k.invariant
    (subst (RefusesSome (IsMemberOf c.args.parts.now c.index-nodes-k.result) c.loop-k.k) c.as_mut_slice.ensures.value (c.in_ok-take_members.ensures.refused c.if-not-branch.true))

pub loop-k-preserved : goal.loop-k-preserved
loop-k-preserved c =
    owners_written c.args.parts.now c.args.nodes.now c.loop-k.k c.loop-k.owners.len c.index-nodes-k.result c.loop-k.owners.items c.as_mut_slice.result.now c.take_members.new.owners c.loop-k-test.true c.index-nodes-k.is
    c.as_mut_slice.ensures.value c.take_members.auto.owners (let long = c.loop-k.owners.ok.0 in omega (arith, long)) c.loop-k.invariant (c.in_ok-take_members.ensures.taken c.if-not-branch.false)

pub returns : goal.returns
returns c = subst (λ n. AreOwners c.args.parts.now c.args.nodes.now n c.loop-k.owners.items) (let past = c.loop-k-test.false in let within = c.loop-k.auto.k-end in omega (arith, past, within)) c.loop-k.invariant
