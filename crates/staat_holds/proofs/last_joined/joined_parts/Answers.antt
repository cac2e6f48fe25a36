use Rattle.std.proofs.Common.{sym, subst}
use Rattle.std.specs.Ordering.{nat_cmp}
use Rattle.staat_vec.specs.Lists.{Lists}
use Rattle.staat_holds.specs.Chains.{IsJoinedAt}
use Rattle.staat_holds.proofs.ChainSteps.{few_names, names_next}
use Rattle.staat_holds.proofs.Joining.{joined_at, joined_end, none_joined, some_node}
use Rattle.staat_holds.proofs.last_joined.joined_parts.Goals as goal

pub loop-k-init : goal.loop-k-init
loop-k-init c = record {
  names = c.in_ok-names.ensures;
  members = subst (Lists nat_cmp (IsJoinedAt c.args.parts.now c.args.holds.now 0)) (sym c.new-members.ensures.items) (none_joined c.args.parts.now c.args.holds.now);
}

pub parts_among-requires : goal.parts_among-requires
parts_among-requires c =
    few_names c.args.parts.now c.args.holds.now c.loop-k.k c.loop-k.names.items c.as_slice.result.now c.as_slice.ensures.value c.loop-k.invariant.names c.requires.few

pub joined_names-requires : goal.joined_names-requires
joined_names-requires c =
    some_node c.args.parts.now c.args.holds.now c.loop-k.k c.index-holds-k.result c.as_slice-nodes.result.now c.as_slice-nodes.ensures c.loop-k-test.true c.index-holds-k.is c.requires.keep

pub loop-k-preserved : goal.loop-k-preserved
loop-k-preserved c =
    let parts = c.args.parts.now in
    let holds = c.args.holds.now in
    let k = c.loop-k.k in
    let hold = c.index-holds-k.result in
    let names = c.loop-k.names.items in
    let nodes = c.as_slice-nodes.result.now in
    let same = c.loop-k.invariant.names in
    let lt = c.loop-k-test.true in
    let at = c.index-holds-k.is in record {
      names = names_next parts holds k hold names c.as_slice-in-loop-k.result.now nodes c.in_ok-names-2.names.items c.as_slice-in-loop-k.ensures.value same c.as_slice-nodes.ensures lt at c.in_ok-names-2.ensures;
      members = joined_at parts holds k hold names c.as_slice.result.now nodes c.in_ok-members.members.items c.as_slice.ensures.value same c.as_slice-nodes.ensures lt at c.in_ok-members.ensures;
    }

pub returns : goal.returns
returns c = joined_end c.args.parts.now c.args.holds.now c.loop-k.k c.loop-k.members.items c.loop-k.auto.k-end c.loop-k-test.false c.loop-k.invariant.members
