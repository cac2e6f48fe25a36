use Rattle.std.proofs.Common.{◌∙◌, ◌<◌, [], arith, get_or, length, set}
use Rattle.std.proofs.lemmas.List.{get_or-set_other, length-set}
use Rattle.staat_rest.proofs.TakeSteps.{others_more, taken_more}
use Rattle.staat_rest.proofs.groups.take_holds.Goals as goal
use Rattle.staat_vec.proofs.ListLaws.{other_default}

pub loop-node-preserved : goal.loop-node-preserved
loop-node-preserved c =
    let lists = c.args.lists.now.items in
    let now = c.loop-node.lists.items in
    let nodes = c.args.nodes.now in
    let i = c.loop-node.node-index in
    let node = get_or nodes i 0 in
    let inv = c.loop-node.invariant in
    let node_lt : node < length now = omega (arith, c.requires.within i 0 c.loop-node-test.true, inv.many) in record {
      joined = taken_more lists now nodes i 0 c.loop-node.joined.items c.append.new.self.items c.into_vec-holds.result.items c.requires.ascending c.loop-node-test.true inv.others
          (c.into_vec-holds.ensures ∙ c.replace.ensures.value ∙ other_default now node c.index_mut.result.now [] node_lt c.index_mut.ensures.value) c.in_ok-append.ensures.items inv.joined;
      many = length-set now node c.replace.new.dest ∙ inv.many;
      others = others_more lists now (set now node c.replace.new.dest) nodes i 0 c.loop-node-test.true (λ n ne. get_or-set_other now node n c.replace.new.dest [] ne) inv.others;
    }
