use Rattle.std.proofs.Common.{◌<◌, ◌≤◌, ◌∙◌, [], ap, arith, length, map, subst, sym}
use Rattle.std.proofs.lemmas.List.{get_or-map, length-map}
use Rattle.std.proofs.lemmas.List.Elements.{All-weaker}
use Rattle.staat_ring.specs.Links.{append}
use Rattle.staat_ring.specs.Numbered.{head_number, node_number, ring_node_count}
use Rattle.staat_ring.proofs.Rows.{circle_distinct, nodes_within, partly_more}
use Rattle.staat_ring.proofs.nodes.NodeLinks.link.Goals as goal

pub loop-k-preserved : goal.loop-k-preserved
loop-k-preserved c =
    let stops = c.args.stops.now in
    let number = node_number c.args.planes c.args.c in
    let nodes = map number stops in
    let within = subst (λ n. c.loop-k.k < n) c.loop-k.invariant.all c.loop-k-test.true in
    let lt : c.loop-k.k < length nodes = subst (λ n. c.loop-k.k < n) (sym (length-map stops number)) within in
    let room : ring_node_count c.args.planes ≤ length c.args.self.now.next = c.requires.room in
    record {
      all = c.loop-k.invariant.all;
      partly = partly_more c.args.self.now c.loop-k.self c.append.new.self (head_number c.args.planes c.args.c) c.node_of.result c.loop-k.k nodes lt
          (c.node_of.ensures.is ∙ ap number c.stop.ensures ∙ sym (get_or-map number stops c.loop-k.k [] 0 within))
          (c.append.ensures.links ∙ ap (λ h. append h c.node_of.result c.loop-k.self) c.head_of-head.ensures.is)
          (omega (arith, c.head_of-head.ensures.within, c.head_of-head.ensures.is, room))
          (All-weaker (λ x. x < ring_node_count c.args.planes) (λ x. x < length c.args.self.now.next) (λ x h. omega (arith, h, room)) nodes (nodes_within c.args.planes c.args.c c.requires.circle stops c.requires.stops))
          (circle_distinct c.args.planes c.args.c c.requires.circle stops c.requires.stops) c.loop-k.invariant.partly;
    }
