use Rattle.staat_ring.specs.Rings.{unlinked_of}
use Rattle.staat_ring.proofs.StopLemmas.{entered_first, first_circle, first_entry_other, first_entry_small, first_node, first_some}
use Rattle.staat_ring.proofs.walk.Walk.enter.Goals as goal
use Rattle.std.proofs.Common.{rules}

pub entry_of-requires-clause-at : goal.entry_of-requires-clause-at
entry_of-requires-clause-at g c = first_node c.args.table.now c.len-len.ensures.rules c.args.rings.now.rings (unlinked_of c.args.rings.now.unlinked) c.requires.rings.now c.args.circle c.requires.linked c.first-node.result c.first-node.ensures

pub entry_of-requires-clause-some : goal.entry_of-requires-clause-some
entry_of-requires-clause-some g c = first_some c.args.table.now c.len-len.ensures.rules c.args.rings.now.rings (unlinked_of c.args.rings.now.unlinked) c.requires.rings.now c.args.circle c.requires.linked c.first-node.result c.first-node.ensures

pub of-vertex-requires-clause-c : goal.of-vertex-requires-clause-c
of-vertex-requires-clause-c g c = first_circle c.args.table.now c.len-len.ensures.rules c.args.rings.now.rings (unlinked_of c.args.rings.now.unlinked) c.requires.rings.now c.args.circle c.requires.linked c.first-node.result c.first-node.ensures

pub of-vertex-requires-clause-plane : goal.of-vertex-requires-clause-plane
of-vertex-requires-clause-plane g c = first_entry_small c.args.table.now c.len-len.ensures.rules c.args.rings.now.rings (unlinked_of c.args.rings.now.unlinked) c.requires.rings.now c.args.circle c.requires.linked c.first-node.result c.first-node.ensures c.entry_of.result c.entry_of.ensures

pub of-vertex-requires-clause-different : goal.of-vertex-requires-clause-different
of-vertex-requires-clause-different g c = first_entry_other c.args.table.now c.len-len.ensures.rules c.args.rings.now.rings (unlinked_of c.args.rings.now.unlinked) c.requires.rings.now c.args.circle c.requires.linked c.first-node.result c.first-node.ensures c.entry_of.result c.entry_of.ensures

pub returns-clause-entered : goal.returns-clause-entered
returns-clause-entered g c = search (rules, entered_first)
