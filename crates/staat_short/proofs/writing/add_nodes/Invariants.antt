use Rattle.std.proofs.Common.{flat_map, take}
use Rattle.staat_short.specs.ShortTexts.{lines_of_short_node}
use Rattle.staat_short.specs.ShortWriting.{AddsShortLines}
use Rattle.staat_short.proofs.writing.add_nodes.Given as goal

abbrev pub invariant-nodes : goal.invariant-nodes
invariant-nodes l = AddsShortLines l.initial.w l.w (flat_map lines_of_short_node (take l.node-index l.nodes))
