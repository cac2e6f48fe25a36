use Rattle.std.specs.Prelude.{flat_map}
use Rattle.staat_cert.proofs.AddLemmas.{added_all, added_more, flat_more}
use Rattle.staat_short.specs.ShortLines.{short_line_text}
use Rattle.staat_short.specs.ShortTexts.{lines_of_short_node}
use Rattle.staat_short.proofs.writing.add_nodes.Goals as goal

pub nodes-preserved : goal.nodes-preserved
nodes-preserved c =
    added_more short_line_text (flat_map lines_of_short_node) c.args.w.now c.nodes.w c.args.nodes.now c.nodes.node-index c.add_node.new.w _
    (flat_more lines_of_short_node c.args.nodes.now c.nodes.node-index c.node-item.result c.nodes-test.true c.node-item.is) c.nodes.invariant c.in_ok-add_node.ensures

pub returns : goal.returns
returns c = added_all short_line_text (flat_map lines_of_short_node) c.args.w.now c.nodes.w c.args.nodes.now c.nodes.node-index c.nodes-test.false c.nodes.invariant
