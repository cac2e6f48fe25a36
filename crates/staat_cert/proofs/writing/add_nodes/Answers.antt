use Rattle.std.proofs.Common.{flat_map}
use Rattle.std.proofs.lemmas.Result.{IfOk-from_err}
use Rattle.staat_model.specs.Lines.{line_text}
use Rattle.staat_model.specs.Texts.{lines_of_node}
use Rattle.staat_cert.proofs.AddLemmas.{added_all, added_more, flat_more}
use Rattle.staat_cert.proofs.writing.add_nodes.Goals as goal

pub returns-in_err-add_node : goal.returns-in_err-add_node
returns-in_err-add_node c = IfOk-from_err c.from_residual.result _ c.from_residual.ensures.0

pub nodes-preserved : goal.nodes-preserved
nodes-preserved c =
    added_more line_text (flat_map lines_of_node) c.args.w.now c.nodes.w c.args.nodes.now c.nodes.node-index c.add_node.new.w _
    (flat_more lines_of_node c.args.nodes.now c.nodes.node-index c.node-item.result c.nodes-test.true c.node-item.is) c.nodes.invariant c.in_ok-add_node.ensures

pub returns : goal.returns
returns c = added_all line_text (flat_map lines_of_node) c.args.w.now c.nodes.w c.args.nodes.now c.nodes.node-index c.nodes-test.false c.nodes.invariant
