use Rattle.staat_check.proofs.TreeLemmas.{first_node}
use Rattle.staat_check.proofs.plan.first_of.Goals as goal

pub returns : goal.returns
returns c = first_node c.args.nodes.now c.index-nodes-0.result c.requires c.index-nodes-0.is
