use Rattle.staat_judging.proofs.lines.hold_line.Goals as goal

pub returns-in-NoNode : goal.returns-in-NoNode
returns-in-NoNode c = rw c.in-NoNode.is c.no_node.ensures

pub returns-in-FewNodes : goal.returns-in-FewNodes
returns-in-FewNodes c = rw c.in-FewNodes.is c.few_nodes.ensures

pub returns-in-BadPair : goal.returns-in-BadPair
returns-in-BadPair c = rw c.in-BadPair.is c.bad_pair.ensures

pub returns-in-Gap : goal.returns-in-Gap
returns-in-Gap c = rw c.in-Gap.is c.gap.ensures
