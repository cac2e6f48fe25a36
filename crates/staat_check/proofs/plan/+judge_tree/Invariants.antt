use Rattle.std.proofs.Common.{length}
use Rattle.staat_check.proofs.plan.+judge_tree.Given as goal

abbrev pub decreases-judge_tree : goal.decreases-judge_tree
decreases-judge_tree l = length l.nodes.now
