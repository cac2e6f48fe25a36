use Rattle.staat_rest.proofs.TreeSteps.{leaf_list, leaf_within}
use Rattle.staat_rest.proofs.turning.+turned_tree.Goals as goal

pub bounds-heads-k : goal.bounds-heads-k
bounds-heads-k t c = leaf_within c.args.tree.now c.in-Leaf.k _ c.in-Leaf.is c.requires.leaves

pub turned_leaf-requires-clause-within : goal.turned_leaf-requires-clause-within
turned_leaf-requires-clause-within t c = (leaf_list c.args.parts.now c.args.heads.now c.args.lists.now c.args.tree.now c.in-Leaf.k c.in-Leaf.is c.requires.lists c.requires.leaves).0

pub turned_leaf-requires-clause-keep : goal.turned_leaf-requires-clause-keep
turned_leaf-requires-clause-keep t c = (leaf_list c.args.parts.now c.args.heads.now c.args.lists.now c.args.tree.now c.in-Leaf.k c.in-Leaf.is c.requires.lists c.requires.leaves).1
