use Rattle.std.proofs.Common.{◌∙◌, List, [], sym, subst}
use Rattle.staat_holds.specs.declared.hold.Hold.{Hold}
use Rattle.staat_holds.specs.Chains.{AllKeep}
use Rattle.staat_rest.proofs.turning.turned_leaf.Goals as goal
use Rattle.staat_vec.proofs.ListLaws.{other_default}

pub group_of-requires-clause-keep : goal.group_of-requires-clause-keep
group_of-requires-clause-keep c =
    subst (λ (hs : List Hold). AllKeep c.args.parts.now hs)
    (sym (c.as_slice-holds.ensures ∙ other_default c.args.lists.now c.args.node c.index-lists-node.result [] c.requires.within c.index-lists-node.is)) c.requires.keep
