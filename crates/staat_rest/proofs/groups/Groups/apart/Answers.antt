use Rattle.std.proofs.Common.{◌∙◌, ap, sym}
use Rattle.staat_holds.specs.Chains.{own_names}
use Rattle.staat_rest.proofs.NextNodes.{begin_shown}
use Rattle.staat_rest.proofs.groups.Groups.apart.Goals as goal

pub returns : goal.returns
returns c = λ parts same. begin_shown parts c.in_ok-names.names.items c.in_ok-lists.lists.items
    (c.in_ok-names.ensures ∙ ap own_names (sym same)) (c.in_ok-lists.ensures.many ∙ sym same) c.in_ok-lists.ensures.none
