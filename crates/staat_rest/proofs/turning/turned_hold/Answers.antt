use Rattle.std.proofs.Common.{◌∙◌, ap, map, subst, sym}
use Rattle.std.specs.List.Sorted.{IsStrictlySortedBy}
use Rattle.std.specs.Ordering.{nat_cmp}
use Rattle.staat_rest.specs.Turning.{original_nodes, original_pair}
use Rattle.staat_rest.proofs.TreeSteps.{hold_as}
use Rattle.staat_rest.proofs.turning.turned_hold.Goals as goal

pub returns-clause-ordered : goal.returns-clause-ordered
returns-clause-ordered c ps ns sorted k =
    let nodes = c.from_vec.ensures ∙ c.in_ok-nodes.ensures ∙ ap (original_nodes c.args.heads.now) c.as_slice.ensures in
    let pairs = c.from_vec-2.ensures ∙ c.in_ok-pairs.ensures ∙ ap (map (original_pair c.args.origins.now)) c.as_slice-2.ensures in
    c.ordered-turned.ensures.ordered ps ns (subst (IsStrictlySortedBy nat_cmp) (sym nodes) sorted)
    (hold_as ps ns c.args.heads.now c.args.origins.now c.args.hold.now c.from_vec.result c.from_vec-2.result nodes pairs k)

pub returns-clause-keeps : goal.returns-clause-keeps
returns-clause-keeps c ps ns k =
    c.ordered-turned.ensures.keeps ps ns (hold_as ps ns c.args.heads.now c.args.origins.now c.args.hold.now c.from_vec.result c.from_vec-2.result
    (c.from_vec.ensures ∙ c.in_ok-nodes.ensures ∙ ap (original_nodes c.args.heads.now) c.as_slice.ensures)
    (c.from_vec-2.ensures ∙ c.in_ok-pairs.ensures ∙ ap (map (original_pair c.args.origins.now)) c.as_slice-2.ensures) k)
