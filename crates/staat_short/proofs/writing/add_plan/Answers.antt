use Rattle.std.proofs.Common.{◌∷◌, []}
use Rattle.std.specs.Prelude.{flat_map}
use Rattle.std.proofs.lemmas.Result.{IfOk-weaker}
use Rattle.staat_short.specs.ShortTexts.{lines_of_short_node}
use Rattle.staat_short.proofs.AddLemmas.{adds_both}
use Rattle.staat_short.proofs.writing.add_plan.Goals as goal

pub returns : goal.returns
returns c =
    IfOk-weaker c.add_nodes.result _ _ (λ x adds.
    adds_both c.args.w.now c.add_line.new.w c.add_nodes.new.w (c.args.first ∷ [])
    (flat_map lines_of_short_node c.args.nodes.now) c.in_ok-add_line.ensures adds) c.add_nodes.ensures
