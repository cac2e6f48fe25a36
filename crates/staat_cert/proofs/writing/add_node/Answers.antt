use Rattle.std.proofs.Common.{◌∷◌, [], map}
use Rattle.std.proofs.lemmas.Result.{IfOk-weaker}
use Rattle.staat_model.specs.declared.line.Line.TheVariants as line
use Rattle.staat_cert.proofs.AddLemmas.{adds_both}
use Rattle.staat_cert.proofs.writing.add_node.Goals as goal

pub returns-in_ok-add_line-in-Split : goal.returns-in_ok-add_line-in-Split
returns-in_ok-add_line-in-Split c =
    rw c.in-Split.is (IfOk-weaker c.add_seps.result _ _ (λ x adds.
    adds_both c.args.w.now c.add_line-in-Split.new.w c.add_seps.new.w (line.Split c.in-Split.d ∷ []) (map line.Sep c.in-Split.seps) c.in_ok-add_line-in-Split.ensures
    (rw c.as_slice.ensures at adds)) c.add_seps.ensures)
