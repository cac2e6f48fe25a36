use Rattle.std.proofs.Common.{◌++◌, ◌∷◌, [], ap, arith, map, refl, ◌∙◌}
use Rattle.std.proofs.lemmas.List.{take_all}
use Rattle.serde_json.specs.View.{view}
use Rattle.staat_manifest.specs.Values.{text_in}
use Rattle.staat_manifest.proofs.RuleLemmas.{seen_more}
use Rattle.staat_manifest.proofs.reader.listed.Goals as goal

pub loop-piece-preserved : goal.loop-piece-preserved
loop-piece-preserved c =
    let so_far = c.loop-piece.pieces.items in
    seen_more text_in c.args.form.now.pieces.now c.loop-piece.piece-index c.piece-item.result (omega arith) c.piece-item.is so_far _
    (c.in_ok-push.ensures.items ∙ ap (λ name. so_far ++ name ∷ []) (c.in_ok-name_of.ensures ∙ c.text_in.ensures)) c.loop-piece.invariant

pub returns : goal.returns
returns c = record {
  name = c.in_ok-name_of-2.ensures;
  pieces = c.from_vec.ensures ∙ c.loop-piece.invariant
      ∙ ap (λ values. map text_in (map view values)) (take_all c.loop-piece.piece-index c.args.form.now.pieces.now (omega arith));
  at = refl;
}
