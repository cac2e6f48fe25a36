use Rattle.std.proofs.lemmas.List.Elements.{All-push}
use Rattle.std.proofs.lemmas.List.{map-append}
use Rattle.std.proofs.Common.{ℕ, ◌∷◌, ◌++◌, [], ◌∙◌, All, List, ap, append_assoc, map, subst, sym}
use Rattle.staat_model.specs.declared.certificate.Arc.{Arc}
use Rattle.staat_model.specs.Certify.{IsLeastArc}
use Rattle.staat_pairs.specs.Tables.{IsTableArc, slot}
use Rattle.staat_certify.proofs.WitnessLemmas.{ends_more}
use Rattle.staat_certify.proofs.witnesses.put_arcs.Goals as goal

pub loop-ends-preserved : goal.loop-ends-preserved
loop-ends-preserved c =
    let is = c.in_ok-push.ensures.items in
    let slots = map (slot c.args.at.now.table.now.pieces) in
    let arcs : List Arc = c.loop-ends.arcs.items in
    let before : List ℕ = c.args.key.now.items in
    record {
      arcs = record {
        across = subst (λ (arcs : List Arc). All (IsTableArc c.args.at.now.table.now) arcs) (sym is) (All-push (IsTableArc c.args.at.now.table.now) c.loop-ends.arcs.items c.least_arc-slot.result.0 c.loop-ends.invariant.arcs.across c.least_arc-slot.ensures.across);
        ends = ends_more c.args.pairs.now c.loop-ends.ends-index (0, 0) c.loop-ends.arcs.items c.push.new.self.items c.least_arc-slot.result.0 c.loop-ends-test.true c.loop-ends.invariant.arcs.ends c.least_arc-slot.ensures.ends is;
        least = subst (λ (arcs : List Arc). All (IsLeastArc c.args.at.now.sound.now c.args.at.now.d) arcs) (sym is) (All-push (IsLeastArc c.args.at.now.sound.now c.args.at.now.d) c.loop-ends.arcs.items c.least_arc-slot.result.0 c.loop-ends.invariant.arcs.least c.least_arc-slot.ensures.least);
      };
      key =
          c.in_ok-push-2.ensures.items
          ∙ ap (λ ks. ks ++ c.least_arc-slot.result.1 ∷ []) c.loop-ends.invariant.key
          ∙ append_assoc before (slots arcs) (c.least_arc-slot.result.1 ∷ [])
          ∙ ap (λ n. before ++ (slots arcs ++ n ∷ [])) c.least_arc-slot.ensures.slot
          ∙ ap (λ ks. before ++ ks) (sym (map-append (slot c.args.at.now.table.now.pieces) arcs (c.least_arc-slot.result.0 ∷ [])) ∙ ap slots (sym is));
    }
