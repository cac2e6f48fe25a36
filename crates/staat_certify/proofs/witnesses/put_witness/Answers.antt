use Rattle.std.proofs.Common.{◌≡◌, ◌++◌, ◌∙◌, arith, length, ap, map, take}
use Rattle.staat_pairs.specs.Tables.{slot}
use Rattle.std.proofs.lemmas.List.{length-map}
use Rattle.std.proofs.lemmas.Result.{on_ok_weaker}
use Rattle.staat_model.specs.Certificates.{outward}
use Rattle.staat_certify.specs.Witnesses.{AreEndsAndLeast}
use Rattle.staat_certify.specs.WitnessListings.{IsOfTable}
use Rattle.staat_certify.proofs.WitnessLemmas.{trees_even, witness_along}
use Rattle.staat_certify.proofs.witnesses.put_witness.Goals as goal

pub returns-clause-witness : goal.returns-clause-witness
returns-clause-witness c =
    on_ok_weaker c.put_arcs-2.result
    (witness_along c.args.at.now.sound.now c.args.at.now.table.now c.args.at.now.d c.args.trees.now c.put_arcs.new.arcs.items c.put_arcs-2.new.arcs.items c.requires.along c.in_ok-put_arcs.ensures.arcs)
    c.put_arcs-2.ensures.arcs

pub returns-clause-arcs : goal.returns-clause-arcs
returns-clause-arcs c =
    let parts = c.args.at.now.sound.now in
    let t = c.args.at.now.table.now in
    let d = c.args.at.now.d in
    let trees = c.args.trees.now in
    let outs = c.in_ok-put_arcs.ensures.arcs in
    on_ok_weaker c.put_arcs-2.result
    (λ (ins : AreEndsAndLeast parts t d (take trees.count trees.ins) c.put_arcs-2.new.arcs.items).
    let is : IsOfTable t (record { outs = c.put_arcs.new.arcs.items; ins = c.put_arcs-2.new.arcs.items }) = record {
      outs = outs.across;
      ins = ins.across;
      even = omega (arith, ap length outs.ends, ap length ins.ends, length-map c.put_arcs.new.arcs.items outward, length-map c.put_arcs-2.new.arcs.items outward, trees_even parts t d trees c.requires.along);
    } in
    is)
    c.put_arcs-2.ensures.arcs

pub returns-clause-key : goal.returns-clause-key
returns-clause-key c =
    let slots = map (slot c.args.at.now.table.now.pieces) in
    on_ok_weaker c.put_arcs-2.result
    (λ (is : c.put_arcs-2.new.key.items ≡ c.put_arcs.new.key.items ++ slots c.put_arcs-2.new.arcs.items).
    is ∙ ap (λ ks. ks ++ slots c.put_arcs-2.new.arcs.items) (c.in_ok-put_arcs.ensures.key ∙ ap (λ ks. ks ++ slots c.put_arcs.new.arcs.items) c.clear.ensures.items))
    c.put_arcs-2.ensures.key
