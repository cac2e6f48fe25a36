use Rattle.std.proofs.Common.{◌∙◌, sym}
use Rattle.std.proofs.lemmas.Bool.{false≢true}
use Rattle.staat_model.specs.Certificates.{inward, outward}
use Rattle.staat_check.proofs.ReachLemmas.{reach_as}
use Rattle.staat_check.proofs.witness.is_witness.Goals as goal

pub returns-then-reach : goal.returns-then-reach
returns-then-reach c =
    let root = c.least-root.result in
    let least = c.least-root.ensures.least in (
      λ t.
          let outs = reach_as c.args.assembly.now outward c.args.w root root c.as_slice.result.now c.args.witness.now.outs least least c.as_slice.ensures (c.reach.ensures.0 c.if-reach.true) in
          let ins = reach_as c.args.assembly.now inward c.args.w root root c.as_slice-then-reach.result.now c.args.witness.now.ins least least c.as_slice-then-reach.ensures (c.reach-then-reach.ensures.0 t) in
          record { outs = outs.0; ins = ins.0; root = root; root_is = least; outs_reach = outs.1; ins_reach = ins.1 },
      λ h. c.reach-then-reach.ensures.1 (reach_as c.args.assembly.now inward c.args.w h.root root c.args.witness.now.ins c.as_slice-then-reach.result.now h.root_is least (sym c.as_slice-then-reach.ensures) (h.ins, h.ins_reach)),
    )

pub returns-else-reach : goal.returns-else-reach
returns-else-reach c = (
  λ t. absurd (false≢true (sym c.if-reach.false ∙ t)),
  λ h. c.reach.ensures.1 (reach_as c.args.assembly.now outward c.args.w h.root c.least-root.result c.args.witness.now.outs c.as_slice.result.now h.root_is c.least-root.ensures.least (sym c.as_slice.ensures) (h.outs, h.outs_reach)),
)
