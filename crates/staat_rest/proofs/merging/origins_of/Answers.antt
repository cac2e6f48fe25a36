use Rattle.std.proofs.Common.{◌∙◌, ◌<◌, ◌^◌, arith, length, sym, subst}
use Rattle.staat_rest.specs.Merging.{AreOrigins}
use Rattle.staat_rest.proofs.OriginSteps.{origins_are}
use Rattle.staat_rest.proofs.merging.origins_of.Goals as goal

pub returns : goal.returns
returns c =
    subst (AreOrigins c.args.parts.now c.args.names.now c.args.node) (sym c.from_vec.ensures)
    (origins_are c.args.parts.now c.args.names.now c.args.node c.in_ok-origins.origins.items (omega (arith, c.len.ensures, c.if-len.false)) c.in_ok-origins.ensures)
