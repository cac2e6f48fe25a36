use Rattle.std.proofs.Common.{◌≡◌, ◌∙◌, sym, subst}
use Rattle.staat_rest.proofs.OriginSteps.{copied_read}
use Rattle.staat_rest.proofs.merging.piece_of.Goals as goal

pub returns : goal.returns
returns c =
    copied_read c.args.parts.now c.args.origin.part c.args.origin.piece c.index-parts-a.result c.as_slice-pieces.result.now c.index-pieces-i.result c.in_ok-piece.piece c.requires c.index-parts-a.is c.as_slice-pieces.ensures c.index-pieces-i.is c.in_ok-piece.ensures
