use Rattle.staat_motion.proofs.Kept.{has_shadows}
use Rattle.staat_decide.proofs.listing.may_meet.Goals as goal

pub apart-requires : goal.apart-requires
apart-requires c =
    has_shadows c.args.parts.now c.args.along.now c.args.pair c.requires (c.has_pieces.ensures.0 c.if-not-has_pieces.false)
