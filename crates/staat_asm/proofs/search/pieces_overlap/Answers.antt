use Rattle.staat_motion.proofs.Kept.{has_shadows}
use Rattle.staat_asm.proofs.BoxLemmas.{overlap_at, overlap_meets}
use Rattle.staat_asm.proofs.search.pieces_overlap.Goals as goal

pub apart-requires : goal.apart-requires
apart-requires g c = has_shadows c.args.product.now c.args.boxes.now c.args.arc c.requires.boxes.made c.requires.pieces

pub returns-then-apart : goal.returns-then-apart
returns-then-apart g c =
    let parts = c.args.product.now in
    let boxes = c.args.boxes.now in (
      λ e. cc,
      λ at. absurd
          (c.apart.ensures.never parts c.requires.boxes.made c.if-apart.true (overlap_meets parts boxes c.args.arc c.requires.boxes at)),
    )

pub returns : goal.returns
returns g c =
    overlap_at c.args.product.now c.args.arc c.piece-p.result.now c.piece-q.result.now c.in_ok-answer.answer
    c.piece-p.ensures c.piece-q.ensures c.in_ok-answer.ensures
