use Rattle.std.proofs.Common.{◌<◌, arith, subst}
use Rattle.staat_model.specs.Assemblies.{piece_count}
use Rattle.staat_motion.proofs.Kept.{counts_are, parts_are, wholes_count}
use Rattle.staat_asm.proofs.BoxLemmas.{none_with_part}
use Rattle.staat_asm.proofs.SearchLemmas.{found}
use Rattle.staat_asm.proofs.search.search_part.Goals as goal
use Rattle.staat_model.proofs.PlanLemmas.{piece_within}

pub piece_apart-requires-clause-part : goal.piece_apart-requires-clause-part
piece_apart-requires-clause-part g c = omega (arith, c.requires.first, parts_are c.args.product.now c.args.boxes.now c.requires.boxes.made)

pub piece_apart-requires-clause-piece : goal.piece_apart-requires-clause-piece
piece_apart-requires-clause-piece g c =
    let boxes = c.args.boxes.now in
    omega (arith, c.requires.piece, counts_are boxes.frame c.args.product.now boxes.shadows c.args.a c.requires.boxes.made.shadows)

pub piece_apart-requires-clause-b_in : goal.piece_apart-requires-clause-b_in
piece_apart-requires-clause-b_in g c = omega (arith, c.requires.second, wholes_count c.args.product.now c.args.boxes.now c.requires.boxes.made)

pub returns-then-piece_apart : goal.returns-then-piece_apart
returns-then-piece_apart g c =
    none_with_part c.args.product.now c.args.boxes.now c.args.a c.args.i c.args.b c.requires.boxes
    (λ j. c.piece_apart.ensures.never c.args.product.now j c.requires.boxes.made c.if-piece_apart.true)

pub returns-then-branch : goal.returns-then-branch
returns-then-branch g c =
    found c.args.product.now c.args.a c.args.i c.args.b c.loop-j.j c.loop-j.invariant
    (c.requires.order, c.in_ok-pieces_overlap.ensures.0 c.if-branch.true)

pub returns : goal.returns
returns g c = λ arc p.
    let h = p.0.0.0.1 in
    let within : arc.j < piece_count c.args.product.now c.args.b = subst (λ b. arc.j < piece_count c.args.product.now b) p.1 (piece_within c.args.product.now arc.b arc.j h.q h.q_is) in
    c.loop-j.invariant arc p (omega (arith, within, c.pieces-j-end.ensures.count, c.loop-j-test.false))
