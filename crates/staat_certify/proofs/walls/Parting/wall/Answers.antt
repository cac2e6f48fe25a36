use Rattle.std.proofs.Common.{subst, sym}
use Rattle.staat_vec.specs.Lists.{Lists}
use Rattle.staat_vec.specs.Vectors.{vector_cmp}
use Rattle.staat_model.specs.Facets.{IsFacet}
use Rattle.staat_certify.proofs.WallLemmas.{least_wall_is, some_away, wall_away}
use Rattle.staat_certify.proofs.walls.Parting.wall.Goals as goal

pub unreachable-requires : goal.unreachable-requires
unreachable-requires g c =
    let p = c.piece-p.result.now in
    let q = c.piece-q.result.now in
    let lists = subst (Lists vector_cmp (IsFacet p q)) (sym c.as_slice.ensures.value) c.in_ok-facets.ensures.facets in
    c.requires.apart (record {
      p = p;
      q = q;
      p_is = c.piece-p.ensures;
      q_is = c.piece-q.ensures;
      holds = some_away p q c.as_slice.result.now c.args.self.now.d c.points-first.ensures.piece c.points-second.ensures.piece lists c.in-None.ensures;
    })

pub returns : goal.returns
returns g c =
    let p = c.piece-p.result.now in
    let q = c.piece-q.result.now in
    let lists = subst (Lists vector_cmp (IsFacet p q)) (sym c.as_slice.ensures.value) c.in_ok-facets.ensures.facets in
    wall_away c.args.self.now.assembly.now c.args.arc p q c.args.self.now.d c.in-Some.n c.piece-p.ensures c.piece-q.ensures (least_wall_is p q c.as_slice.result.now c.args.self.now.d c.in-Some.n lists c.in-Some.ensures)
