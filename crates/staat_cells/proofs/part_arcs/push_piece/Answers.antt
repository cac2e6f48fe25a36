use Rattle.std.proofs.Common.{◌≤◌, ◌<◌, subst, sym}
use Rattle.staat_pairs.specs.Tables.{IsTableArc, facets_of}
use Rattle.staat_pairs.specs.Searches.{arc_of}
use Rattle.staat_cells.specs.HalfSpaces.{AreAhead}
use Rattle.staat_cells.specs.CellGraphs.{IsPairAhead}
use Rattle.staat_planes.proofs.Gaining.{adds_nothing}
use Rattle.staat_cells.proofs.Growing.{grown_more, grown_same, none_below}
use Rattle.staat_cells.proofs.PieceCones.{pieces_are}
use Rattle.staat_cells.proofs.part_arcs.push_piece.Goals as goal

pub loop-j-init : goal.loop-j-init
loop-j-init c = λ signs. adds_nothing (none_below (λ j. IsPairAhead c.args.table.now c.args.a c.args.i c.args.b j signs))

pub loop-j-preserved : goal.loop-j-preserved
loop-j-preserved c =
    let t = c.args.table.now in
    let arc = arc_of c.args.a c.args.i c.args.b c.loop-j.j in
    let across : IsTableArc t (arc_of c.args.a c.args.i c.args.b c.loop-j.j) = record {
      a_in = c.requires.a_in;
      b_in = c.requires.b_in;
      different = c.requires.different;
      i_is = c.requires.piece;
      j_is = subst (λ n. c.loop-j.j < n) c.pieces-j-end.ensures.is c.loop-j-test.true;
    } in
    let ahead = subst (AreAhead t.planes (facets_of t arc)) (sym c.deref.ensures.value) c.in_ok-half_spaces.ensures in
    λ signs. grown_more (λ j. IsPairAhead t c.args.a c.args.i c.args.b j signs) c.loop-j.j (c.loop-j.invariant signs)
    (grown_same (c.in_ok-push_cone.ensures signs) (λ i. (across, (ahead signs).0 i), λ p. (ahead signs).1 p.1))

pub returns : goal.returns
returns c =
    let le = subst (λ n. n ≤ c.loop-j.j) c.pieces-j-end.ensures.is c.loop-j-test.false in
    λ signs. grown_same (c.loop-j.invariant signs)
    (pieces_are c.args.table.now c.args.a c.args.i c.args.b c.loop-j.j signs le)
