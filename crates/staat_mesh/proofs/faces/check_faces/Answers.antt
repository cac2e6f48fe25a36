use Rattle.std.proofs.Common.{ap, length, arith}
use Rattle.staat_vec.specs.declared.vector.TheConstants.{POINT}
use Rattle.staat_vec.specs.Vectors.{IsWithin}
use Rattle.staat_mesh.specs.Polygons.{mesh}
use Rattle.staat_mesh.specs.Sides.{IsSupporting}
use Rattle.staat_mesh.proofs.PolygonLemmas.{All-member, All-next, length-mesh, traced}
use Rattle.staat_mesh.proofs.faces.check_faces.Goals as goal
use Rattle.staat_vec.proofs.ListLaws.{All-taken}

pub stance_of-requires-clause-polygon : goal.stance_of-requires-clause-polygon
stance_of-requires-clause-polygon c =
    let at = traced c.args.raw.now c.loop-number.number _ _ _ _ _ _ c.as_slice-in-loop-number.ensures.value c.in_ok-trace.ensures c.as_slice-vertices.ensures c.as_slice.ensures c.face-item.is c.as_slice-face-items.ensures c.loop-number-test.true in
    All-member (IsWithin POINT) c.args.raw.now c.loop-number.number _ at c.requires.indexed.within

pub returns-in-Bad : goal.returns-in-Bad
returns-in-Bad c = record {
  polygon = c.as_slice-in-loop-number.result.now;
  at = traced c.args.raw.now c.loop-number.number _ _ _ _ _ _ c.as_slice-in-loop-number.ensures.value c.in_ok-trace.ensures c.as_slice-vertices.ensures c.as_slice.ensures c.face-item.is c.as_slice-face-items.ensures c.loop-number-test.true;
  broken = c.in-Bad.ensures;
  before = c.loop-number.invariant;
}

pub returns-in-Cut : goal.returns-in-Cut
returns-in-Cut c = record {
  polygon = c.as_slice-in-loop-number.result.now;
  at = traced c.args.raw.now c.loop-number.number _ _ _ _ _ _ c.as_slice-in-loop-number.ensures.value c.in_ok-trace.ensures c.as_slice-vertices.ensures c.as_slice.ensures c.face-item.is c.as_slice-face-items.ensures c.loop-number-test.true;
  broken = c.in-Cut.ensures;
  before = c.loop-number.invariant;
}

pub loop-number-preserved : goal.loop-number-preserved
loop-number-preserved c =
    let at = traced c.args.raw.now c.loop-number.number _ _ _ _ _ _ c.as_slice-in-loop-number.ensures.value c.in_ok-trace.ensures c.as_slice-vertices.ensures c.as_slice.ensures c.face-item.is c.as_slice-face-items.ensures c.loop-number-test.true in
    All-next (IsSupporting c.args.points.now) (mesh c.args.raw.now) c.loop-number.number _ c.loop-number.invariant at c.in-Border.ensures

pub returns : goal.returns
returns c = All-taken (IsSupporting c.args.points.now) (mesh c.args.raw.now) c.loop-number.number (omega (arith, c.loop-number-test.false, ap length c.as_slice-face-items.ensures, length-mesh c.args.raw.now)) c.loop-number.invariant
