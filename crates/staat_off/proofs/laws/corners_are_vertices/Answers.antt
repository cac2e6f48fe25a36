use Rattle.staat_off.proofs.Bounds.{reading_bounded}
use Rattle.staat_off.proofs.laws.corners_are_vertices.Goals as goal

pub returns : goal.returns
returns c = record {
  indexed = λ digits file raw h. (reading_bounded digits file raw h).indexed;
  counted = λ digits file raw h. (reading_bounded digits file raw h).counted;
  corners = λ digits file raw h. (reading_bounded digits file raw h).corners;
}
