-- The three ways in which a face can lie to the points of its piece.
use Rattle.std.specs.Prelude.{List}
use Rattle.staat_vec.specs.declared.vector.V3.{V3}
use Rattle.staat_mesh.specs.declared.face.Stance.{Stance}
use Rattle.staat_mesh.specs.declared.face.Stance.TheVariants.{Bad, Cut, Border}
use Rattle.staat_mesh.specs.Polygons.{Polygon}
use Rattle.staat_mesh.specs.Sides.{IsBadFace, IsSupporting, IsCut}

abbrev pub HasStance : List V3 → Polygon → Stance → Type 0
HasStance points polygon Bad = IsBadFace polygon
HasStance points polygon Cut = IsCut points polygon
HasStance points polygon Border = IsSupporting points polygon
