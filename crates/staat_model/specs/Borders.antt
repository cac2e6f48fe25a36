-- What lies on the border of a cell.
use Rattle.std.specs.Prelude.{◌≢◌, List, Contains}
use Rattle.staat_vec.specs.declared.vector.V3.{V3}
use Rattle.staat_vec.specs.declared.vector.Sign.{Sign}
use Rattle.staat_vec.specs.Vectors.{origin}
use Rattle.staat_model.specs.declared.assembly.Part.{Part}
use Rattle.staat_model.specs.declared.set.PartSet.{PartSet}
use Rattle.staat_model.specs.Removal.{IsFree}
use Rattle.staat_model.specs.Planes.{vertices}
use Rattle.staat_model.specs.Cells.{signs_of, IsBorder, IsBorderEdge}

-- a vertex of the planes lies on the border of d's cell, or in that cell
pub record HasBorderVertex (planes : List V3) (d : V3) : Type 0 where
  pub v : V3
  pub vertex : Contains (vertices planes) v
  pub nonzero : v ≢ origin
  pub border : IsBorder (signs_of planes v) (signs_of planes d)

-- the parts of s are free of those of r along a vertex of the planes
pub record HasFreeVertex (parts : List Part) (planes : List V3) (s r : PartSet) : Type 0 where
  pub v : V3
  pub vertex : Contains (vertices planes) v
  pub free : IsFree parts s r v

-- two different edges lie on the border of the cell with the signs s
pub record HasTwoEdges (planes : List V3) (s : List Sign) : Type 0 where
  pub e : List Sign
  pub f : List Sign
  pub e_is : IsBorderEdge planes s e
  pub f_is : IsBorderEdge planes s f
  pub different : e ≢ f
