-- How great the numbers are with which the vectors are found.
use Rattle.std.specs.Prelude.{◌<◌, ◌≢◌, ℕ}
use Rattle.staat_vec.specs.declared.vector.TheConstants.{POINT}
use Rattle.staat_vec.specs.Vectors.{IsWithin, origin}
use Rattle.staat_model.specs.Plans.{Plan, leaf, split}
use Rattle.staat_explode.specs.declared.boxes.Bounds.{Bounds}
use Rattle.staat_explode.specs.declared.shifted.Shifted.{Shifted}
use Rattle.staat_off.specs.Raws.{IsIndexed}
use Rattle.staat_explode.specs.declared.scene.Solid.{Solid}
use Rattle.staat_explode.specs.declared.grow.TheConstants.{FARTHEST}

-- the box is about as great as its points are
pub record AreBounds (b : Bounds) : Type 0 where
  pub low : IsWithin POINT b.low
  pub high : IsWithin POINT b.high

-- the part has a box, and is not too far from its place
pub record IsShifted (boxes : ℕ) (p : Shifted) : Type 0 where
  pub part : p.part < boxes
  pub near : IsWithin FARTHEST p.by

-- each part has a box, and no direction is zero
abbrev pub IsShiftable : ℕ → Plan → Type 0
IsShiftable boxes (leaf p) = p < boxes
IsShiftable boxes (split d moved rest) = (d ≢ origin) × IsShiftable boxes moved × IsShiftable boxes rest

-- the solid's part has a vector, its own vector is no greater than a point, and its corners are its points' numbers
pub record IsSolidIn (parts : ℕ) (s : Solid) : Type 0 where
  pub part : s.part < parts
  pub at : IsWithin POINT s.at
  pub raw : IsIndexed s.raw
