use Rattle.std.proofs.Common.{◌≡◌, take}
use Rattle.staat_samples.specs.Hulls.{prism_corners}
use Rattle.staat_samples.proofs.pieces.prism_points.Given as goal

abbrev pub invariant-loop-corner : goal.invariant-loop-corner
invariant-loop-corner l = l.points.items ≡ prism_corners (take l.corner-index l.base)
