use Rattle.std.specs.Prelude.{map}
use Rattle.std.proofs.Common.{take}
use Rattle.std.specs.List.{AllZip}
use Rattle.staat_samples.specs.Hulls.{IsHull, box_corners}
use Rattle.staat_samples.proofs.assemblies.boxes.Given as goal

abbrev pub invariant-loop-corner : goal.invariant-loop-corner
invariant-loop-corner l =
    AllZip IsHull (map (λ c. box_corners c.0 c.1) (take l.corner-index l.corners)) l.pieces.items
