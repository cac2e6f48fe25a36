use Rattle.std.specs.Prelude.{map}
use Rattle.std.proofs.Common.{take}
use Rattle.std.specs.List.{AllZip}
use Rattle.staat_samples.specs.Hulls.{IsHull, prism_corners}
use Rattle.staat_samples.proofs.assemblies.prisms.Given as goal

abbrev pub invariant-loop-base : goal.invariant-loop-base
invariant-loop-base l = AllZip IsHull (map prism_corners (take l.base-index l.bases)) l.pieces.items
