use Rattle.std.proofs.Common.{take}
use Rattle.staat_pairs.specs.PlaneNumbers.{ArePlaneNumbers}
use Rattle.staat_pairs.proofs.PlaneNumbering.{Collects}
use Rattle.staat_pairs.proofs.planes.collect.Given as goal

abbrev pub invariant-loop-facet : goal.invariant-loop-facet
invariant-loop-facet l = record {
  listed : Collects (take l.facet-index l.facets) l.listed.items;
  places : ArePlaneNumbers l.listed.items (take l.facet-index l.facets) l.places.items;
}
