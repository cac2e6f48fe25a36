use Rattle.std.proofs.Common.{◌⊎◌, ◌↔◌, take, All, Contains}
use Rattle.staat_vec.specs.declared.vector.V3.{V3}
use Rattle.staat_vec.specs.declared.vector.TheConstants.{NORMAL}
use Rattle.staat_vec.specs.Vectors.{IsWithin}
use Rattle.staat_holds.specs.Links.{HasOther}
use Rattle.staat_holds.proofs.planes.add_planes.Given as goal

abbrev pub invariant-loop-facet : goal.invariant-loop-facet
invariant-loop-facet l = record {
  others : (n : V3) → Contains l.others.items n ↔ (Contains l.initial.others.items n ⊎ HasOther (take l.facet-index l.facets) n);
  within : All (IsWithin NORMAL) l.others.items;
}
