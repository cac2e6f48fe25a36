use Rattle.std.proofs.Common.{◌↔◌, take, All, Contains}
use Rattle.staat_vec.specs.declared.vector.V3.{V3}
use Rattle.staat_vec.specs.declared.vector.TheConstants.{NORMAL}
use Rattle.staat_vec.specs.Vectors.{IsWithin}
use Rattle.staat_holds.specs.Links.{HasLinkOther}
use Rattle.staat_holds.proofs.planes.others_of.Given as goal

abbrev pub invariant-loop-link : goal.invariant-loop-link
invariant-loop-link l = record {
  others : (n : V3) → Contains l.others.items n ↔ HasLinkOther (take l.link-index l.links) n;
  within : All (IsWithin NORMAL) l.others.items;
}
