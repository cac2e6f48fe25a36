use Rattle.std.proofs.Common.{take, All}
use Rattle.staat_holds.specs.Links.{AreLinks, IsLink}
use Rattle.staat_holds.proofs.links.links_of.Given as goal

abbrev pub invariant-loop-pair : goal.invariant-loop-pair
invariant-loop-pair g l = record {
  are : AreLinks l.parts l.nodes (take l.pair-index l.core) l.links.items;
  links : All (IsLink l.count) l.links.items;
}
