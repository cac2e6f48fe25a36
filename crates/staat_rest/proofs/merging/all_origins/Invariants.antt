use Rattle.std.proofs.Common.{take}
use Rattle.std.specs.List.{AllZip}
use Rattle.staat_rest.specs.Merging.{AreOrigins}
use Rattle.staat_rest.proofs.merging.all_origins.Given as goal

abbrev pub invariant-loop-head : goal.invariant-loop-head
invariant-loop-head l = AllZip (AreOrigins l.parts l.names) (take l.head-index l.heads) l.all.items
