use Rattle.std.proofs.Common.{◌≡◌, map, take}
use Rattle.staat_holds.specs.VisitedNodes.{turned_way}
use Rattle.staat_holds.proofs.ways.turned.Given as goal

abbrev pub invariant-loop-way : goal.invariant-loop-way
invariant-loop-way l = l.back.items ≡ map turned_way (take l.way-index l.ways)
