use Rattle.std.proofs.Common.{◌↔◌, ℕ, take}
use Rattle.staat_holds.specs.Links.{SomeLeads}
use Rattle.staat_holds.specs.VisitedNodes.{HasWay}
use Rattle.staat_holds.proofs.judge.ways_at.Given as goal

abbrev pub invariant-loop-link : goal.invariant-loop-link
invariant-loop-link l = (x y : ℕ) → HasWay l.ways.items x y ↔ SomeLeads (take l.link-index l.links) l.d x y
