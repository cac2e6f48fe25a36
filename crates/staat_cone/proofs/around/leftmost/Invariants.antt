use Rattle.std.proofs.Common.{take}
use Rattle.staat_cone.proofs.ScanLemmas.{IsScanned}
use Rattle.staat_cone.proofs.around.leftmost.Given as goal

abbrev pub invariant-loop-x : goal.invariant-loop-x
invariant-loop-x l = IsScanned l.vs (take l.x-index l.vs) l.v l.fn.first l.best l.normal
