use Rattle.std.proofs.Common.{drop}
use Rattle.staat_model.specs.Planes.{vertices}
use Rattle.staat_holds.specs.Links.{IsJoined}
use Rattle.staat_holds.proofs.GapLemmas.{IsBehind}
use Rattle.staat_holds.proofs.judge.gap_among.Given as goal

abbrev pub invariant-loop-k : goal.invariant-loop-k
invariant-loop-k l = IsBehind (IsJoined l.links l.count) (vertices l.planes) (vertices (drop l.k l.planes))
