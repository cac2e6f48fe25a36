use Rattle.std.proofs.Common.{drop}
use Rattle.staat_model.specs.Planes.{crossings}
use Rattle.staat_holds.specs.Links.{IsJoined}
use Rattle.staat_holds.proofs.GapLemmas.{IsBehind}
use Rattle.staat_holds.proofs.judge.gap_on.Given as goal

abbrev pub invariant-loop-h : goal.invariant-loop-h
invariant-loop-h l = IsBehind (IsJoined l.links l.count) (crossings l.g l.hs) (crossings l.g (drop l.h-index l.hs))
