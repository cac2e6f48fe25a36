use Rattle.std.proofs.Common.{drop}
use Rattle.staat_model.specs.Certificates.{IsListed}
use Rattle.staat_model.specs.Planes.{crossings}
use Rattle.staat_check.specs.Searches.{AskedBehind}
use Rattle.staat_check.proofs.covered.are_crossings_placed.Given as goal

abbrev pub invariant-loop-h : goal.invariant-loop-h
invariant-loop-h l = AskedBehind (IsListed l.version l.dirs) (crossings l.g l.hs) (crossings l.g (drop l.h-index l.hs))
