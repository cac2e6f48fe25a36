use Rattle.std.proofs.Common.{All, take}
use Rattle.staat_model.specs.Certificates.{IsWall}
use Rattle.staat_check.proofs.split.Parting.first_bad_wall.Given as goal

abbrev pub invariant-loop-m : goal.invariant-loop-m
invariant-loop-m l = All (IsWall l.self.assembly.now l.self.side l.self.rest l.self.d) (take l.m l.self.seps.now)
