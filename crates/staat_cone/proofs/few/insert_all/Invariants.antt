use Rattle.std.proofs.Common.{All, Contains, take}
use Rattle.staat_vec.specs.Vectors.{minus}
use Rattle.staat_cone.specs.Few.{IsGrown}
use Rattle.staat_cone.proofs.few.insert_all.Given as goal

abbrev pub invariant-loop-a : goal.invariant-loop-a
invariant-loop-a l = record {
  grown : IsGrown l.ps l.qs l.few.members.items l.few.untested.items l.few.found.items;
  all : All (λ a. All (λ b. Contains l.few.members.items (minus b a)) l.qs) (take l.a-index l.ps);
}
