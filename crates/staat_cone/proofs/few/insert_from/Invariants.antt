use Rattle.std.proofs.Common.{All, Contains, take}
use Rattle.staat_vec.specs.declared.vector.V3.{V3}
use Rattle.staat_vec.specs.Vectors.{minus}
use Rattle.staat_cone.specs.Few.{IsGrown}
use Rattle.staat_cone.proofs.few.insert_from.Given as goal

abbrev pub invariant-loop-b : goal.invariant-loop-b
invariant-loop-b l = record {
  grown : IsGrown l.ps l.qs l.few.members.items l.few.untested.items l.few.found.items;
  kept : (v : V3) → Contains l.initial.few.members.items v → Contains l.few.members.items v;
  all : All (λ b. Contains l.few.members.items (minus b l.a)) (take l.b-index l.qs);
}
