use Rattle.std.proofs.Common.{◌≡◌, map, take}
use Rattle.staat_model.specs.declared.certificate.Dir.{Dir}
use Rattle.staat_check.proofs.refusal.directions_of.Given as goal

abbrev pub invariant-loop-dir : goal.invariant-loop-dir
invariant-loop-dir l = l.listed.items ≡ map (λ (dir : Dir). dir.d) (take l.dir-index l.dirs)
