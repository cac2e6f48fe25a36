use Rattle.std.proofs.Common.{◌≡◌, All, take}
use Rattle.staat_model.specs.declared.certificate.Sep.{Sep}
use Rattle.staat_check.proofs.missing.has_wall.Given as goal

abbrev pub invariant-loop-sep : goal.invariant-loop-sep
invariant-loop-sep l = All (λ (sep : Sep). sep.arc ≡ l.arc → ⊥) (take l.sep-index l.seps)
