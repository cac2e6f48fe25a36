use Rattle.std.proofs.Common.{◌≡◌, false, true, arith}
use Rattle.staat_mesh.proofs.MakeLemmas.{in_plane}
use Rattle.staat_mesh.proofs.make.check_points.Goals as goal

pub returns-then-not-is_solid : goal.returns-then-not-is_solid
returns-then-not-is_solid c = (omega arith, omega arith, in_plane _ (λ solid. untrue (c.if-not-is_solid.ensures.1 solid)))
  where
    untrue : false ≡ true → ⊥
    untrue e = cc
