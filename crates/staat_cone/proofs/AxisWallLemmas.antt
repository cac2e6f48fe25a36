-- A wall shows that pieces do not overlap.
use Rattle.std.proofs.Common.{◌≡◌, pos, List, arith}
use Rattle.std.proofs.lemmas.Int.{ints}
use Rattle.staat_vec.specs.declared.vector.V3.{V3}
use Rattle.staat_vec.specs.Vectors.{dot, origin}
use Rattle.staat_model.specs.Meeting.{Overlap}
use Rattle.staat_model.specs.Pieces.{IsPiece}
use Rattle.staat_model.proofs.WallLaws.{wall_keeps_apart}
use Rattle.staat_cone.specs.AxisWalls.{IsWallBetween}
use Rattle.staat_vec.proofs.VectorLaws.{dot_origin}

pub kept_apart : (p q : List V3) (n : V3) → IsPiece p → IsWallBetween p q n → Overlap p q → ⊥
kept_apart p q n piece wall o = wall_keeps_apart p q origin n piece.solid (record { wall = wall.0; beyond = wall.1; away = let e : dot n origin ≡ pos 0 = dot_origin n in omega (arith, ints, e) }) (record { t = 0; meeting = o })
