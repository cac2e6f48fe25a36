use Rattle.std.proofs.Common.{◌≡◌, ◌≤◌, ◌+◌, drop, map, unsigned_abs}
use Rattle.std.specs.List.{fold}
use Rattle.staat_vec.specs.declared.vector.TheConstants.{POINT}
use Rattle.staat_explode.specs.declared.grow.TheConstants.{FARTHEST}
use Rattle.staat_explode.specs.Boxes.{further}
use Rattle.staat_explode.specs.Shifts.{end_along, extreme}
use Rattle.staat_explode.proofs.shifted.extreme.Given as goal

abbrev pub invariant-loop-p : goal.invariant-loop-p
invariant-loop-p l = record {
  furthest : fold (further l.end) l.furthest (map (end_along l.boxes l.axis l.end) (drop l.p-index l.placed))
      ≡ extreme l.boxes l.axis l.end l.placed;
  size : unsigned_abs l.furthest ≤ POINT + FARTHEST;
}
