use Rattle.std.proofs.Common.{◌∙◌, ◌<◌, ◌≤◌, List, ap, length, sym, arith}
use Rattle.std.proofs.lemmas.List.Elements.{All-contains}
use Rattle.staat_vec.specs.declared.vector.TheConstants.{POINT}
use Rattle.staat_vec.specs.declared.vector.V3.{V3}
use Rattle.staat_vec.specs.Vectors.{IsWithin, cross, minus, origin}
use Rattle.staat_model.proofs.Flat.{apart}
use Rattle.staat_mesh.specs.Sides.{OnLine}
use Rattle.staat_mesh.proofs.LineLemmas.{on_line_at, on_line_through}
use Rattle.staat_mesh.proofs.plane.plane_of.Goals as goal

no_points : (points : List V3) → length points ≤ 0 → OnLine points
no_points points h a b c a_in b_in c_in = let lt : a_in.0 < length points = a_in.1 in absurd (omega arith)

pub returns-in_err-first : goal.returns-in_err-first
returns-in_err-first c = rw c.from_residual.ensures (record { plane = no_points c.args.points.now c.in_err-first.ensures.item.3; through = tt; size = tt })

pub returns-in_err-second : goal.returns-in_err-second
returns-in_err-second c = rw c.from_residual-in_err-second.ensures (record { plane = on_line_at _ _ c.in_err-second.ensures; through = tt; size = tt })

pub returns-in_err-normal : goal.returns-in_err-normal
returns-in_err-normal c =
    rw c.from_residual-in_err-normal.ensures
    (record { plane = on_line_through _ _ _ (apart _ _ _ c.sub.ensures.value c.in_ok-second.ensures.1) c.in_err-normal.ensures.line; through = tt; size = tt })

pub sub-requires-clause-a : goal.sub-requires-clause-a
sub-requires-clause-a c = All-contains (IsWithin POINT) c.args.points.now c.in_ok-second.second c.requires c.in_ok-second.ensures.0

pub normal_off_line-requires-clause-points : goal.normal_off_line-requires-clause-points
normal_off_line-requires-clause-points c = c.requires

pub normal_off_line-requires-clause-along : goal.normal_off_line-requires-clause-along
normal_off_line-requires-clause-along c = c.sub.ensures.size

pub returns-clause-size : goal.returns-clause-size
returns-clause-size c = c.in_ok-normal.ensures.size

pub returns-clause-through : goal.returns-clause-through
returns-clause-through c =
    let first = c.in_ok-first.ensures.item.3 in
    rw (first.1 origin) (c.requires 0 origin first.0)

pub sub-requires-clause-b : goal.sub-requires-clause-b
sub-requires-clause-b c =
    let first = c.in_ok-first.ensures.item.3 in
    rw (first.1 origin) (c.requires 0 origin first.0)

pub normal_off_line-requires-clause-a : goal.normal_off_line-requires-clause-a
normal_off_line-requires-clause-a c =
    let first = c.in_ok-first.ensures.item.3 in
    rw (first.1 origin) (c.requires 0 origin first.0)

pub returns-clause-plane : goal.returns-clause-plane
returns-clause-plane c =
    let a = c.in_ok-first.first.now in
    let first = c.in_ok-first.ensures.item.3 in
    let off = c.in_ok-normal.ensures.line in
    let third = off.1 in record {
      b = c.in_ok-second.second;
      c = third.1;
      a_in = (0, first.0, sym (first.1 a));
      b_in = c.in_ok-second.ensures.0;
      c_in = (third.0, third.2, third.3);
      normal = third.4 ∙ ap (λ d. cross d (minus third.1 a)) c.sub.ensures.value;
      apart = off.0;
    }
