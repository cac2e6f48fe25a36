use Rattle.std.proofs.Common.{arith, drop}
use Rattle.std.specs.Prelude.{slice_index}
use Rattle.std.proofs.lemmas.Option.{get_or_from_slice_get}
use Rattle.staat_vec.specs.Vectors.{origin}
use Rattle.staat_model.proofs.Members.{All-from_members}
use Rattle.staat_model.specs.Planes.{crossings}
use Rattle.staat_planes.specs.PairOrder.{numbers_of, planes_at}
use Rattle.staat_planes.proofs.PairSteps.{IsOn, apart_behind, number_small, on_row, plane_used}
use Rattle.staat_planes.proofs.pairs.PlanePairs.row_begun.Goals as goal

pub plane-requires : goal.plane-requires
plane-requires c =
    let place = c.enter_row.ensures.place in
    number_small c.args.table.now.planes c.enter_row.new.self place c.enter_row.new.self.first (let order = place.order in let some = c.if-self-2.false in omega (arith, order, some))

pub returns-clause-row : goal.returns-clause-row
returns-clause-row c =
    let p = c.enter_row.new.self in
    let planes = c.args.table.now.planes in
    let g = c.plane.result in
    let place = c.enter_row.ensures.place in
    let at = plane_used planes p place p.first g (let order = place.order in let some = c.if-self-2.false in omega (arith, order, some)) c.plane.ensures.is in
    record {
      plane = c.plane.ensures.rules;
      is = get_or_from_slice_get planes (slice_index (numbers_of p) p.first) g origin at;
      some = let b = c.if-self-2.false in omega (arith, b);
      on = All-from_members (IsOn g) (crossings g (planes_at planes (drop p.second (numbers_of p))))
          (on_row planes g (drop p.second (numbers_of p)) (apart_behind planes (numbers_of p) p.first p.second g c.len-len.ensures.rules.planes place.numbers place.order at));
    }
