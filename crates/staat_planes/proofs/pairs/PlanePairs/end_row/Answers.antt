use Rattle.std.proofs.Common.{◌++◌, ◌+◌, ap, arith, drop, sym}
use Rattle.std.proofs.lemmas.List.{drop_all}
use Rattle.staat_model.specs.Planes.{crossings, vertices}
use Rattle.staat_planes.specs.PairOrder.{numbers_of, planes_at, rest_of_row, row_plane}
use Rattle.staat_planes.proofs.PairSteps.{count_is}
use Rattle.staat_planes.proofs.pairs.PlanePairs.end_row.Goals as goal

pub returns-clause-left : goal.returns-clause-left
returns-clause-left c =
    let planes = c.args.table.now.planes in
    let p = c.args.self.now in
    let long = count_is planes p c.requires.place in
    ap (λ ks. rest_of_row planes p ++ (crossings (row_plane planes p) (planes_at planes ks) ++ vertices (planes_at planes (drop (p.first + 1) (numbers_of p)))))
    (sym (drop_all p.count (numbers_of p) (omega (arith, long))))
