use Rattle.std.proofs.Common.{◌≡◌, ◌+◌, ◌∷◌, arith, sym, subst}
use Rattle.staat_vec.specs.declared.vector.V3.{V3}
use Rattle.staat_vec.specs.Vectors.{negative}
use Rattle.staat_planes.specs.PairOrder.{vertices_left}
use Rattle.staat_planes.proofs.PairSteps.{number_small, pair_apart, pair_left}
use Rattle.staat_planes.proofs.pairs.PlanePairs.crossing_here.Goals as goal

pub plane-g-requires : goal.plane-g-requires
plane-g-requires c = number_small c.args.table.now.planes c.args.self.now c.requires.place c.args.self.now.first (let order = c.requires.place.order in let some = c.requires.some in omega (arith, order, some))

pub plane-h-requires : goal.plane-h-requires
plane-h-requires c = number_small c.args.table.now.planes c.args.self.now c.requires.place c.args.self.now.second c.requires.some

pub crossing-requires-clause-apart : goal.crossing-requires-clause-apart
crossing-requires-clause-apart c = pair_apart c.args.table.now.planes c.args.self.now c.requires.place c.plane-g.result c.plane-h.result c.requires.some c.plane-g.ensures.is c.plane-h.ensures.is c.len-len.ensures.rules.planes

pub returns-clause-left : goal.returns-clause-left
returns-clause-left c =
    let planes = c.args.table.now.planes in
    let p = c.args.self.now in
    subst (λ (d : V3). vertices_left planes p ≡ d ∷ negative d ∷ vertices_left planes (record { numbers = p.numbers; count = p.count; first = p.first; second = p.second + 1 })) (sym c.crossing.ensures.value)
    (pair_left planes p c.requires.place c.plane-g.result c.plane-h.result c.requires.some c.plane-g.ensures.is c.plane-h.ensures.is)
