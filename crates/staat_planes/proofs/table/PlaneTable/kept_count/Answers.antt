use Rattle.std.proofs.Common.{◌≤◌, ◌*◌, arith, length}
use Rattle.staat_planes.proofs.FacetCounts.{few_facets}
use Rattle.staat_planes.proofs.table.PlaneTable.kept_count.Goals as goal

pub returns-clause-most : goal.returns-clause-most
returns-clause-most c = few_facets c.args.self.now.planes c.kept_facets.result.now c.kept_facets.ensures.rules

pub overflow_cast-result : goal.overflow_cast-result
overflow_cast-result c =
    let planes : length c.args.self.now.planes ≤ 1024 = c.kept_facets.ensures.most in
    let facets : length c.kept_facets.result.now ≤ 2 * length c.args.self.now.planes = few_facets c.args.self.now.planes c.kept_facets.result.now c.kept_facets.ensures.rules in
    omega arith
