use Rattle.std.proofs.Common.{◌↔◌, ℕ, subst}
use Rattle.staat_model.specs.declared.set.PartSet.{PartSet}
use Rattle.staat_graph.specs.Blocking.{ShowsBlocking}
use Rattle.staat_graph.specs.Graphs.{HasArc}
use Rattle.staat_planes.specs.Tables.{BlocksIn}
use Rattle.staat_planes.proofs.table.PlaneTable.graph_at.Goals as goal

pub returns-clause-arcs : goal.returns-clause-arcs
returns-clause-arcs c parts made =
    subst (λ (w : PartSet). (a b : ℕ) → HasArc c.graph_in.result.rows a b ↔ BlocksIn parts w c.args.d a b) c.set.ensures.is (c.graph_in.ensures.arcs parts made)

pub returns-clause-shows : goal.returns-clause-shows
returns-clause-shows c parts made =
    subst (λ (w : PartSet). ShowsBlocking parts c.args.d w c.graph_in.result.rows) c.set.ensures.is (c.graph_in.ensures.shows parts made)
