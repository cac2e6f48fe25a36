use Rattle.std.proofs.Common.{refl}
use Rattle.std.proofs.lemmas.Result.{on_ok_weaker}
use Rattle.staat_cells.proofs.TableRules.{edge_incidences_grew, vertex_off}
use Rattle.staat_cells.proofs.edge_incidences.push_edge_incidences.Goals as goal

pub axis_off-m-requires : goal.axis_off-m-requires
axis_off-m-requires c = vertex_off c.args.planes.now c.args.point.now.d c.requires.planes c.requires.vertex

pub returns : goal.returns
returns c = on_ok_weaker c.push_all.result
    (edge_incidences_grew c.args.planes.now c.args.point.now.d c.axis_off-m.result c.args.k c.args.k
    c.args.incidences.now.items c.push_all.new.incidences.items c.requires.planes c.requires.vertex
    c.axis_off-m.ensures.is refl) c.push_all.ensures
