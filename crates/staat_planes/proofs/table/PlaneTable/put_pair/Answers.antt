use Rattle.staat_planes.specs.Tables.{IsAhead}
use Rattle.staat_planes.proofs.GraphSteps.{pair_gained}
use Rattle.staat_planes.proofs.table.PlaneTable.put_pair.Goals as goal

pub returns : goal.returns
returns c = pair_gained (IsAhead c.args.self.now c.args.heading.now.d) c.args.rows.now c.put_arc.new.rows c.put_arc-2.new.rows c.args.a c.args.b c.leads_between-leads.result.ahead c.leads_between-leads.result.behind
    c.leads_between-leads.ensures.ahead c.leads_between-leads.ensures.behind c.put_arc.ensures c.put_arc-2.ensures
