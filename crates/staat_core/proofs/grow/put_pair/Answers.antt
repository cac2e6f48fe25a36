use Rattle.staat_pairs.specs.Tables.{back}
use Rattle.staat_core.proofs.Leading.{first_way, leads_more, meets_ahead, meets_behind, second_way}
use Rattle.staat_core.proofs.grow.put_pair.Goals as goal

pub returns-then-leads : goal.returns-then-leads
returns-then-leads g c = record {
  reversed = c.put.ensures.reversed;
  leads = λ parts pairs speaks listed leads.
      leads_more parts pairs c.args.heading.now.d c.args.pair c.args.joins.now.ahead.rows c.put.new.self.ahead.rows (first_way pairs c.args.pair listed)
      (meets_ahead parts c.args.pair c.facets.result.now (c.facets.ensures.all parts speaks) c.args.heading.now.d (c.past-leads.ensures.ahead.0 c.if-leads.true))
      c.put.ensures.ahead leads;
}

pub returns-then-leads-2 : goal.returns-then-leads-2
returns-then-leads-2 g c = record {
  reversed = c.put-then-leads-2.ensures.reversed;
  leads = λ parts pairs speaks listed leads.
      leads_more parts pairs c.args.heading.now.d (back c.args.pair) c.args.joins.now.ahead.rows c.put-then-leads-2.new.self.ahead.rows (second_way pairs c.args.pair listed)
      (meets_behind parts c.args.pair c.facets.result.now (c.facets.ensures.all parts speaks) c.args.heading.now.d (c.past-leads.ensures.behind.0 c.if-leads-2.true))
      c.put-then-leads-2.ensures.ahead leads;
}
