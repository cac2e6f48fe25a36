use Rattle.staat_words.specs.Requests.{IsNamedProduct, request_in}
use Rattle.staat_words.specs.declared.request.Request.TheVariants.{Pair, Look, Graph, Check, Drill, Confirm, Blocks}
use Rattle.staat_words.proofs.Made.{bounded, made, read, read_bounded}
use Rattle.staat_words.proofs.words.request_named.Goals as goal

pub returns-in-pair : goal.returns-in-pair
unfolding request_in
returns-in-pair c = record {
  answers = rw c.in-pair.is (made Pair _ c.pair_of.result c.map.result c.pair_of.ensures.answers c.map.ensures.cases);
  bounds = bounded Pair _ c.pair_of.result c.map.result (λ x h. h) c.pair_of.ensures.bounds c.map.ensures.cases;
}

pub returns-in-look : goal.returns-in-look
unfolding request_in
returns-in-look c = record {
  answers = rw c.in-look.is (made Look _ c.asked_of.result c.map-in-look.result c.asked_of.ensures.answers c.map-in-look.ensures.cases);
  bounds = bounded Look _ c.asked_of.result c.map-in-look.result (λ x h. h) c.asked_of.ensures.bounds c.map-in-look.ensures.cases;
}

pub returns-in-graph : goal.returns-in-graph
unfolding request_in
returns-in-graph c = record {
  answers = rw c.in-graph.is (made Graph _ c.graph_of.result c.map-in-graph.result c.graph_of.ensures.answers c.map-in-graph.ensures.cases);
  bounds = bounded Graph _ c.graph_of.result c.map-in-graph.result (λ x h. h) c.graph_of.ensures.bounds c.map-in-graph.ensures.cases;
}

pub returns-in-plan : goal.returns-in-plan
unfolding request_in
returns-in-plan c = record {
  answers = rw c.in-plan.is c.plan_of.ensures.answers;
  bounds = c.plan_of.ensures.bounds;
}

pub returns-in-check : goal.returns-in-check
unfolding request_in
returns-in-check c = record {
  answers = rw c.in-check.is (made Check _ c.check_of.result c.map-in-check.result c.check_of.ensures.answers c.map-in-check.ensures.cases);
  bounds = bounded Check _ c.check_of.result c.map-in-check.result (λ x h. h) c.check_of.ensures.bounds c.map-in-check.ensures.cases;
}

pub returns-in-cells : goal.returns-in-cells
unfolding request_in
returns-in-cells c = record {
  answers = rw c.in-cells.is c.cells_of.ensures.answers;
  bounds = c.cells_of.ensures.bounds;
}

pub returns-in-explode : goal.returns-in-explode
unfolding request_in
returns-in-explode c = record {
  answers = rw c.in-explode.is c.explode_of.ensures.answers;
  bounds = c.explode_of.ensures.bounds;
}

pub returns-in-linear : goal.returns-in-linear
unfolding request_in
returns-in-linear c = record {
  answers = rw c.in-linear.is c.linear_of.ensures.answers;
  bounds = c.linear_of.ensures.bounds;
}

pub returns-in-local : goal.returns-in-local
unfolding request_in
returns-in-local c = record {
  answers = rw c.in-local.is c.local_of.ensures.answers;
  bounds = c.local_of.ensures.bounds;
}

pub returns-in-decide : goal.returns-in-decide
unfolding request_in
returns-in-decide c = record {
  answers = rw c.in-decide.is c.decide_of.ensures.answers;
  bounds = c.decide_of.ensures.bounds;
}

pub returns-in-confirm : goal.returns-in-confirm
unfolding request_in
returns-in-confirm c = record {
  answers = rw c.in-confirm.is (made Confirm _ c.check_of-in-confirm.result c.map-in-confirm.result c.check_of-in-confirm.ensures.answers c.map-in-confirm.ensures.cases);
  bounds = bounded Confirm _ c.check_of-in-confirm.result c.map-in-confirm.result (λ x h. h) c.check_of-in-confirm.ensures.bounds c.map-in-confirm.ensures.cases;
}

pub returns-in-blocks : goal.returns-in-blocks
unfolding request_in
returns-in-blocks c = record {
  answers = rw c.in-blocks.is (made Blocks _ c.graph_of-in-blocks.result c.map-in-blocks.result c.graph_of-in-blocks.ensures.answers c.map-in-blocks.ensures.cases);
  bounds = bounded Blocks _ c.graph_of-in-blocks.result c.map-in-blocks.result (λ x h. h) c.graph_of-in-blocks.ensures.bounds c.map-in-blocks.ensures.cases;
}

pub returns-in-drill : goal.returns-in-drill
unfolding request_in
returns-in-drill c = record {
  answers = rw c.in-drill.is (made Drill _ c.ok_or.result c.map-in-drill.result (read _ _ _ c.drill_in.ensures.exact c.ok_or.ensures.value) c.map-in-drill.ensures.cases);
  bounds = bounded Drill IsNamedProduct c.ok_or.result c.map-in-drill.result (λ x h. h) (read_bounded _ _ _ c.drill_in.ensures.bounds c.ok_or.ensures.value) c.map-in-drill.ensures.cases;
}
