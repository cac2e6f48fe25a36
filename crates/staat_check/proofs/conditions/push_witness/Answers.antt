use Rattle.staat_check.specs.Conditions.{both_sides}
use Rattle.staat_check.proofs.ConditionLemmas.{witness_arcs}
use Rattle.staat_check.proofs.conditions.push_witness.Goals as goal

pub returns : goal.returns
returns c = witness_arcs c.args.table.now (both_sides c.args.table.now.planes) c.args.witness.now c.as_slice.result.now c.as_slice-2.result.now c.args.numbers.now.items c.push_arcs.new.numbers.items c.push_arcs-2.new.numbers.items c.push_arcs-2.result c.as_slice.ensures c.as_slice-2.ensures c.in_ok-push_arcs.ensures c.push_arcs-2.ensures
