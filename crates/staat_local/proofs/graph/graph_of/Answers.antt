use Rattle.std.proofs.Common.{◌<◌, arith, refl, rules}
use Rattle.staat_graph.proofs.Arcs.{empty_graph}
use Rattle.staat_local.specs.Beginnings.{HoldsBetween}
use Rattle.staat_local.proofs.Holding.{row_more}
use Rattle.staat_local.proofs.graph.graph_of.Goals as goal

pub loop-a-init : goal.loop-a-init
loop-a-init c = record { long = refl; rows = λ a b. (λ h. absurd (empty_graph a b h), λ h. let none = h.1 in absurd (omega (arith, none))) }

pub loop-a-preserved : goal.loop-a-preserved
loop-a-preserved c = record {
  long = search rules;
  rows = row_more (HoldsBetween c.args.table.now c.args.marks.now c.args.d) c.loop-a.rows c.loop-a.a c.bits.result c.held_by.result (omega (arith, c.loop-a.invariant.long, c.loop-a-test.true)) c.loop-a.invariant.rows c.held_by.ensures c.bits.ensures.bit;
}

pub returns : goal.returns
returns c a b = (
  λ h. ((c.loop-a.invariant.rows a b).0 h).0,
  λ h. (c.loop-a.invariant.rows a b).1 (h, let small : a < 32 = c.set-set.ensures.rules.small a h.across.a_in in omega (arith, small, c.loop-a-test.false)),
)
