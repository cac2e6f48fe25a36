use Rattle.std.proofs.Common.{Bool, List, arith, subst, sym}
use Rattle.staat_graph.proofs.RowLemmas.{IsLetThrough, all_through, next_through, none_through}
use Rattle.staat_graph.proofs.rows.walk_rows.Goals as goal

pub loop-k-init : goal.loop-k-init
loop-k-init c =
    subst (λ (table : List (List Bool)). IsLetThrough c.args.rows.now 0 table) (sym c.in_ok-table.ensures) (none_through c.args.rows.now c.requires)

pub loop-k-preserved : goal.loop-k-preserved
loop-k-preserved c =
    next_through c.args.rows.now c.loop-k.k c.loop-k.table.items c.lead_all_on.new.table.items c.loop-k.invariant c.in_ok-lead_all_on.ensures

pub returns : goal.returns
returns c = all_through c.args.rows.now c.loop-k.k c.loop-k.table.items (omega (arith, c.loop-k-test.false)) c.loop-k.invariant
