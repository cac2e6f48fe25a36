use Rattle.std.proofs.Common.{sym, subst, [], List}
use Rattle.std.proofs.lemmas.List.Elements.{All-nil}
use Rattle.staat_cells.specs.declared.batches.Batch.{Batch}
use Rattle.staat_cells.specs.Batches.{IsBatch}
use Rattle.staat_cells.specs.CellGraphs.{AddsArcs, IsPairArc}
use Rattle.staat_cells.proofs.PieceCones.{BelowParts, all_listed, below_more, below_none}
use Rattle.staat_cells.proofs.part_arcs.all_batches.Goals as goal

pub loop-pair-init : goal.loop-pair-init
loop-pair-init c =
    subst (λ (l : List Batch). AddsArcs (BelowParts (IsPairArc c.args.table.now) 0) [] l)
    (sym c.new-batches.ensures.items)
    (below_none (IsPairArc c.args.table.now) [] (All-nil IsBatch))

pub loop-pair-preserved : goal.loop-pair-preserved
loop-pair-preserved c =
    below_more (IsPairArc c.args.table.now) c.loop-pair.pair [] c.loop-pair.batches.items
    c.push_parts.new.batches.items
    c.loop-pair.invariant c.in_ok-push_parts.ensures

pub returns-clause-arcs : goal.returns-clause-arcs
returns-clause-arcs c = all_listed c.args.table.now c.loop-pair.pair c.loop-pair.batches.items c.set-set.ensures.rules
    c.loop-pair-test.false c.loop-pair.invariant
