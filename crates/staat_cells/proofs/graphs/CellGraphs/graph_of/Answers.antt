use Rattle.std.proofs.Common.{◌∙◌, ◌≤◌, arith, length, sym, subst, List, All}
use Rattle.std.proofs.lemmas.List.Elements.{All-get_or}
use Rattle.staat_cells.specs.declared.joined_batches.JoinedBatch.{JoinedBatch}
use Rattle.staat_cells.specs.Batches.{IsJoinedArc, IsJoinedBatch}
use Rattle.staat_planes.proofs.Gaining.{adds_nothing}
use Rattle.staat_cells.proofs.Growing.{grown_take}
use Rattle.staat_cells.proofs.GraphRows.{HasArcsUpTo, graph_is, graph_shows}
use Rattle.staat_cells.proofs.graphs.CellGraphs.graph_of.Goals as goal

pub loop-batch-init : goal.loop-batch-init
loop-batch-init c = λ a b. adds_nothing (λ none. let lt = none.2 in omega (arith, lt))

pub add_batch_arcs-requires : goal.add_batch_arcs-requires
add_batch_arcs-requires c =
    let batches = c.deref-batch-items.result.now in
    let rules : All IsJoinedBatch batches = subst (All IsJoinedBatch) (sym c.deref-batch-items.ensures.value) c.self.invariant in
    let own : IsJoinedBatch c.batch-item.result = subst IsJoinedBatch (sym c.batch-item.is)
    (All-get_or IsJoinedBatch batches c.loop-batch.batch-index c.batch-item.result c.loop-batch-test.true rules) in
    own

pub loop-batch-preserved : goal.loop-batch-preserved
loop-batch-preserved c = λ a b. grown_take (λ batch. IsJoinedArc batch c.args.signs.now a b) c.deref-batch-items.result.now
    c.loop-batch.batch-index c.batch-item.result c.loop-batch-test.true c.batch-item.is (c.loop-batch.invariant a b)
    (c.add_batch_arcs.ensures a b)

pub returns-clause-table : goal.returns-clause-table
returns-clause-table c t tells =
    graph_is t c.args.self.now c.args.signs.now c.loop-batch.rows c.loop-batch.batch-index
    (subst (λ (l : List JoinedBatch). length l ≤ c.loop-batch.batch-index)
    (c.deref-batch-items.ensures.value ∙ c.self.view_is) c.loop-batch-test.false)
    (subst (λ (l : List JoinedBatch). HasArcsUpTo c.loop-batch.rows l c.args.signs.now c.loop-batch.batch-index)
    (c.deref-batch-items.ensures.value ∙ c.self.view_is) c.loop-batch.invariant)
    tells

pub returns-clause-shows : goal.returns-clause-shows
returns-clause-shows c t parts d tells made e =
    graph_shows t parts d c.args.signs.now c.loop-batch.rows tells.rules (returns-clause-table c t tells) made e
