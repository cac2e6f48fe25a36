use Rattle.std.proofs.Common.{◌↔◌, ℕ, List, All, subst, sym}
use Rattle.staat_vec.specs.declared.vector.Sign.{Sign}
use Rattle.staat_cells.specs.declared.batches.Batch.{Batch}
use Rattle.staat_cells.specs.Batches.{IsBatch}
use Rattle.staat_cells.specs.CellGraphs.{IsArcAt, IsListedArc}
use Rattle.staat_cells.proofs.GraphRows.{told}
use Rattle.staat_cells.proofs.graphs.CellGraphs.of.Goals as goal

pub joined_batches-requires : goal.joined_batches-requires
joined_batches-requires c = subst (All IsBatch) (sym c.deref.ensures.value) c.in_ok-batches.ensures.batches

pub returns : goal.returns
returns c =
    told c.args.table.now c.in_ok-batches.batches.items c.in_ok-joined_batches.field-0.items c.all_batches.ensures.rules c.in_ok-batches.ensures.arcs
    (subst (λ (l : List Batch). (signs : List Sign) (a b : ℕ) → IsArcAt c.in_ok-joined_batches.field-0.items signs a b
    ↔ IsListedArc l signs a b) c.deref.ensures.value c.in_ok-joined_batches.ensures.arcs)
