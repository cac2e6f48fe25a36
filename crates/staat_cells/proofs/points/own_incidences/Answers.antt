use Rattle.std.proofs.Common.{◌≡◌, ◌∙◌, ap, arith, sym, ◌++◌, ◌∷◌, [], length, map}
use Rattle.std.proofs.lemmas.List.{length-map}
use Rattle.staat_model.specs.Cells.{CellEntry}
use Rattle.staat_cells.specs.declared.cell.Cell.{Cell}
use Rattle.staat_cells.specs.Compositions.{entry_of}
use Rattle.staat_cells.specs.Packing.{incidence_of}
use Rattle.staat_cells.specs.Stages.{IsOwnIncidence, cell_at}
use Rattle.staat_cells.proofs.Growing.{grown_more}
use Rattle.staat_cells.proofs.ListedIncidences.{IsOwnAt, entry_is, grew_none, grew_one, own_all, sorted_all}
use Rattle.staat_cells.proofs.points.own_incidences.Goals as goal

pub loop-k-init : goal.loop-k-init
loop-k-init c = grew_none (IsOwnAt (map entry_of c.args.cells.now)) c.in_ok-incidences.incidences.items c.in_ok-incidences.ensures.items

pub loop-k-preserved : goal.loop-k-preserved
loop-k-preserved c =
    let cells = map entry_of c.args.cells.now in
    let k = c.loop-k.k in
    let signs = c.as_slice.ensures ∙ ap (λ (a : Cell). a.signs) (sym c.index-cells-k.is)
    ∙ ap (λ (e : CellEntry). e.signs) (sym (entry_is c.args.cells.now k c.index-cells-k.result c.loop-k-test.true c.index-cells-k.is)) in
    let is = c.in_ok-push.ensures.items
    ∙ ap (λ s. c.loop-k.incidences.items ++ s ∷ []) (c.incidence_of.ensures ∙ ap (λ l. incidence_of l k) signs) in
    λ x. grown_more (IsOwnAt cells x) k (c.loop-k.invariant x)
    (grew_one c.loop-k.incidences.items c.push.new.self.items (incidence_of (cell_at cells k).signs k) is x)

pub returns : goal.returns
returns c =
    let cells = map entry_of c.args.cells.now in
    let all : c.loop-k.k ≡ length cells =
    omega (arith, c.loop-k-test.false, c.loop-k.auto.k-end, length-map c.args.cells.now entry_of) in
    sorted_all (IsOwnIncidence cells) (IsOwnAt cells) c.loop-k.incidences.items c.in_order.result.items c.loop-k.k
    c.loop-k.invariant (own_all cells c.loop-k.k all)
    c.in_order.ensures
