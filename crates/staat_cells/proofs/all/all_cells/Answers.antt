use Rattle.std.proofs.Common.{◌≡◌, ◌∙◌, ap, length, map, subst, sym, ◌++◌}
use Rattle.std.proofs.lemmas.List.{map-append}
use Rattle.staat_vec.specs.declared.vector.TheConstants.{DIRECTION}
use Rattle.staat_vec.specs.Vectors.{IsWithin}
use Rattle.staat_model.specs.Cells.{AreCells, AreCellsOf, signs_of}
use Rattle.staat_model.specs.declared.tree.Kind.TheVariants.{Open}
use Rattle.staat_pairs.specs.Tables.{AreTablePlanes}
use Rattle.staat_cells.specs.Compositions.{composed_up_to, entry_of}
use Rattle.staat_cells.specs.Skeletons.{IsSkeleton, opens_before}
use Rattle.staat_cells.proofs.WholeLists.{cells_small, of_cells, representatives}
use Rattle.staat_cells.proofs.OneCell.{one_cell}
use Rattle.staat_cells.proofs.all.all_cells.Goals as goal

pub returns : goal.returns
returns c =
    let planes = c.args.table.now.planes in
    let s = c.in_ok-skeleton.skeleton in
    let has = subst (λ l. IsSkeleton l s) c.planes.ensures.is c.in_ok-skeleton.ensures in
    let rules = subst AreTablePlanes c.planes.ensures.is c.planes.ensures.rules in
    let opens = c.in_ok-opens.opens.items in
    let made : map entry_of opens ≡ opens_before s (length s.incidences.items) =
    c.in_ok-opens.ensures ∙ (λ i. let l = c.deref-2.ensures.value i in composed_up_to Open (map entry_of (c.deref.ensures.value i)) l (length l)) in
    let cells = map entry_of c.from_vec.result in
    let are : AreCells planes cells = record {
      points = map entry_of s.points.items;
      edges = map entry_of s.edges.items;
      opens = map entry_of opens;
      points_are = has.points;
      edges_are = has.edges;
      opens_are = subst (AreCellsOf planes Open) (sym made) has.opens;
      is = ap (map entry_of) (c.from_vec.ensures ∙ c.in_ok-append-2.ensures.items ∙ ap (λ l. l ++ opens) c.in_ok-append.ensures.items)
          ∙ map-append entry_of (s.points.items ++ s.edges.items) opens
          ∙ ap (λ l. l ++ map entry_of opens) (map-append entry_of s.points.items s.edges.items);
    } in
    record {
      cells = are;
      representatives = of_cells (λ e. signs_of planes e.d ≡ e.signs) c.from_vec.result (representatives planes rules cells are);
      size = of_cells (λ e. IsWithin DIRECTION e.d) c.from_vec.result (cells_small planes rules cells are);
      one = λ d some. one_cell planes d cells are some;
    }
