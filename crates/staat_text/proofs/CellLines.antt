-- The lines of cells, one more at a time; and cells have one text.
use Rattle.std.proofs.Common.{◌≡◌, ◌∙◌, ◌↔◌, ℕ, ◌+◌, ◌<◌, ◌≤◌, refl, sym, ap, ap₂, subst, arith, Bool, cond}
use Rattle.std.proofs.Common.{List, [], ◌∷◌, ◌++◌, length, map, take, get_or, append_assoc, All}
use Rattle.std.specs.Fmt.{signed_decimal}
use Rattle.std.proofs.lemmas.List.{append-nil, get_or-map, length-map, map-append, take_all, take_more}
use Rattle.std.proofs.lemmas.List.Elements.{All-append, All-head, All-tail}
use Rattle.std.proofs.lemmas.List.Sums.{sum_by_more}
use Rattle.staat_vec.specs.declared.vector.V3.{V3}
use Rattle.staat_model.specs.declared.assembly.Part.{Part}
use Rattle.staat_model.specs.declared.tree.Kind.{Kind}
use Rattle.staat_model.specs.declared.tree.Kind.TheVariants.{Edge, Open, Point}
use Rattle.staat_model.specs.Cells.{AreCells, AreCellsOf, CellEntry, IsCell}
use Rattle.staat_model.specs.Lines.{vector_numbers}
use Rattle.staat_model.specs.Planes.{ArePlanes}
use Rattle.staat_model.specs.Sets.{Has, below}
use Rattle.staat_model.proofs.OneTable.{AreCellsOf-unique, ArePlanes-unique}
use Rattle.staat_graph.specs.Blocking.{ShowsBlocking}
use Rattle.staat_graph.specs.Graphs.{HasArc}
use Rattle.staat_pairs.specs.Tables.{IsTable, Table, WasMadeFrom}
use Rattle.staat_cells.specs.CellGraphs.{IsCellGraph}
use Rattle.staat_cells.specs.Compositions.{entry_of}
use Rattle.staat_cells.specs.declared.cell.Cell.{Cell}
use Rattle.staat_cells.proofs.GraphRows.{graph_shows}
use Rattle.staat_text.specs.declared.holding.HeldText.{HeldText}
use Rattle.staat_text.specs.CellTexts.{EachCell, IsCellsText, IsGraphOfCell, IsTextOfCells}
use Rattle.staat_text.specs.CellTexts.{cell_line, cell_lines, cells_text, totals_line, kind_count, same_kind}
use Rattle.staat_text.specs.CellTexts.{kind_word, short_arcs}
use Rattle.staat_text.specs.Holding.{HoldsText, HoldsCells, HoldsMore}
use Rattle.staat_text.specs.PlanTexts.{numbers_before}
use Rattle.staat_text.proofs.SameArcs.{same_arcs}

-- ---- a cell more

each_more : (R : CellEntry → List ℕ → Type 0) (cells : List CellEntry) (graphs : List (List ℕ)) (c : CellEntry) (rows : List ℕ) → EachCell R cells graphs → R c rows
    → EachCell R (cells ++ c ∷ []) (graphs ++ rows ∷ [])
each_more R [] [] c rows all r = (r, tt)
each_more R [] (x ∷ graphs) c rows all r = absurd all
each_more R (x ∷ cells) [] c rows all r = absurd all
each_more R (x ∷ cells) (y ∷ graphs) c rows all r = (all.0, each_more R cells graphs c rows all.1 r)

lines_more : (n : ℕ) (R : CellEntry → List ℕ → Type 0) (cells : List CellEntry) (graphs : List (List ℕ)) (c : CellEntry) (rows : List ℕ) → EachCell R cells graphs
    → cell_lines n (cells ++ c ∷ []) (graphs ++ rows ∷ []) ≡ cell_lines n cells graphs ++ cell_line n c rows
lines_more n R [] [] c rows all = append-nil (cell_line n c rows)
lines_more n R [] (x ∷ graphs) c rows all = absurd all
lines_more n R (x ∷ cells) [] c rows all = absurd all
lines_more n R (x ∷ cells) (y ∷ graphs) c rows all =
    ap (λ l. cell_line n x y ++ l) (lines_more n R cells graphs c rows all.1) ∙ sym (append_assoc (cell_line n x y) (cell_lines n cells graphs) (cell_line n c rows))

pub cells_more : (t : Table) (n k : ℕ) (cells : List Cell) (c : Cell) (rows line : List ℕ) (old mid new : HeldText) → k < length cells → c ≡ get_or cells k c
    → HoldsCells t n (map entry_of (take k cells)) old mid → IsCellGraph t c.signs rows → line ≡ cell_line n (entry_of c) rows → HoldsMore mid new line
    → HoldsCells t n (map entry_of (take (k + 1) cells)) old new
cells_more t n k cells c rows line old mid new lt at before graph is more = subst (λ l. HoldsCells t n l old new) (sym grown) (go before)
  where
    first : List CellEntry
    first = map entry_of (take k cells)

    grown : map entry_of (take (k + 1) cells) ≡ first ++ entry_of c ∷ []
    grown = ap (map entry_of) (take_more cells k c lt ∙ ap (λ y. take k cells ++ y ∷ []) (sym at)) ∙ map-append entry_of (take k cells) (c ∷ [])

    R : CellEntry → List ℕ → Type 0
    R e r = IsCellGraph t e.signs r

    go : HoldsCells t n first old mid → HoldsCells t n (first ++ entry_of c ∷ []) old new
    go before text h =
        let (graphs, each, held) = before text h in
        let lines = lines_more n R first graphs (entry_of c) rows each in (
          graphs ++ rows ∷ [],
          each_more R first graphs (entry_of c) rows each graph,
          subst (HoldsText new) (append_assoc text (cell_lines n first graphs) line ∙ ap (λ l. text ++ (cell_lines n first graphs ++ l)) is ∙ ap (λ l. text ++ l) (sym lines))
              (more (text ++ cell_lines n first graphs) held),
        )

pub cells_all : (t : Table) (n k : ℕ) (cells : List Cell) (old new : HeldText) → length cells ≤ k → HoldsCells t n (map entry_of (take k cells)) old new
    → HoldsCells t n (map entry_of cells) old new
cells_all t n k cells old new le = subst (λ l. HoldsCells t n (map entry_of l) old new) (take_all k cells le)

-- ---- the whole text

each_same : (R S : CellEntry → List ℕ → Type 0) → ((c : CellEntry) (rows : List ℕ) → R c rows → S c rows) → (cells : List CellEntry) (graphs : List (List ℕ))
    → EachCell R cells graphs → EachCell S cells graphs
each_same R S f [] [] all = tt
each_same R S f [] (y ∷ graphs) all = absurd all
each_same R S f (x ∷ cells) [] all = absurd all
each_same R S f (x ∷ cells) (y ∷ graphs) all = (f x y all.0, each_same R S f cells graphs all.1)

-- what is held at the end is the text of the cells
pub whole_text : (t : Table) (n planes : ℕ) (cells : List CellEntry) (counts : List ℕ) (empty first last : HeldText)
    → planes ≡ length t.planes → counts ≡ totals_line planes cells → empty.length ≡ 0 → empty.bytes.items ≡ []
    → HoldsMore empty first counts → HoldsCells t n cells first last
    → (text : List ℕ) × IsTextOfCells t n cells text × HoldsText last text
whole_text t n planes cells counts empty first last count is none nothing more adds =
    let (graphs, each, held) = adds counts (more [] (record { long = none; bytes = λ few. nothing })) in (
      counts ++ cell_lines n cells graphs,
      record {
        graphs = graphs;
        graphs_are = each;
        is = ap (λ l. l ++ cell_lines n cells graphs) (is ∙ ap (λ m. totals_line m cells) count);
      },
      held,
    )

-- where the cells are all, it is the text of all cells
pub all_text : (all : List Part) (t : Table) (n : ℕ) (cells : List CellEntry) (text : List ℕ) → IsTable t
    → WasMadeFrom all t → t.of ≡ below n → AreCells t.planes cells → IsTextOfCells t n cells text
    → IsCellsText all n text
all_text all t n cells text rules made of are is = record {
  planes = t.planes;
  planes_are = subst (λ w. ArePlanes all w t.planes) of made.planes;
  cells = cells;
  cells_are = are;
  graphs = is.graphs;
  graphs_are = each_same (λ c rows. IsCellGraph t c.signs rows) (IsGraphOfCell all (below n) t.planes)
      (λ c rows graph d e. subst (λ w. ShowsBlocking all d w rows) of (graph_shows t all d c.signs rows rules graph made e))
      cells is.graphs is.graphs_are;
  is = is.is;
}

-- ---- the line of a cell

pub three_pushed : (d : V3) (old a b new : List ℕ) → a ≡ old ++ 32 ∷ signed_decimal d.x → b ≡ a ++ 32 ∷ signed_decimal d.y → new ≡ b ++ 32 ∷ signed_decimal d.z
    → new ≡ old ++ numbers_before (vector_numbers d) []
three_pushed d old a b new e f g =
    let x : List ℕ = 32 ∷ signed_decimal d.x in
    let y : List ℕ = 32 ∷ signed_decimal d.y in
    let z : List ℕ = 32 ∷ signed_decimal d.z in
    g ∙ ap (λ l. l ++ z) (f ∙ ap (λ l. l ++ y) e) ∙ append_assoc (old ++ x) y z ∙ append_assoc old x (y ++ z)
    ∙ ap (λ l. old ++ (x ++ (y ++ 32 ∷ l))) (sym (append-nil (signed_decimal d.z)))

-- ---- counts

pub counted : (kind : Kind) (cells : List Cell) (k : ℕ) (c : Cell) (t : Bool) → k < length cells → c ≡ get_or cells k c → same_kind kind c.kind ≡ t
    → kind_count kind (take (k + 1) (map entry_of cells)) ≡ kind_count kind (take k (map entry_of cells)) + cond t 1 0
counted kind cells k c t lt at same =
    sum_by_more (λ e. cond (same_kind kind e.kind) 1 0) (map entry_of cells) k (entry_of c) (let e = length-map cells entry_of in omega (arith, e, lt))
    ∙ ap (λ b. kind_count kind (take k (map entry_of cells)) + cond b 1 0) (ap (λ e. same_kind kind e.kind) (get_or-map entry_of cells k c (entry_of c) lt ∙ ap entry_of (sym at)) ∙ same)

pub count_all : (kind : Kind) (cells : List Cell) (k : ℕ) → length cells ≤ k → kind_count kind (take k (map entry_of cells)) ≡ kind_count kind (map entry_of cells)
count_all kind cells k le = ap (kind_count kind) (take_all k (map entry_of cells) (let e = length-map cells entry_of in omega (arith, e, le)))

-- ---- cells have one text

-- Where the rows of each cell of which P holds have the same arcs, the lines are the same.
same_lines : (n : ℕ) (P : CellEntry → Type 0) (R : CellEntry → List ℕ → Type 0)
    → ((c : CellEntry) (rows others : List ℕ) → P c → R c rows → R c others → (a b : ℕ) → Has (below n) a → Has (below n) b → HasArc rows a b ↔ HasArc others a b)
    → (cells : List CellEntry) (graphs others : List (List ℕ)) → All P cells → EachCell R cells graphs → EachCell R cells others → cell_lines n cells graphs ≡ cell_lines n cells others
same_lines n P R same [] graphs others all f g = refl
same_lines n P R same (c ∷ cells) [] others all f g = absurd f
same_lines n P R same (c ∷ cells) (rows ∷ graphs) [] all f g = absurd g
same_lines n P R same (c ∷ cells) (rows ∷ graphs) (row ∷ others) all f g =
    ap₂ (λ x y. x ++ y)
    (ap (λ arcs. kind_word c.kind ++ numbers_before (vector_numbers c.d) (short_arcs arcs ++ 10 ∷ [])) (same_arcs n rows row (λ a b a_in b_in. same c rows row (All-head P c cells all) f.0 g.0 a b a_in b_in)))
    (same_lines n P R same cells graphs others (All-tail P c cells all) f.1 g.1)

each_is_cell : (planes : List V3) (cells : List CellEntry) → AreCells planes cells → All (λ c. IsCell planes c.signs) cells
each_is_cell planes cells are =
    let P : CellEntry → Type 0 = λ c. IsCell planes c.signs in
    subst (All P) (sym are.is)
    (All-append P (are.points ++ are.edges) are.opens
    (All-append P are.points are.edges (entries Point are.points are.points_are) (entries Edge are.edges are.edges_are))
    (entries Open are.opens are.opens_are))
  where
    entries : (kind : Kind) (list : List CellEntry) → AreCellsOf planes kind list → All (λ c. IsCell planes c.signs) list
    entries kind list of k d lt = (of.each k d lt).cell

one_list : (planes : List V3) (xs ys : List CellEntry) → AreCells planes xs → AreCells planes ys → xs ≡ ys
one_list planes xs ys a b =
    let points : a.points ≡ b.points = AreCellsOf-unique planes Point a.points b.points a.points_are b.points_are in
    let edges : a.edges ≡ b.edges = AreCellsOf-unique planes Edge a.edges b.edges a.edges_are b.edges_are in
    let opens : a.opens ≡ b.opens = AreCellsOf-unique planes Open a.opens b.opens a.opens_are b.opens_are in
    a.is ∙ (λ i. points i ++ edges i ++ opens i) ∙ sym b.is

pub one_text : (parts : List Part) (n : ℕ) (text other : List ℕ) → IsCellsText parts n text → IsCellsText parts n other → text ≡ other
one_text parts n text other a b =
    let planes : a.planes ≡ b.planes = ArePlanes-unique parts (below n) a.planes b.planes a.planes_are b.planes_are in
    let cells : a.cells ≡ b.cells = one_list b.planes a.cells b.cells (subst (λ ps. AreCells ps a.cells) planes a.cells_are) b.cells_are in
    let graphs : EachCell (IsGraphOfCell parts (below n) b.planes) b.cells a.graphs =
    subst (λ cs. EachCell (IsGraphOfCell parts (below n) b.planes) cs a.graphs) cells
    (subst (λ ps. EachCell (IsGraphOfCell parts (below n) ps) a.cells a.graphs) planes a.graphs_are) in
    a.is ∙ ap₂ (λ ps cs. cells_text (length ps) n cs a.graphs) planes cells
    ∙ ap (λ l. totals_line (length b.planes) b.cells ++ l)
    (same_lines n (λ c. IsCell b.planes c.signs) (IsGraphOfCell parts (below n) b.planes) shown b.cells a.graphs b.graphs (each_is_cell b.planes b.cells b.cells_are) graphs b.graphs_are)
    ∙ sym b.is
  where
    shown : (c : CellEntry) (rows others : List ℕ) → IsCell b.planes c.signs → IsGraphOfCell parts (below n) b.planes c rows → IsGraphOfCell parts (below n) b.planes c others → (p q : ℕ)
        → Has (below n) p → Has (below n) q → HasArc rows p q ↔ HasArc others p q
    shown c rows others cell f g p q p_in q_in =
        let x = f cell.d cell.is p q p_in q_in in
        let y = g cell.d cell.is p q p_in q_in in (λ h. y.1 (x.0 h), λ h. x.1 (y.0 h))

-- ---- any cells have one text

pub one_text_by_signs : (t : Table) (n : ℕ) (cells : List CellEntry) (text other : List ℕ) → IsTextOfCells t n cells text → IsTextOfCells t n cells other → text ≡ other
one_text_by_signs t n cells text other a b =
    a.is ∙ ap (λ l. totals_line (length t.planes) cells ++ l)
    (same_lines n (λ c. Unit {0}) (λ c rows. IsCellGraph t c.signs rows) (λ c rows others known f g p q p_in q_in. (λ h. (g p q).1 ((f p q).0 h), λ h. (f p q).1 ((g p q).0 h)))
    cells a.graphs b.graphs (λ k d lt. tt) a.graphs_are b.graphs_are) ∙ sym b.is
