-- The lists of all cells: each representative lies in its cell; and the lists of each kind, from the incidences found.
use Rattle.std.proofs.Common.{◌≡◌, ◌≢◌, ◌⊎◌, ◌↔◌, inl, inr, ⊎_elim, ℕ, ◌<◌, refl, sym, ap, subst, ◌∙◌, arith, lit≤}
use Rattle.std.proofs.Common.{List, ◌++◌, length, get_or, map, All, Contains, ◌≤◌, [], ◌∷◌}
use Rattle.std.proofs.lemmas.List.{get_or-map, length-map}
use Rattle.std.proofs.lemmas.List.Elements.{All-append, All-weaker}
use Rattle.staat_vec.specs.declared.vector.V3.{V3}
use Rattle.staat_vec.specs.declared.vector.Sign.{Sign}
use Rattle.staat_vec.specs.declared.vector.Sign.TheVariants.{Neg, Zero, Pos}
use Rattle.staat_vec.specs.declared.vector.TheConstants.{DIRECTION, EDGE, VERTEX}
use Rattle.staat_vec.specs.Lists.{Lists}
use Rattle.staat_vec.specs.Vectors.{IsWithin, origin, vector_cmp}
use Rattle.staat_vec.proofs.Bounds.{IsWithin-plus, IsWithin-wider}
use Rattle.staat_vec.proofs.Unique.{IsFirst-in, Contains-front, Contains-later}
use Rattle.staat_model.specs.declared.tree.Kind.{Kind}
use Rattle.staat_model.specs.declared.tree.Kind.TheVariants.{Edge, Open, Point}
use Rattle.staat_model.specs.Cells.{kind_of, signs_of, AreCells, AreCellsOf, CellEntry, IsCell, IsEdgeSum, IsEntry}
use Rattle.staat_model.specs.Cells.{IsBorder, IsOpenSum}
use Rattle.staat_model.specs.Planes.{vertices}
use Rattle.staat_model.proofs.CellLemmas.{edges_add_up_lemma}
use Rattle.staat_model.proofs.EndLemmas.{edge_sum_in}
use Rattle.staat_pairs.specs.Tables.{AreTablePlanes}
use Rattle.staat_cells.specs.declared.cell.Cell.{Cell}
use Rattle.staat_cells.specs.declared.incidence.Incidence.{Incidence}
use Rattle.staat_cells.specs.Compositions.{entry_of, no_cell, HaveEqualLengths, begun_up_to, composed_up_to, HavePairs}
use Rattle.staat_cells.specs.Packing.{incidence_cmp, incidence_of}
use Rattle.staat_cells.specs.Beside.{filled}
use Rattle.staat_cells.specs.Stages.{cell_at, IsIncidence, point_entry, words_of, HaveSigns}
use Rattle.staat_cells.specs.Stages.{IsOwnIncidence}
use Rattle.staat_cells.proofs.Grouping.{cell_length, AreMadeUp, begun_signs, composed_are_cells, pairs}
use Rattle.staat_cells.proofs.MadeUpCells.{entry_at, opens_made_up}
use Rattle.staat_cells.proofs.EdgeIncidences.{filled_open, open_filled}
use Rattle.staat_cells.proofs.TableRules.{holds_axes, planes_apart, planes_some, vertex_small}
use Rattle.staat_vec.proofs.ListLaws.{map_twice}
use Rattle.staat_cells.specs.declared.skeleton.Skeleton.{Skeleton}
use Rattle.staat_cells.specs.Skeletons.{IsSkeleton}
use Rattle.staat_model.proofs.Members.{All-from_members}
use Rattle.staat_cells.proofs.Growing.{Below}
use Rattle.staat_cells.proofs.ListedIncidences.{IsFilledAt, listed_was}
use Rattle.staat_cells.proofs.PointCells.{points_are}

-- what holds of all entries holds of the cells
pub of_cells : (P : CellEntry → Type 0) (cells : List Cell) → All P (map entry_of cells) → All (λ c. P (entry_of c)) cells
of_cells P cells all k d lt = subst P (get_or-map entry_of cells k d no_cell lt) (all k no_cell (let e = length-map cells entry_of in omega (arith, e)))

module _ (planes : List V3) (are : AreTablePlanes planes) where
  some : (g : V3) → Contains planes g → g ≢ origin
  some = planes_some planes are

  small : (v : V3) → Contains (vertices planes) v → IsWithin VERTEX v
  small v has = vertex_small planes v are has

  -- ---- each representative lies in its cell

  edge_on : (s : List Sign) (d : V3) → IsCell planes s → kind_of s ≡ Edge → IsEdgeSum planes s d → signs_of planes d ≡ s
  edge_on s d cell edge sum = edge_sum_in planes s (holds_axes planes are) (planes_apart planes are) some cell edge d sum

  pub representative_in : (kind : Kind) (c : CellEntry) → IsEntry planes kind c → signs_of planes c.d ≡ c.signs
  representative_in Point c e = (IsFirst-in (λ v. signs_of planes v ≡ c.signs) (vertices planes) c.d e.representative).1
  representative_in Edge c e = edge_on c.signs c.d e.cell e.by_count e.representative
  representative_in Open c e = go e.representative
    where
      go : IsOpenSum planes c.signs c.d → signs_of planes c.d ≡ c.signs
      go sum =
          let e_first = sum.first in
          let e_is = e_first.has in
          let f_second = sum.second in
          let (f_is, different) = f_second.has in
          ap (signs_of planes) sum.is
          ∙ edges_add_up_lemma planes c.signs sum.e sum.f sum.u sum.v e_is.edge f_is.edge e_is.border f_is.border (λ q. different (sym q))
          (edge_on sum.e sum.u e_is.cell e_is.edge sum.u_is)
          (edge_on sum.f sum.v f_is.cell f_is.edge sum.v_is)

  -- what holds of the entries of each kind holds of all cells
  of_kinds : (P : CellEntry → Type 0) → ((kind : Kind) (c : CellEntry) → IsEntry planes kind c → P c)
      → (cells : List CellEntry) → AreCells planes cells → All P cells
  of_kinds P each cells all =
      let points = all.points_are in
      let edges = all.edges_are in
      let opens = all.opens_are in
      subst (All P) (sym all.is) (All-append P (all.points ++ all.edges) all.opens
      (All-append P all.points all.edges (one Point all.points points.each) (one Edge all.edges edges.each))
      (one Open all.opens opens.each))
    where
      one : (kind : Kind) (xs : List CellEntry) → All (IsEntry planes kind) xs → All P xs
      one kind = All-weaker (IsEntry planes kind) P (each kind)

  pub representatives : (cells : List CellEntry) → AreCells planes cells → All (λ c. signs_of planes c.d ≡ c.signs) cells
  representatives = of_kinds (λ c. signs_of planes c.d ≡ c.signs) representative_in

  -- ---- points, edges and their sizes

  entry_in : (kind : Kind) (cells : List Cell) → AreCellsOf planes kind (map entry_of cells) → (k : ℕ) (d : Cell) → k < length cells → IsEntry planes kind (entry_of (get_or cells k d))
  entry_in kind cells listed k d lt =
      subst (IsEntry planes kind) (get_or-map entry_of cells k d no_cell lt) (listed.each k no_cell (let e = length-map cells entry_of in omega (arith, e)))

  pub equal_lengths : (kind : Kind) (cells : List Cell) → AreCellsOf planes kind (map entry_of cells) → HaveEqualLengths cells
  equal_lengths kind cells listed = (length planes, λ k d lt. let c = get_or cells k d in let e = entry_in kind cells listed k d lt in cell_length planes c.signs e.cell)

  pub points_small : (cells : List Cell) → AreCellsOf planes Point (map entry_of cells) → All (λ c. IsWithin EDGE c.d) cells
  points_small cells points k d lt =
      let c = get_or cells k d in
      let first = IsFirst-in (λ v. signs_of planes v ≡ c.signs) (vertices planes) c.d (entry_in Point cells points k d lt).representative in
      IsWithin-wider VERTEX EDGE c.d (lit≤ tt) (small c.d first.0)

  edge_small : (s : List Sign) (d : V3) → IsEdgeSum planes s d → IsWithin EDGE d
  edge_small s d sum =
      let l = sum.ends in
      let a = l.each sum.u (0, omega arith, refl) in
      let b = l.each sum.v (1, omega arith, refl) in
      subst (IsWithin EDGE) (sym sum.is) (IsWithin-plus VERTEX VERTEX sum.u sum.v (small sum.u a.vertex) (small sum.v b.vertex))

  pub edges_small : (cells : List Cell) → AreCellsOf planes Edge (map entry_of cells) → All (λ c. IsWithin EDGE c.d) cells
  edges_small cells edges k d lt = let c = get_or cells k d in let e = entry_in Edge cells edges k d lt in edge_small c.signs c.d e.representative

  pub cell_small : (kind : Kind) (c : CellEntry) → IsEntry planes kind c → IsWithin DIRECTION c.d
  cell_small Point c e = IsWithin-wider VERTEX DIRECTION c.d (lit≤ tt) (small c.d (IsFirst-in (λ v. signs_of planes v ≡ c.signs) (vertices planes) c.d e.representative).0)
  cell_small Edge c e = IsWithin-wider EDGE DIRECTION c.d (lit≤ tt) (edge_small c.signs c.d e.representative)
  cell_small Open c e = go e.representative
    where
      go : IsOpenSum planes c.signs c.d → IsWithin DIRECTION c.d
      go sum = subst (IsWithin DIRECTION) (sym sum.is) (IsWithin-plus EDGE EDGE sum.u sum.v (edge_small sum.e sum.u sum.u_is) (edge_small sum.f sum.v sum.v_is))

  pub cells_small : (cells : List CellEntry) → AreCells planes cells → All (λ c. IsWithin DIRECTION c.d) cells
  cells_small = of_kinds (λ c. IsWithin DIRECTION c.d) cell_small

  -- ---- the incidences of edges

  pub open_incidences_are : (edges : List CellEntry) → AreCellsOf planes Edge edges → (x : Incidence)
      → Below (IsFilledAt edges x) (length edges) ↔ IsIncidence planes Open edges x
  open_incidences_are edges listed x = (λ (k, lt, h). ⊎_elim (towards k lt Neg (λ q. cc)) (towards k lt Pos (λ q. cc)) h, back)
    where
      towards : (k : ℕ) → k < length edges → (t : Sign) → t ≢ Zero → x ≡ incidence_of (filled t (cell_at edges k).signs) k → IsIncidence planes Open edges x
      towards k lt t off e =
          let s = filled t (cell_at edges k).signs in
          let entry = entry_at planes Edge edges listed k lt in
          let (cell, kind, border) = filled_open planes (cell_at edges k).signs t some entry.cell entry.by_count off in
          let at : k ≡ x.of = sym (ap (λ (y : Incidence). y.of) e) in
          let here = subst (λ m. IsBorder (cell_at edges m).signs s) at border in
          record { signs = s; under = record { cell = cell; by_count = kind; listed = subst (λ m. m < length edges) at lt; border = here }; is = e ∙ ap (incidence_of s) at }

      back : IsIncidence planes Open edges x → Below (IsFilledAt edges x) (length edges)
      back s =
          let u = s.under in
          let c = cell_at edges x.of in
          let entry = entry_at planes Edge edges listed x.of u.listed in (
            x.of,
            u.listed,
            ⊎_elim {C = (x ≡ incidence_of (filled Neg c.signs) x.of) ⊎ (x ≡ incidence_of (filled Pos c.signs) x.of)}
                (λ e. inl (s.is ∙ ap (λ l. incidence_of l x.of) e)) (λ e. inr (s.is ∙ ap (λ l. incidence_of l x.of) e))
                (open_filled planes c.signs s.signs some entry.cell entry.by_count u.cell u.by_count u.border),
          )

module _ (planes : List V3) (are : AreTablePlanes planes) (few : length planes ≤ 256) where
  -- ---- points

  module _ (raw : List Cell) (incidences : List Incidence) (lists : Lists incidence_cmp (IsOwnIncidence (map entry_of raw)) incidences) where
    pub incidences_listed : All (λ x. x.of < length raw) incidences
    incidences_listed = All-from_members (λ x. x.of < length raw) incidences (λ x c. listed_was raw x.of (lists.each x c).listed)

    pub points_listed : (cells : List Cell) (corners : List V3) → map entry_of raw ≡ map (point_entry planes) corners
        → Lists vector_cmp (Contains (vertices planes)) corners
        → map entry_of cells ≡ map (λ x. cell_at (map entry_of raw) x.of) incidences → AreCellsOf planes Point (map entry_of cells)
    points_listed cells corners is listed made =
        subst (AreCellsOf planes Point) (sym (made ∙ ap (λ l. map (λ x. cell_at l x.of) incidences) is))
        (points_are planes (holds_axes planes are) (planes_apart planes are) few corners listed incidences
        (subst (λ l. Lists incidence_cmp (IsOwnIncidence l) incidences) is lists))

    pub points_signs : (cells : List Cell) → map entry_of cells ≡ map (λ x. cell_at (map entry_of raw) x.of) incidences
        → HaveSigns (map entry_of cells) incidences
    points_signs cells made =
        same_maps incidences (λ x c. ap words_of (lists.each x c).is) ∙ sym (map_twice (λ (c : CellEntry). incidence_of c.signs 0) cell incidences)
        ∙ ap (map (λ (c : CellEntry). incidence_of c.signs 0)) (sym made)
      where
        cell : Incidence → CellEntry
        cell x = cell_at (map entry_of raw) x.of

        same_maps : (xs : List Incidence) → ((x : Incidence) → Contains xs x → words_of x ≡ incidence_of (cell x).signs 0)
            → map words_of xs ≡ map (λ x. incidence_of (cell x).signs 0) xs
        same_maps [] same = refl
        same_maps (x ∷ xs) same = λ i. same x (Contains-front x xs) i ∷ same_maps xs (λ y c. same y (Contains-later x xs y c)) i

  -- ---- edges and open cells

  module _ (kind : Kind) (lower : List Cell) (incidences : List Incidence)
      (made_up : AreMadeUp planes kind (map entry_of lower))
      (lists : Lists incidence_cmp (IsIncidence planes kind (map entry_of lower)) incidences) where
    pub lower_pairs : HavePairs incidences (length lower)
    lower_pairs = subst (HavePairs incidences) (length-map lower entry_of)
        (pairs planes kind (map entry_of lower) incidences few lists made_up)

    module _ (cells : List Cell)
        (made : map entry_of cells ≡ composed_up_to kind (map entry_of lower) incidences (length incidences)) where
      pub kind_listed : AreCellsOf planes kind (map entry_of cells)
      kind_listed = subst (AreCellsOf planes kind) (sym made)
          (composed_are_cells planes kind (map entry_of lower) incidences few lists made_up)

      pub kind_signs : HaveSigns (map entry_of cells) (begun_up_to incidences (length incidences))
      kind_signs = subst (λ l. HaveSigns l (begun_up_to incidences (length incidences))) (sym made)
          (begun_signs planes kind (map entry_of lower) incidences few lists made_up)

  pub skeleton_is : (s : Skeleton) → AreCellsOf planes Point (map entry_of s.points.items)
      → AreCellsOf planes Edge (map entry_of s.edges.items)
      → Lists incidence_cmp (IsIncidence planes Open (map entry_of s.edges.items)) s.incidences.items → IsSkeleton planes s
  skeleton_is s points edges lists =
      let lower = map entry_of s.edges.items in
      let incidences = s.incidences.items in
      let made_up = opens_made_up planes are lower edges in
      record {
        has = record {
          pairs = lower_pairs Open s.edges.items incidences made_up lists;
          size = edges_small planes are s.edges.items edges;
          signs = equal_lengths planes are Edge s.edges.items edges;
        };
        points = points;
        edges = edges;
        opens = composed_are_cells planes Open lower incidences few lists made_up;
      }
