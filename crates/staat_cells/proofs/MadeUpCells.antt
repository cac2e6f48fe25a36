-- Edges are composed from their two ends, and open cells from the first two edges on their borders.
use Rattle.std.proofs.Common.{◌≡◌, ◌⊎◌, inl, inr, ℕ, ◌<◌, refl, sym, ap, subst, ◌∙◌, arith, List, [], ◌∷◌, length}
use Rattle.std.proofs.Common.{map, ◌≢◌, ⊎_elim, Contains}
use Rattle.std.specs.declared.cmp.Ordering.TheVariants.{Less}
use Rattle.std.proofs.lemmas.List.{get_or-map, length-map}
use Rattle.std.proofs.lemmas.Map.Keys.{Less-from_sorted}
use Rattle.staat_vec.specs.declared.vector.V3.{V3}
use Rattle.staat_vec.specs.declared.vector.Sign.{Sign}
use Rattle.staat_vec.specs.declared.vector.Sign.TheVariants.{Neg, Zero, Pos}
use Rattle.staat_vec.specs.Vectors.{dot, plus, sign, origin, vector_cmp}
use Rattle.staat_model.specs.declared.tree.Kind.{Kind}
use Rattle.staat_model.specs.Cells.{kind_of, signs_of, signs_cmp, CellEntry, IsBorder, IsCell, IsEntry, AreCellsOf}
use Rattle.staat_model.specs.Cells.{IsBorderEdge, IsEdgeSum, IsOpenSum, IsEnd}
use Rattle.staat_cells.specs.Compositions.{composed, no_cell, composed_cell}
use Rattle.staat_cells.specs.Beside.{then_sign}
use Rattle.staat_cells.specs.Stages.{cell_at, IsUnder}
use Rattle.staat_cells.proofs.Beside.{border_at, from_planes}
use Rattle.staat_cells.proofs.SignOrder.{not_below_itself, signs_total}
use Rattle.staat_vec.proofs.Integers.{sum_zero}
use Rattle.staat_vec.proofs.VectorLaws.{dot_plus, plus_comm}
use Rattle.staat_vec.proofs.Signs.{zero_sign}
use Rattle.staat_vec.proofs.Naturals.{same_or}
use Rattle.std.proofs.lemmas.List.Elements.{All-contains}
use Rattle.std.proofs.lemmas.Map.Views.{All-after_first}
use Rattle.staat_vec.proofs.Unique.{IsFirst-in}
use Rattle.staat_model.specs.declared.tree.Kind.TheVariants.{Point, Edge, Open}
use Rattle.staat_model.specs.Planes.{vertices}
use Rattle.staat_model.proofs.Corners.{HoldsAxes}
use Rattle.staat_model.proofs.EndLemmas.{edge_has_sum, edge_sum_in}
use Rattle.staat_model.proofs.PlaneLemmas.{NoneParallel}
use Rattle.staat_pairs.specs.Tables.{AreTablePlanes}
use Rattle.staat_cells.proofs.Grouping.{AreMadeUp}
use Rattle.staat_cells.proofs.TableRules.{holds_axes, planes_apart, planes_some}
use Rattle.staat_cells.proofs.VertexSigns.{same_vertex, vertex_point}
use Rattle.staat_vec.proofs.VectorLists.{one_of_two}
use Rattle.staat_vec.proofs.VectorOrder.{vector_not_below_itself}
use Rattle.staat_model.proofs.ListedVertices.{vertex_some}
use Rattle.staat_model.proofs.CellLemmas.{edges_add_up_lemma, two_edges_lemma}

module _ (planes : List V3) (kind : Kind) (cells : List CellEntry) (are : AreCellsOf planes kind cells) where
  pub entry_at : (k : ℕ) → k < length cells → IsEntry planes kind (cell_at cells k)
  entry_at k lt = are.each k no_cell lt

  -- where the cell with these signs stands
  pub record StandsAt (s : List Sign) (k : ℕ) : Type 0 where
    pub lt : k < length cells
    pub is : (cell_at cells k).signs ≡ s

  pub place_of : (s : List Sign) → IsCell planes s → kind_of s ≡ kind → (k : ℕ) × StandsAt s k
  place_of s cell by_count =
      let signs = are.signs in
      let (k, lt, e) = signs.all s (cell, by_count) in
      let below : k < length cells = omega (arith, lt, length-map cells (λ c. c.signs)) in
      (k, record { lt = below; is = sym (get_or-map (λ (c : CellEntry). c.signs) cells k no_cell s below) ∙ e })

  -- later cells have greater signs
  pub rising : (j k : ℕ) → j < k → k < length cells → signs_cmp (cell_at cells j).signs
      (cell_at cells k).signs ≡ Less
  rising j k lt below =
      let signs = are.signs in
      let before : j < length cells = omega arith in
      (λ i. signs_cmp (sym (get_or-map (λ (c : CellEntry). c.signs) cells j no_cell [] before) i)
      (sym (get_or-map (λ (c : CellEntry). c.signs) cells k no_cell [] below) i))
      ∙ Less-from_sorted signs_cmp (map (λ c. c.signs) cells) j k [] signs.ascending lt
      (omega (arith, below, length-map cells (λ c. c.signs)))

  pub not_same : (j k : ℕ) → j < k → k < length cells → (cell_at cells j).signs ≡ (cell_at cells k).signs
      → ⊥
  not_same j k lt below e = not_below_itself (cell_at cells k).signs
      (ap (λ s. signs_cmp s (cell_at cells k).signs) (sym e) ∙ rising j k lt below)

-- ---- the signs of a sum

pub composed_map : (f g : V3 → Sign) (gs : List V3) → composed (map f gs) (map g gs) ≡ map
    (λ n. then_sign (f n) (g n)) gs
composed_map f g [] = refl
composed_map f g (n ∷ gs) = ap (λ l. then_sign (f n) (g n) ∷ l) (composed_map f g gs)

by_signs : (s t u : Sign) → (s ≡ u) ⊎ (s ≡ Zero) → (t ≡ u) ⊎ (t ≡ Zero)
    → (s ≡ Zero → t ≡ Zero → u ≡ Zero) → then_sign s t ≡ u
by_signs Neg t u (inl e) h z = e
by_signs Neg t u (inr e) h z = cc
by_signs Pos t u (inl e) h z = e
by_signs Pos t u (inr e) h z = cc
by_signs Zero t u h (inl e) z = e
by_signs Zero t u h (inr e) z = e ∙ sym (z refl e)

-- two cells on the border of the cell of their sum have its signs together
pub composed_signs : (planes : List V3) (u v : V3) (s : List Sign) → signs_of planes (plus u v) ≡ s
    → IsBorder (signs_of planes u) s → IsBorder (signs_of planes v) s → composed (signs_of planes u)
    (signs_of planes v) ≡ s
composed_signs planes u v s is bu bv =
    composed_map (λ n. sign (dot n u)) (λ n. sign (dot n v)) planes
    ∙ from_planes (λ n. then_sign (sign (dot n u)) (sign (dot n v))) (λ n. sign (dot n (plus u v))) planes
    (λ n c. by_signs (sign (dot n u)) (sign (dot n v)) (sign (dot n (plus u v)))
    (border_at (λ n. sign (dot n u)) (λ n. sign (dot n (plus u v))) planes n
    (subst (IsBorder (signs_of planes u)) (sym is) bu) c)
    (border_at (λ n. sign (dot n v)) (λ n. sign (dot n (plus u v))) planes n
    (subst (IsBorder (signs_of planes v)) (sym is) bv) c)
    (λ zu zv. ap sign (dot_plus n u v ∙ sum_zero (dot n u) (dot n v) (zero_sign (dot n u) zu)
    (zero_sign (dot n v) zv))))
    ∙ is

-- e is a cell of the lower kind on the border of s
pub record IsOnBorder (planes : List V3) (low : Kind) (s e : List Sign) : Type 0 where
  pub cell : IsCell planes e
  pub by_count : kind_of e ≡ low
  pub border : IsBorder e s

-- two different ones are
pub record HasTwo (planes : List V3) (low : Kind) (s : List Sign) : Type 0 where
  pub e : List Sign
  pub f : List Sign
  pub e_is : IsOnBorder planes low s e
  pub f_is : IsOnBorder planes low s f
  pub different : e ≢ f

module _ (planes : List V3) (low kind : Kind) (lower : List CellEntry) (are : AreCellsOf planes low lower) where
  pub border_under : (s e : List Sign) (k : ℕ) → IsCell planes s → kind_of s ≡ kind → IsBorder e s
      → StandsAt planes low lower are e k → IsUnder planes kind lower s k
  border_under s e k cell by_count border at =
      record { cell = cell; by_count = by_count; listed = at.lt; border = subst (λ t. IsBorder t s) (sym at.is) border }

  stands : (s e : List Sign) → IsOnBorder planes low s e → (k : ℕ) × StandsAt planes low lower are e k
  stands s e on = place_of planes low lower are e on.cell on.by_count

  pub some_under : (s : List Sign) → IsCell planes s → kind_of s ≡ kind → HasTwo planes low s
      → (k : ℕ) × IsUnder planes kind lower s k
  some_under s cell by_count t =
      let (k, at) = stands s t.e t.e_is in (k, border_under s t.e k cell by_count t.e_is.border at)

  pub two_under : (s : List Sign) (k : ℕ) → IsUnder planes kind lower s k → HasTwo planes low s
      → (j : ℕ) × IsUnder planes kind lower s j × (j ≢ k)
  two_under s k u t =
      let (i, at_i) = stands s t.e t.e_is in
      let (j, at_j) = stands s t.f t.f_is in
      ⊎_elim {C = (j : ℕ) × IsUnder planes kind lower s j × (j ≢ k)}
      (λ e. (
        j,
        border_under s t.f j u.cell u.by_count t.f_is.border at_j,
        λ f. t.different (sym at_i.is ∙ ap (λ m. (cell_at lower m).signs) (e ∙ sym f) ∙ at_j.is),
      ))
      (λ n. (i, border_under s t.e i u.cell u.by_count t.e_is.border at_i, n)) (same_or i k)

-- what is before or behind the first two edges on the border of an open cell is known: their sum represents it
pub open_sum : (planes : List V3) (s e f : List Sign) (u v : V3) → IsBorderEdge planes s e → IsBorderEdge planes s f
    → IsEdgeSum planes e u → IsEdgeSum planes f v → signs_cmp e f ≡ Less
    → ((y : List Sign) → IsBorderEdge planes s y → (y ≡ e) ⊎ ((y ≡ f) ⊎ (signs_cmp f y ≡ Less)))
    → IsOpenSum planes s (plus u v)
open_sum planes s e f u v e_in f_in u_is v_is less all = record {
  e = e;
  f = f;
  u = u;
  v = v;
  first = record {
    has = e_in;
    least = λ y b. elim (all y b) [
      | inl same ↦ inl same
      | inr later ↦ inr (elim later [
        | inl same ↦ ap (signs_cmp e) same ∙ less
        | inr more ↦ signs_total.trans e f y less more
      ])
    ];
  };
  second = record {
    has = (f_in, λ same. not_below_itself e (ap (signs_cmp e) (sym same) ∙ less));
    least = λ y h. elim (all y h.0) [ inl same ↦ absurd (h.1 same) | inr later ↦ later ];
  };
  u_is = u_is;
  v_is = v_is;
  is = refl;
}

module _ (planes : List V3) (rules : AreTablePlanes planes) where
  axes : HoldsAxes planes
  axes = holds_axes planes rules

  apart : NoneParallel planes
  apart = planes_apart planes rules

  some : (g : V3) → Contains planes g → g ≢ origin
  some = planes_some planes rules

  -- the sum of any two different ends is the representative
  pub sum_of_ends : (s : List Sign) (u v : V3) → IsCell planes s → kind_of s ≡ Edge → IsEnd planes s u → IsEnd planes s v → u ≢ v → IsEdgeSum planes s (plus u v)
  sum_of_ends s u v cell edge u_end v_end differ =
      let (d, e) = edge_has_sum planes s axes apart some cell edge in
      let l = e.ends in
      go d e (one_of_two e.u e.v u (l.all u u_end)) (one_of_two e.u e.v v (l.all v v_end))
    where
      go : (d : V3) → (e : IsEdgeSum planes s d) → (u ≡ e.u) ⊎ (u ≡ e.v) → (v ≡ e.u) ⊎ (v ≡ e.v) → IsEdgeSum planes s (plus u v)
      go d e (inl p) (inl q) = absurd (differ (p ∙ sym q))
      go d e (inr p) (inr q) = absurd (differ (p ∙ sym q))
      go d e (inl p) (inr q) = record { u = e.u; v = e.v; ends = e.ends; is = λ i. plus (p i) (q i) }
      go d e (inr p) (inl q) = record { u = e.u; v = e.v; ends = e.ends; is = (λ i. plus (p i) (q i)) ∙ plus_comm e.v e.u }

  -- ---- edges of their ends

  module _ (points : List CellEntry) (are : AreCellsOf planes Point points) where
    -- the vertex of a listed point
    pub point_in : (k : ℕ) → k < length points → Contains (vertices planes) (cell_at points k).d × (signs_of planes (cell_at points k).d ≡ (cell_at points k).signs)
    point_in k lt = let e = entry_at planes Point points are k lt in IsFirst-in (λ v. signs_of planes v ≡ (cell_at points k).signs) (vertices planes) (cell_at points k).d e.representative

    under_end : (s : List Sign) (k : ℕ) → IsUnder planes Edge points s k → IsEnd planes s (cell_at points k).d
    under_end s k u = let p = point_in k u.listed in record { vertex = p.0; border = subst (λ t. IsBorder t s) (sym p.1) u.border }

    end_on : (s : List Sign) (v : V3) → IsEnd planes s v → IsOnBorder planes Point s (signs_of planes v)
    end_on s v end = record {
      cell = record { d = v; nonzero = vertex_some planes v apart end.vertex; is = refl };
      by_count = vertex_point planes v apart end.vertex;
      border = end.border;
    }

    -- the two ends of an edge
    two_ends : (s : List Sign) → IsCell planes s → kind_of s ≡ Edge → HasTwo planes Point s
    two_ends s cell edge =
        let (d, e) = edge_has_sum planes s axes apart some cell edge in
        let l = e.ends in
        let first = l.each e.u (0, omega arith, refl) in
        let second = l.each e.v (1, omega arith, refl) in
        let less = All-contains (λ q. vector_cmp e.u q ≡ Less) (e.v ∷ []) e.v (All-after_first vector_cmp e.u (e.v ∷ []) l.ascending) (0, omega arith, refl) in
        record {
          e = signs_of planes e.u;
          f = signs_of planes e.v;
          e_is = end_on s e.u first;
          f_is = end_on s e.v second;
          different = λ p. vector_not_below_itself e.v (subst (λ z. vector_cmp z e.v ≡ Less)
              (same_vertex planes e.u e.v axes apart first.vertex second.vertex p) less);
        }

    edge_entry : (s : List Sign) (j k : ℕ) → IsUnder planes Edge points s j → IsUnder planes Edge points s k → j < k → ((m : ℕ) → IsUnder planes Edge points s m → (m ≡ j) ⊎ ((m ≡ k) ⊎ (k < m)))
        → IsEntry planes Edge (composed_cell Edge (cell_at points j) (cell_at points k)) × (composed (cell_at points j).signs (cell_at points k).signs ≡ s)
    edge_entry s j k uj uk lt least =
        let p = point_in j uj.listed in
        let q = point_in k uk.listed in
        let u = (cell_at points j).d in
        let v = (cell_at points k).d in
        let sum = sum_of_ends s u v uj.cell uj.by_count (under_end s j uj) (under_end s k uk)
        (λ e. not_same planes Point points are j k lt uk.listed (sym p.1 ∙ ap (signs_of planes) e ∙ q.1)) in
        let on = edge_sum_in planes s axes apart some uj.cell uj.by_count (plus u v) sum in
        let bu = let b = under_end s j uj in b.border in
        let bv = let b = under_end s k uk in b.border in
        let signs : composed (cell_at points j).signs (cell_at points k).signs ≡ s = (λ i. composed (sym p.1 i) (sym q.1 i)) ∙ composed_signs planes u v s on bu bv in (
          record {
            kind_is = refl;
            by_count = ap kind_of signs ∙ uj.by_count;
            cell = subst (IsCell planes) (sym signs) uj.cell;
            representative = subst (λ t. IsEdgeSum planes t (plus u v)) (sym signs) sum;
          },
          signs,
        )

    pub edges_made_up : AreMadeUp planes Edge points
    edges_made_up = record {
      some = λ s cell edge. some_under planes Point Edge points are s cell edge (two_ends s cell edge);
      two = λ s k u. two_under planes Point Edge points are s k u (two_ends s u.cell u.by_count);
      entry = edge_entry;
    }

  -- ---- open cells of their edges

  module _ (edges : List CellEntry) (are : AreCellsOf planes Edge edges) where
    under_border : (s : List Sign) (k : ℕ) → IsUnder planes Open edges s k → IsBorderEdge planes s (cell_at edges k).signs
    under_border s k u = let e = entry_at planes Edge edges are k u.listed in record { cell = e.cell; edge = e.by_count; border = u.border }

    edge_on : (s e : List Sign) → IsBorderEdge planes s e → IsOnBorder planes Edge s e
    edge_on s e b = record { cell = b.cell; by_count = b.edge; border = b.border }

    two_edges : (s : List Sign) → IsCell planes s → kind_of s ≡ Open → HasTwo planes Edge s
    two_edges s cell open_is =
        let t = two_edges_lemma planes s axes apart cell open_is in
        record { e = t.e; f = t.f; e_is = edge_on s t.e t.e_is; f_is = edge_on s t.f t.f_is; different = t.different }

    at_border : (s y : List Sign) → IsCell planes s → kind_of s ≡ Open → IsBorderEdge planes s y
        → (m : ℕ) × StandsAt planes Edge edges are y m × IsUnder planes Open edges s m
    at_border s y cell open_is b =
        let (m, at) = place_of planes Edge edges are y b.cell b.edge in
        (m, at, border_under planes Edge Open edges are s y m cell open_is b.border at)

    open_entry : (s : List Sign) (j k : ℕ) → IsUnder planes Open edges s j → IsUnder planes Open edges s k → j < k → ((m : ℕ) → IsUnder planes Open edges s m → (m ≡ j) ⊎ ((m ≡ k) ⊎ (k < m)))
        → IsEntry planes Open (composed_cell Open (cell_at edges j) (cell_at edges k)) × (composed (cell_at edges j).signs (cell_at edges k).signs ≡ s)
    open_entry s j k uj uk lt least =
        let ej = entry_at planes Edge edges are j uj.listed in
        let ek = entry_at planes Edge edges are k uk.listed in
        let e = (cell_at edges j).signs in
        let f = (cell_at edges k).signs in
        let u = (cell_at edges j).d in
        let v = (cell_at edges k).d in
        let be = under_border s j uj in
        let bf = under_border s k uk in
        let on_e : signs_of planes u ≡ e = edge_sum_in planes e axes apart some ej.cell ej.by_count u ej.representative in
        let on_f : signs_of planes v ≡ f = edge_sum_in planes f axes apart some ek.cell ek.by_count v ek.representative in
        let on : signs_of planes (plus u v) ≡ s = edges_add_up_lemma planes s e f u v ej.by_count ek.by_count uj.border uk.border (not_same planes Edge edges are j k lt uk.listed) on_e on_f in
        let signs : composed e f ≡ s = (λ i. composed (sym on_e i) (sym on_f i)) ∙ composed_signs planes u v s on (subst (λ t. IsBorder t s) (sym on_e) uj.border) (subst (λ t. IsBorder t s) (sym on_f) uk.border) in
        let sum = open_sum planes s e f u v be bf ej.representative ek.representative
        (rising planes Edge edges are j k lt uk.listed)
        (λ y b. let (m, at, under) = at_border s y uj.cell uj.by_count b in placed y m at (least m under)) in (
          record {
            kind_is = refl;
            by_count = ap kind_of signs ∙ uj.by_count;
            cell = subst (IsCell planes) (sym signs) uj.cell;
            representative = subst (λ t. IsOpenSum planes t (plus u v)) (sym signs) sum;
          },
          signs,
        )
      where
        placed : (y : List Sign) (m : ℕ) → StandsAt planes Edge edges are y m → (m ≡ j) ⊎ ((m ≡ k) ⊎ (k < m))
            → (y ≡ (cell_at edges j).signs) ⊎ ((y ≡ (cell_at edges k).signs) ⊎ (signs_cmp (cell_at edges k).signs y ≡ Less))
        placed y m at (inl p) = inl (sym at.is ∙ ap (λ n. (cell_at edges n).signs) p)
        placed y m at (inr (inl p)) = inr (inl (sym at.is ∙ ap (λ n. (cell_at edges n).signs) p))
        placed y m at (inr (inr g)) =
            inr (inr (ap (signs_cmp (cell_at edges k).signs) (sym at.is) ∙ rising planes Edge edges are k m g at.lt))

    pub opens_made_up : AreMadeUp planes Open edges
    opens_made_up = record {
      some = λ s cell open_is. some_under planes Edge Open edges are s cell open_is (two_edges s cell open_is);
      two = λ s k u. two_under planes Edge Open edges are s k u (two_edges s u.cell u.by_count);
      entry = open_entry;
    }
