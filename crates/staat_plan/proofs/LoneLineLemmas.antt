-- Where each plane of a set on which some direction serves passes through v, nothing serves but what lies on v's line, and
-- the step of the set is the first of v and its opposite.
use Rattle.std.proofs.Common.{◌≡◌, ◌≢◌, ◌⊎◌, inl, inr, ⊎_elim, ◌<ℤ◌, ℤ, neg_ℤ, negsuc, pos, zero, suc}
use Rattle.std.proofs.Common.{refl, sym, ap, subst, ◌∙◌, arith}
use Rattle.std.proofs.{Common.{List, [], ◌∷◌, ◌++◌, All, Contains, get_or, map, false, true}, lemmas.Int.ints}
use Rattle.std.proofs.{lemmas.List.Elements.{All-append, All-contains, All-head}, lemmas.Map.Views.All-after_first}
use Rattle.std.specs.{List.Sorted.IsStrictlySortedBy, Ordering.ordering_reverse, Prelude.Some}
use Rattle.std.specs.declared.cmp.Ordering.TheVariants.{Greater, Less}
use Rattle.staat_vec.specs.{Lists.IsFirst, Primitives.{IsCanon, canon, or_next}}
use Rattle.staat_vec.specs.Vectors.{cross, dot, minus, negative, origin, plus, sign, vector, vector_cmp}
use Rattle.staat_vec.specs.{declared.vector.Sign.Sign, declared.vector.V3.V3}
use Rattle.staat_vec.proofs.Canons.{IsCanon-canon, canon-either, negative-negative, same_canon}
use Rattle.staat_vec.proofs.{Primitives.parallel_primitives, Signs.zero_sign}
use Rattle.staat_vec.proofs.Unique.{Contains-cases, Contains-front, Contains-later, Contains-nothing, IsFirst-in}
use Rattle.staat_vec.proofs.VecRing.{dot_comm, negativeE, originE, plusE, ring3, scale, v0, values}
use Rattle.staat_vec.proofs.{VectorLaws.{cross_back, cross_twice, no_multiples, parallel_cross}, VectorOrder.less_apart}
use Rattle.staat_model.specs.{Assemblies.IsAssembly, Outcomes.{IsMovedSide, IsStep, Serves, Try, try_cell, try_vertex}}
use Rattle.staat_model.specs.{Planes.{ArePlanes, axes, vertices}, declared.assembly.Part.Part}
use Rattle.staat_model.specs.{declared.set.PartSet.PartSet, declared.tree.Kind.Kind}
use Rattle.staat_model.specs.declared.tree.Kind.TheVariants.{Edge, Open, Point}
use Rattle.staat_model.proofs.{CellLemmas.open_cell_lemma, Differences.from_map, ListedVertices.vertex_some}
use Rattle.staat_model.proofs.{OneTable.ArePlanes-unique, PlaneLemmas.{NoneParallel, planes_apart}}
use Rattle.staat_model.proofs.PointLemmas.{edge_has_sum_lemma, point_zeros, representative_lemma}
use Rattle.staat_model.proofs.VertexLemmas.{holds_axes}
use Rattle.staat_model.specs.Cells.{AreCells, AreCellsOf, CellEntry, IsBorder, IsCell, IsEnd, IsEntry, kind_of, signs_cmp, signs_of}
use Rattle.staat_cells.proofs.{SignOrder.{not_below_itself, signs_total}, VertexSigns.{vertex_point, vertex_primitive}}
use Rattle.staat_cells.proofs.Zeros.{two_planes}
use Rattle.staat_plan.specs.{LoneLines.{NoneServesOn, OnlyPlanesThroughServe}, declared.marked.Marked.Marked}
use Rattle.staat_plan.proofs.{CellStepLemmas.cell_step_is, StepLemmas.none_then}
use Rattle.staat_plan.proofs.Tries.{border_serves, cell_serves, zero_alone}

-- a vector on two planes is parallel to the vector in which they cross
across : (u g h : V3) → dot g u ≡ pos 0 → dot h u ≡ pos 0 → cross (cross g h) u ≡ origin
across u g h on_g on_h =
    let g_on : dot u g ≡ pos 0 = dot_comm u g ∙ on_g in
    let h_on : dot u h ≡ pos 0 = dot_comm u h ∙ on_h in
    cross_back u (cross g h) (cross_twice u g h ∙ (λ i. minus (scale (h_on i) g) (scale (g_on i) h)) ∙ no_multiples g h)

opposites_sum : (u : V3) → plus (negative u) u ≡ origin
opposites_sum u = ring3 (values (u ∷ []) []) (plusE (negativeE v0) v0) originE (tt, tt, tt)

module _ (parts : List Part) (is : IsAssembly parts) (w : PartSet) (planes : List V3) (are : ArePlanes parts w planes)
    (v : V3) (some : v ≢ origin) (lone : OnlyPlanesThroughServe parts w planes v) where
  apart : NoneParallel planes
  apart = planes_apart parts w planes are

  through : (g d : V3) → Contains planes g → dot g d ≡ pos 0 → Serves parts w d → dot g v ≡ pos 0
  through g d g_in on serves = ⊎_elim {C = dot g v ≡ pos 0} (λ e. e) (λ none. absurd (none d on serves))
      (All-contains (λ m. (dot m v ≡ pos 0) ⊎ NoneServesOn parts w m) planes g lone g_in)

  point_along : (d : V3) → Serves parts w d → kind_of (signs_of planes d) ≡ Point → cross d v ≡ origin
  point_along d serves kind =
      let (g, h, g_in, h_in, independent, on_g, on_h) =
      two_planes (λ n. sign (dot n d)) planes apart (point_zeros (signs_of planes d) kind) in
      let g_on = zero_sign (dot g d) on_g in
      let h_on = zero_sign (dot h d) on_h in
      parallel_cross (cross g h) d v independent (across d g h g_on h_on)
      (across v g h (through g d g_in g_on serves) (through h d h_in h_on serves))

  end_along : (d u : V3) → Serves parts w d → IsEnd planes (signs_of planes d) u → cross v u ≡ origin
  end_along d u serves end =
      cross_back u v (point_along u
      (border_serves parts w planes d u is are (vertex_some planes u apart end.vertex) end.border serves)
      (vertex_point planes u apart end.vertex))

  -- the two ends of an edge are not on one line
  edge_serves_not : (d : V3) → Serves parts w d → kind_of (signs_of planes d) ≡ Edge → ⊥
  edge_serves_not d serves kind =
      let free = serves.free in
      let cell : IsCell planes (signs_of planes d) = record { d = d; nonzero = free.moves; is = refl } in
      let (r, sum) = edge_has_sum_lemma parts w planes (signs_of planes d) are cell kind in
      let ends = sum.ends in
      let a = ends.each sum.u (Contains-front sum.u (sum.v ∷ [])) in
      let b = ends.each sum.v (Contains-later sum.u (sum.v ∷ []) sum.v (Contains-front sum.v [])) in
      ⊎_elim {C = ⊥}
      (λ same. less_apart sum.u sum.v (All-head (λ q. vector_cmp sum.u q ≡ Less) sum.v []
      (All-after_first vector_cmp sum.u (sum.v ∷ []) ends.ascending)) same)
      (λ opposite. free.moves (zero_alone planes (holds_axes parts w planes are) d
      (ap (signs_of planes) (sym (sum.is ∙ ap (λ u. plus u sum.v) opposite ∙ opposites_sum sum.v))
      ∙ representative_lemma parts w planes Edge (signs_of planes d) r are cell kind sum)))
      (parallel_primitives sum.u sum.v (vertex_primitive planes sum.u apart a.vertex)
      (vertex_primitive planes sum.v apart b.vertex)
      (parallel_cross v sum.u sum.v some (end_along d sum.u serves a) (end_along d sum.v serves b)))

  -- an open cell has an edge on its border
  open_serves_not : (d : V3) → Serves parts w d → kind_of (signs_of planes d) ≡ Open → ⊥
  open_serves_not d serves kind =
      let free = serves.free in
      let two = open_cell_lemma parts w planes (signs_of planes d) are
      (record { d = d; nonzero = free.moves; is = refl }) kind in
      let edge = two.e_is in
      let cell = edge.cell in
      edge_serves_not cell.d
      (border_serves parts w planes d cell.d is are cell.nonzero
      (subst (λ s. IsBorder s (signs_of planes d)) (sym cell.is) edge.border) serves)
      (ap kind_of cell.is ∙ edge.edge)

  -- so what serves is a point
  pub serves_point : (d : V3) → Serves parts w d → kind_of (signs_of planes d) ≡ Point
  serves_point d serves = by (kind_of (signs_of planes d)) refl
    where
      by : (kind : Kind) → kind_of (signs_of planes d) ≡ kind → kind_of (signs_of planes d) ≡ Point
      by Open e = absurd (open_serves_not d serves e)
      by Edge e = absurd (edge_serves_not d serves e)
      by Point e = e

  pub along_line : (d : V3) → Serves parts w d → cross d v ≡ origin
  along_line d serves = point_along d serves (serves_point d serves)

-- ---- the order of the two directions of the line

-- the opposite of a canonical vector comes first
before : (a b c : ℤ) (s t : List Sign) → pos 0 <ℤ or_next a (or_next b c)
    → signs_cmp (sign (neg_ℤ a) ∷ sign (neg_ℤ b) ∷ sign (neg_ℤ c) ∷ s) (sign a ∷ sign b ∷ sign c ∷ t) ≡ Less
before (pos (suc a)) b c s t h = refl
before (negsuc a) b c s t h = absurd (omega (arith, ints))
before (pos zero) (pos (suc b)) c s t h = refl
before (pos zero) (negsuc b) c s t h = absurd (omega (arith, ints))
before (pos zero) (pos zero) (pos (suc c)) s t h = refl
before (pos zero) (pos zero) (pos zero) s t h = absurd (omega (arith, ints))
before (pos zero) (pos zero) (negsuc c) s t h = absurd (omega (arith, ints))

at_axes : (others : List V3) (d : V3)
    → signs_of (axes ++ others) d ≡ sign d.x ∷ sign d.y ∷ sign d.z ∷ signs_of others d
at_axes others d =
    let x : dot (vector (pos 1) (pos 0) (pos 0)) d ≡ d.x = omega (arith, ints) in
    let y : dot (vector (pos 0) (pos 1) (pos 0)) d ≡ d.y = omega (arith, ints) in
    let z : dot (vector (pos 0) (pos 0) (pos 1)) d ≡ d.z = omega (arith, ints) in
    λ j. sign (x j) ∷ sign (y j) ∷ sign (z j) ∷ signs_of others d

opposite_first : (others : List V3) (p : V3) → IsCanon p
    → signs_cmp (signs_of (axes ++ others) (negative p)) (signs_of (axes ++ others) p) ≡ Less
opposite_first others p canonical =
    (λ i. signs_cmp (at_axes others (negative p) i) (at_axes others p i))
    ∙ before p.x p.y p.z (signs_of others (negative p)) (signs_of others p) canonical

-- ---- the first of them among the points

abbrev signs : List CellEntry → List (List Sign)
signs cells = map (λ (c : CellEntry). c.signs) cells

-- of cells in order the one with the signs s is the first with P, where it has P and the others that have come later
first_below : (P : CellEntry → Type 0) (s : List Sign) (cells : List CellEntry)
    → IsStrictlySortedBy signs_cmp (signs cells) → Contains (signs cells) s
    → ((c : CellEntry) → Contains cells c → c.signs ≡ s → P c)
    → ((c : CellEntry) → Contains cells c → P c → (c.signs ≡ s) ⊎ (signs_cmp s c.signs ≡ Less))
    → (c : CellEntry) × IsFirst P cells c × (c.signs ≡ s)
unfolding IsStrictlySortedBy
first_below P s [] sorted listed has above = absurd (Contains-nothing s listed)
first_below P s (c ∷ cells) sorted listed has above = elim (Contains-cases c.signs (signs cells) s listed) [
  | inl e ↦ (c, inl (refl, has c (Contains-front c cells) (sym e)), sym e)
  | inr later ↦ (
      let (x, first, e) = first_below P s cells sorted.1 later (λ y y_in. has y (Contains-later c cells y y_in))
      (λ y y_in. above y (Contains-later c cells y y_in)) in
      let less : signs_cmp c.signs s ≡ Less = All-contains (λ q. signs_cmp c.signs q ≡ Less) (signs cells) s
      (All-after_first signs_cmp c.signs (signs cells) sorted) later in
      (x, inr (λ p. not_under c.signs s less (above c (Contains-front c cells) p), first), e))
]
  where
    not_under : (r s : List Sign) → signs_cmp r s ≡ Less → (r ≡ s) ⊎ (signs_cmp s r ≡ Less) → ⊥
    not_under r s less (inl e) = not_below_itself r (ap (signs_cmp r) e ∙ less)
    not_under r s less (inr up) =
        let turned : Less ≡ Greater = sym less ∙ signs_total.antisymm r s ∙ ap ordering_reverse up in cc

module _ (parts : List Part) (is : IsAssembly parts) (w : PartSet) (planes : List V3) (are : ArePlanes parts w planes)
    (v : V3) (some : v ≢ origin) (lone : OnlyPlanesThroughServe parts w planes v) (v_in : Contains (vertices planes) v)
    (serves : Serves parts w (negative (canon v))) where
  abbrev first : V3
  first = negative (canon v)

  one_of_two : (u : V3) → Contains (vertices planes) u → Serves parts w u → (u ≡ first) ⊎ (u ≡ canon v)
  one_of_two u u_in u_serves =
      let apart = planes_apart parts w planes are in
      let same : canon u ≡ canon v = same_canon u v (vertex_primitive planes u apart u_in)
      (vertex_primitive planes v apart v_in) (along_line parts is w planes are v some lone u u_serves) in
      ⊎_elim {C = (u ≡ negative (canon v)) ⊎ (u ≡ canon v)} (λ own. inr (sym own ∙ same))
      (λ turned. inl (sym (negative-negative u) ∙ ap negative (sym turned ∙ same))) (canon-either u)

  below : signs_cmp (signs_of planes first) (signs_of planes (canon v)) ≡ Less
  below = subst (λ ps. signs_cmp (signs_of ps (negative (canon v))) (signs_of ps (canon v)) ≡ Less) (sym are.is)
      (opposite_first are.others (canon v) (IsCanon-canon v some))

  abbrev P : CellEntry → Type 0
  P c = Serves parts w c.d

  -- a point that serves
  at_point : (c : CellEntry) → IsEntry planes Point c → P c
      → (c.d ≡ first) ⊎ (signs_cmp (signs_of planes first) c.signs ≡ Less)
  at_point c entry c_serves =
      let at = IsFirst-in (λ u. signs_of planes u ≡ c.signs) (vertices planes) c.d entry.representative in
      ⊎_elim {C = (c.d ≡ first) ⊎ (signs_cmp (signs_of planes first) c.signs ≡ Less)} (λ e. inl e)
      (λ e. inr (ap (signs_cmp (signs_of planes first)) (sym at.1 ∙ ap (signs_of planes) e) ∙ below))
      (one_of_two c.d at.0 c_serves)

  none_of : (kind : Kind) (cells : List CellEntry) → AreCellsOf planes kind cells → (kind ≡ Point → ⊥)
      → All (λ (c : CellEntry). P c → ⊥) cells
  none_of kind cells of other k d lt c_serves =
      let c = get_or cells k d in
      let entry = of.each k d lt in
      other (sym entry.by_count ∙ sym (ap kind_of (representative_lemma parts w planes kind c.signs c.d are entry.cell
      entry.by_count entry.representative)) ∙ serves_point parts is w planes are v some lone c.d c_serves)

  pub line_step : (cells : List CellEntry) → AreCells planes cells → (side : PartSet) → IsMovedSide parts w first side
      → IsStep true parts w (record { d = first; mark = Point ∷ [] }) side
  line_step cells all side moved =
      let points = all.points_are in
      let listed = points.signs in
      let free = serves.free in
      let entry_of : (c : CellEntry) → Contains all.points c → IsEntry planes Point c =
      (λ c c_in. All-contains (IsEntry planes Point) all.points c points.each c_in) in
      let signs_in : (c : CellEntry) → Contains all.points c → signs_of planes c.d ≡ c.signs = (λ c c_in.
      let entry = entry_of c c_in in
      (IsFirst-in (λ u. signs_of planes u ≡ c.signs) (vertices planes) c.d entry.representative).1) in
      let (c, is_first, e) = first_below P (signs_of planes first) all.points listed.ascending
      (listed.all (signs_of planes first) (record { d = first; nonzero = free.moves; is = refl }, serves_point parts is w planes are v some lone first serves))
      (λ x x_in same. cell_serves parts w planes first x.d is are serves (signs_in x x_in ∙ same))
      (λ x x_in p. ⊎_elim {C = (x.signs ≡ signs_of planes first) ⊎ (signs_cmp (signs_of planes first) x.signs ≡ Less)}
      (λ same. inl (sym (signs_in x x_in) ∙ ap (signs_of planes) same)) (λ less. inr less)
      (at_point x (entry_of x x_in) p)) in
      let (c_in, c_serves) = IsFirst-in P all.points c is_first in
      let entry = entry_of c c_in in
      let d_is : c.d ≡ first = ⊎_elim {C = c.d ≡ first} (λ same. same)
      (λ less. absurd (not_below_itself (signs_of planes first) (ap (signs_cmp (signs_of planes first)) (sym e) ∙ less)))
      (at_point c entry c_serves) in
      let m : Marked = record { step = record { moved = side; d = first }; mark = Some Point } in
      cell_step_is parts w planes are cells all (Some m) (none_then try_cell parts w (all.opens ++ all.edges) all.points
      (Some m) (All-append (λ (x : CellEntry). P x → ⊥) all.opens all.edges
      (none_of Open all.opens all.opens_are (λ e. cc)) (none_of Edge all.edges all.edges_are (λ e. cc)))
      (record {
        at = c;
        first = is_first;
        is = (λ i. record { d = sym d_is i; mark = sym entry.kind_is i ∷ [] });
        moved = subst (λ d. IsMovedSide parts w d side) (sym d_is) moved;
      }))

-- the first vertex that serves is a vertex of the planes
pub first_vertex : (parts : List Part) (w s : PartSet) (planes : List V3) (v : V3) → ArePlanes parts w planes
    → IsStep false parts w (try_vertex v) s → Contains (vertices planes) v
first_vertex parts w s planes v are step =
    let of = step.tries_are in
    let found = IsFirst-in (λ (t : Try). Serves parts w t.d) step.tries (try_vertex v) step.first in
    let (u, u_in, e) = from_map try_vertex (vertices of.planes) (try_vertex v)
    (subst (λ l. Contains l (try_vertex v)) of.is found.0) in
    subst (λ ps. Contains (vertices ps) v) (ArePlanes-unique parts w of.planes planes of.planes_are are)
    (subst (Contains (vertices of.planes)) (sym (ap (λ (t : Try). t.d) e)) u_in)
