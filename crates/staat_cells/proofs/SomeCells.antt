-- There are lists of all cells.
use Rattle.std.proofs.Common.{◌≡◌, ◌≢◌, ◌⊎◌, inl, inr, ⊎_elim, ℕ, ◌<◌, ◌≤◌, pos, refl, sym, subst, arith, List, [], ◌∷◌}
use Rattle.std.proofs.Common.{◌++◌, length, map, Contains}
use Rattle.std.proofs.lemmas.Int.{ints}
use Rattle.staat_vec.specs.declared.vector.V3.{V3}
use Rattle.staat_vec.specs.declared.vector.Sign.TheVariants.{Neg, Pos}
use Rattle.staat_vec.specs.Lists.{Lists}
use Rattle.staat_vec.specs.Vectors.{cross, dot, negative, origin, vector, vector_cmp}
use Rattle.staat_vec.proofs.Unique.{Contains-cases, Contains-front, Contains-later}
use Rattle.staat_vec.proofs.VectorOrder.{vector_exact, vector_total}
use Rattle.staat_model.specs.declared.tree.Kind.TheVariants.{Edge, Open, Point}
use Rattle.staat_model.specs.Cells.{AreCells, AreCellsOf, CellEntry, signs_of}
use Rattle.staat_model.specs.Planes.{vertices}
use Rattle.staat_model.proofs.Decisions.{lt_or}
use Rattle.staat_model.proofs.Listings.{Listing, listing_and, listing_as, listing_below, listing_image}
use Rattle.staat_model.proofs.Listings.{listing_members, listing_none, listing_over, listing_sorted}
use Rattle.staat_pairs.specs.Tables.{AreTablePlanes}
use Rattle.staat_cells.specs.Beside.{beside, filled}
use Rattle.staat_cells.specs.Compositions.{composed_up_to}
use Rattle.staat_cells.specs.Packing.{incidence_cmp, incidence_of}
use Rattle.staat_cells.specs.Stages.{IsAxisOff, IsBesideIncidence, IsBesideOn, IsEdgeIncidence}
use Rattle.staat_cells.specs.Stages.{IsIncidence, IsOwnIncidence, cell_at, point_entry}
use Rattle.staat_cells.proofs.MadeUpCells.{edges_made_up, point_in, opens_made_up}
use Rattle.staat_cells.proofs.Grouping.{composed_are_cells}
use Rattle.staat_cells.proofs.IncidenceOrder.{incidence_exact, incidence_total}
use Rattle.staat_cells.proofs.ListedIncidences.{IsFilledAt, edges_all, own_all}
use Rattle.staat_cells.proofs.PointCells.{points_are}
use Rattle.staat_vec.proofs.Integers.{zero_or}
use Rattle.staat_vec.proofs.ListLaws.{only_one}
use Rattle.staat_cells.proofs.TableRules.{edge_incidences_are, holds_axes, planes_apart, vertex_off}
use Rattle.staat_cells.proofs.WholeLists.{open_incidences_are}

listing_pair : {X : Type 0} (a b : X) → Listing (λ x. (x ≡ a) ⊎ (x ≡ b))
listing_pair {X} a b = record { xs = a ∷ b ∷ []; from = from; all = all }
  where
    from : (x : X) → Contains (a ∷ b ∷ []) x → (x ≡ a) ⊎ (x ≡ b)
    from x c = ⊎_elim {C = (x ≡ a) ⊎ (x ≡ b)} (λ e. inl e) (λ later. inr (only_one b x later)) (Contains-cases a (b ∷ []) x c)

    all : (x : X) → (x ≡ a) ⊎ (x ≡ b) → Contains (a ∷ b ∷ []) x
    all x (inl e) = subst (Contains (a ∷ b ∷ [])) (sym e) (Contains-front a (b ∷ []))
    all x (inr e) = subst (Contains (a ∷ b ∷ [])) (sym e) (Contains-later a (b ∷ []) b (Contains-front b []))

axis_off : (v : V3) → v ≢ origin → (m : V3) × IsAxisOff v m
axis_off v some = by (zero_or v.x) (zero_or v.y)
  where
    by : (v.x ≡ pos 0) ⊎ (v.x ≢ pos 0) → (v.y ≡ pos 0) ⊎ (v.y ≢ pos 0) → (m : V3) × IsAxisOff v m
    by (inr n) y = (vector (pos 1) (pos 0) (pos 0), record { axis = (0, omega arith, refl); off = λ e. n (omega (arith, ints, e)) })
    by (inl x) (inr n) = (vector (pos 0) (pos 1) (pos 0), record { axis = (1, omega arith, refl); off = λ e. n (omega (arith, ints, e)) })
    by (inl x) (inl y) = (vector (pos 0) (pos 0) (pos 1), record { axis = (2, omega arith, refl); off = off })
      where
        off : dot (vector (pos 0) (pos 0) (pos 1)) v ≢ pos 0
        off e = let z : v.z ≡ pos 0 = omega (arith, ints, e) in some (λ i. vector (x i) (y i) (z i))

module _ (planes : List V3) (are : AreTablePlanes planes) (few : length planes ≤ 256) where
  -- ---- points

  corners : (vs : List V3) × Lists vector_cmp (Contains (vertices planes)) vs
  corners = listing_sorted vector_cmp vector_total vector_exact (listing_members (vertices planes))

  own_listing : (cells : List CellEntry) → Listing (IsOwnIncidence cells)
  own_listing cells = listing_as (λ x. (own_all cells (length cells) refl x).0) (λ x. (own_all cells (length cells) refl x).1)
      (listing_image (λ k. incidence_of (cell_at cells k).signs k) (listing_below (length cells)))

  some_points : (cells : List CellEntry) × AreCellsOf planes Point cells
  some_points =
      let (vs, listed) = corners in
      let (incidences, sorted) = listing_sorted incidence_cmp incidence_total incidence_exact
      (own_listing (map (point_entry planes) vs)) in (
        map (λ x. cell_at (map (point_entry planes) vs) x.of) incidences,
        points_are planes (holds_axes planes are) (planes_apart planes are) few vs listed incidences sorted,
      )

  -- ---- edges

  beside_listing : (v m : V3) (k : ℕ) → Listing (IsBesideIncidence planes planes v m k)
  beside_listing v m k =
      listing_as (λ x (s, b, e). record { signs = s; beside = b; is = e }) (λ x b. (b.signs, b.beside, b.is))
      (listing_image (λ s. incidence_of s k) signs)
    where
      signs : Listing (IsBesideOn planes planes v m)
      signs = listing_as
          (λ s (c, (c_in, on), towards). record { c = c; c_in = c_in; on = on; towards = towards })
          (λ s b. (b.c, (b.c_in, b.on), b.towards))
          (listing_over (λ c s. (s ≡ beside planes v (cross c m))
          ⊎ (s ≡ beside planes v (negative (cross c m))))
          (listing_and (λ c. dot c v ≡ pos 0) (λ c. zero_or (dot c v)) (listing_members planes))
          (λ c. listing_pair (beside planes v (cross c m)) (beside planes v (negative (cross c m)))))

  module _ (points : List CellEntry) (points_of : AreCellsOf planes Point points) where
    signs_at : (k : ℕ) → k < length points → (cell_at points k).signs ≡ signs_of planes (cell_at points k).d
    signs_at k lt = sym (point_in planes are points points_of k lt).1

    edges_at : (k : ℕ) → k < length points → Listing (IsEdgeIncidence planes (cell_at points k).d k)
    edges_at k lt =
        let v = (cell_at points k).d in
        let has = (point_in planes are points points_of k lt).0 in
        let (m, off) = axis_off v (vertex_off planes v are has) in
        listing_as (λ x. (edge_incidences_are planes v m k x are has off).0)
        (λ x. (edge_incidences_are planes v m k x are has off).1)
        (beside_listing v m k)

    at_place : (k : ℕ) → Listing (λ x. (k < length points) × IsEdgeIncidence planes (cell_at points k).d k x)
    at_place k = elim (lt_or k (length points)) [
      | inl lt ↦ listing_as (λ x e. (lt, e)) (λ x h. h.1) (edges_at k lt)
      | inr n ↦ listing_none (λ x h. n h.0)
    ]

    edge_listing : Listing (IsIncidence planes Edge points)
    edge_listing = listing_as
        (λ x (k, lt, h). (edges_all points (length points) refl x planes signs_at).0 (k, lt, h.1))
        (λ x s. let (k, lt, e) = (edges_all points (length points) refl x planes signs_at).1 s in (k, lt, (lt, e)))
        (listing_over (λ k x. (k < length points) × IsEdgeIncidence planes (cell_at points k).d k x)
        (listing_below (length points)) at_place)

    some_edges : (cells : List CellEntry) × AreCellsOf planes Edge cells
    some_edges =
        let (incidences, sorted) = listing_sorted incidence_cmp incidence_total incidence_exact edge_listing in (
          composed_up_to Edge points incidences (length incidences),
          composed_are_cells planes Edge points incidences few sorted
              (edges_made_up planes are points points_of),
        )

  -- ---- open cells

  module _ (edges : List CellEntry) (edges_of : AreCellsOf planes Edge edges) where
    open_listing : Listing (IsIncidence planes Open edges)
    open_listing =
        let same = open_incidences_are planes are edges edges_of in
        listing_as (λ x. (same x).0) (λ x. (same x).1) (listing_over (λ k x. IsFilledAt edges x k) (listing_below (length edges))
        (λ k. listing_pair (incidence_of (filled Neg (cell_at edges k).signs) k) (incidence_of (filled Pos (cell_at edges k).signs) k)))

    some_opens : (cells : List CellEntry) × AreCellsOf planes Open cells
    some_opens =
        let (incidences, sorted) = listing_sorted incidence_cmp incidence_total incidence_exact open_listing in (
          composed_up_to Open edges incidences (length incidences),
          composed_are_cells planes Open edges incidences few sorted (opens_made_up planes are edges edges_of),
        )

  pub some_cells : (cells : List CellEntry) × AreCells planes cells
  some_cells =
      let (points, points_of) = some_points in
      let (edges, edges_of) = some_edges points points_of in
      let (opens, opens_of) = some_opens edges edges_of in (
        points ++ edges ++ opens,
        record {
          points = points;
          edges = edges;
          opens = opens;
          points_are = points_of;
          edges_are = edges_of;
          opens_are = opens_of;
          is = refl;
        },
      )
