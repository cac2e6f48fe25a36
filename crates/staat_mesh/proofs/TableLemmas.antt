-- What the table of edges says of the edges of the mesh.
use Rattle.std.proofs.Common.{◌≡◌, ◌≢◌, ◌<◌, ◌≤◌, ◌+◌, ℕ, Some, List, length, map, take, get_or, ap, sym, subst, ◌∙◌, arith, Bool, false, true, ⊎_elim}
use Rattle.std.specs.Prelude.{All, Contains, count_by, min, option_map, slice_get, slice_index}
use Rattle.std.specs.List.{flat_map}
use Rattle.std.proofs.lemmas.Bool.{cases_lt}
use Rattle.std.proofs.lemmas.List.{take-map}
use Rattle.std.proofs.lemmas.List.Folds.{flat_map-map}
use Rattle.std.proofs.lemmas.List.Elements.{All-contains, All-map, All-take}
use Rattle.std.proofs.lemmas.Map.Keys.{IsDistinct-from_sorted, apart_from_distinct}
use Rattle.std.proofs.lemmas.Option.{get_or_from_slice_get, slice_get-get_or, slice_get-map, slice_get_within}
use Rattle.std.proofs.lemmas.Simd.{map-map}
use Rattle.staat_vec.specs.declared.vector.V3.{V3}
use Rattle.staat_vec.specs.Lists.{Lists}
use Rattle.staat_vec.specs.Vectors.{origin, vector_cmp}
use Rattle.staat_limits.specs.declared.limits.TheConstants.{MOST_POINTS}
use Rattle.staat_model.proofs.Members.{All-from_members, both as joined}
use Rattle.staat_off.specs.declared.raw.Raw.{Raw}
use Rattle.staat_off.specs.Raws.{IsIndexed}
use Rattle.staat_mesh.specs.Counts.{Counts, IsFirstUnpaired, IsPaired, Numbers, cell, leads, numbered}
use Rattle.staat_mesh.specs.Edges.{IsClosed, edge_count, edges, joins}
use Rattle.staat_mesh.specs.Judging.{HasClosedEdges, IsFirstOpen}
use Rattle.staat_mesh.specs.Polygons.{IsUsed, mesh, polygon}
use Rattle.staat_mesh.proofs.RenamedEdges.{IsInjective, both, count_by-joins, edges-map, filter_map-all, flat_map-renamed, is_same-Decides}
use Rattle.staat_mesh.proofs.UsedPoints.{to_used}
use Rattle.staat_mesh.proofs.EdgeLemmas.{All-edges}
use Rattle.staat_vec.proofs.ListLaws.{All-flat_map}
use Rattle.staat_vec.proofs.Unique.{from_place}

-- the edges of all faces, by the numbers of their points
abbrev pub numbered_edges : List ℕ → List (List ℕ) → List (ℕ × ℕ)
numbered_edges numbers faces = flat_map (λ face. edges (numbered numbers face)) faces

-- a table of the edges of the mesh, by the numbers of its points
pub record IsTabled (raw : Raw) (points : List V3) (numbers table : List ℕ) : Type 0 where
  pub indexed : IsIndexed raw
  pub used : Lists vector_cmp (IsUsed (mesh raw)) points
  pub most : length points ≤ MOST_POINTS
  pub by_number : Numbers points raw.points numbers
  pub counts : Counts table (numbered_edges numbers raw.faces)

-- the point of a number
abbrev pub point_at : List V3 → ℕ → V3
point_at points n = get_or points n origin

apart_below : (points : List V3) (i j : ℕ) → Lists vector_cmp (Contains points) points → i < j → j < length points → point_at points i ≡ point_at points j → ⊥
apart_below points i j lists lt within e =
    different (apart_from_distinct _ points i j origin (IsDistinct-from_sorted vector_cmp points lists.ascending) lt within) ((is_same-Decides (point_at points i) (point_at points j)).1 e)
  where
    different : {b : Bool} → b ≡ false → b ≡ true → ⊥
    different h k = cc

-- points of different numbers differ
injective : (raw : Raw) (points : List V3) (numbers table : List ℕ) → IsTabled raw points numbers table → IsInjective (length points) (point_at points)
injective raw points numbers table t i j hi hj e =
    let lists : Lists vector_cmp (Contains points) points = record { ascending = t.used.ascending; each = λ p h. h; all = λ p h. h } in
    ⊎_elim (λ lt. absurd (apart_below points i j lists lt hj e))
    (λ ge. ⊎_elim (λ lt. absurd (apart_below points j i lists lt hi (sym e))) (λ le. omega (arith, ge, le)) (cases_lt j i))
    (cases_lt i j)

-- ---- a face by numbers

-- a vertex is at the point of its number
abbrev IsAt : Raw → List V3 → List ℕ → ℕ → Type 0
IsAt raw points numbers v = (slice_get raw.points v ≡ Some (point_at points (slice_index numbers v))) × (slice_index numbers v < length points)

vertex_at : (raw : Raw) (points : List V3) (numbers table : List ℕ) → IsTabled raw points numbers table → (face : List ℕ) (v : ℕ) → Contains raw.faces face → Contains face v → IsAt raw points numbers v
vertex_at raw points numbers table t face v listed corner =
    let inside : All (λ u. u < length raw.points) face = All-contains (All (λ u. u < length raw.points)) raw.faces face t.indexed.corners listed in
    let within : v < length raw.points = All-contains (λ u. u < length raw.points) face v inside corner in
    let p = get_or raw.points v origin in
    let at : slice_get raw.points v ≡ Some p = slice_get-get_or raw.points v origin within in
    let used : IsUsed (mesh raw) p = to_used raw p (v, (listed.0, face, listed.1, listed.2, corner), at) in
    let number : slice_get points (slice_index numbers v) ≡ Some p = t.by_number.at v p at (t.used.all p used) in
    (at ∙ ap Some (sym (get_or_from_slice_get points (slice_index numbers v) p origin number)), slice_get_within points (slice_index numbers v) p number)

-- the edges of a face are those of its numbers
pub edges-polygon : (raw : Raw) (points : List V3) (numbers table : List ℕ) → IsTabled raw points numbers table → (face : List ℕ) → Contains raw.faces face → edges (polygon raw.points face) ≡ map (both (point_at points)) (edges (numbered numbers face))
edges-polygon raw points numbers table t face listed =
    ap edges (filter_map-all (slice_get raw.points) (λ v. point_at points (slice_index numbers v)) face (λ v h. (vertex_at raw points numbers table t face v listed h).0) ∙ sym (map-map (point_at points) (slice_index numbers) face))
    ∙ edges-map (point_at points) (numbered numbers face)

-- both ends are numbers of points
abbrev IsBelow : List V3 → ℕ × ℕ → Type 0
IsBelow points e = (e.0 < length points) × (e.1 < length points)

edges_below : (raw : Raw) (points : List V3) (numbers table : List ℕ) → IsTabled raw points numbers table → (face : List ℕ) → Contains raw.faces face → All (IsBelow points) (edges (numbered numbers face))
edges_below raw points numbers table t face listed =
    All-edges (λ n. n < length points) (numbered numbers face)
    (All-map (λ n. n < length points) (slice_index numbers) face (All-from_members (λ v. slice_index numbers v < length points) face (λ v h. (vertex_at raw points numbers table t face v listed h).1)))

-- ---- the whole mesh

all_edges : (raw : Raw) (points : List V3) (numbers table : List ℕ) → IsTabled raw points numbers table → flat_map edges (mesh raw) ≡ map (both (point_at points)) (numbered_edges numbers raw.faces)
all_edges raw points numbers table t =
    flat_map-map edges (polygon raw.points) raw.faces
    ∙ flat_map-renamed (λ face. edges (polygon raw.points face)) (λ face. edges (numbered numbers face)) (both (point_at points)) raw.faces (edges-polygon raw points numbers table t)

edge_count-numbers : (raw : Raw) (points : List V3) (numbers table : List ℕ) → IsTabled raw points numbers table → (i j : ℕ) → i < length points → j < length points → i ≢ j → edge_count (mesh raw) (point_at points i) (point_at points j) ≡ count_by (leads i j) (numbered_edges numbers raw.faces) + count_by (leads j i) (numbered_edges numbers raw.faces)
unfolding edge_count
edge_count-numbers raw points numbers table t i j hi hj ne =
    ap (count_by (joins (point_at points i) (point_at points j))) (all_edges raw points numbers table t)
    ∙ count_by-joins (length points) (point_at points) (injective raw points numbers table t) i j hi hj ne (numbered_edges numbers raw.faces)
    (All-flat_map (IsBelow points) (λ face. edges (numbered numbers face)) raw.faces (edges_below raw points numbers table t))

two : (c x y a b : ℕ) → c ≡ x + y → a ≡ min 255 x → b ≡ min 255 y → a + b ≡ 2 → c ≡ 2
two c x y a b e f g h = omega arith

two_back : (c x y a b : ℕ) → c ≡ x + y → a ≡ min 255 x → b ≡ min 255 y → c ≡ 2 → a + b ≡ 2
two_back c x y a b e f g h = omega arith

-- what is paired in the table is closed in the mesh
closed : (raw : Raw) (points : List V3) (numbers table : List ℕ) → IsTabled raw points numbers table → (e : ℕ × ℕ) → IsPaired table e → IsBelow points e → IsClosed (mesh raw) (both (point_at points) e)
closed raw points numbers table t e paired below = λ ne.
    let apart : e.0 ≢ e.1 = λ same. ne (ap (point_at points) same) in
    two _ _ _ _ _ (edge_count-numbers raw points numbers table t e.0 e.1 below.0 below.1 apart)
    (t.counts e.0 e.1 (omega (arith, below.0, t.most)) (omega (arith, below.1, t.most)))
    (t.counts e.1 e.0 (omega (arith, below.1, t.most)) (omega (arith, below.0, t.most)))
    (paired apart)

-- and what is not paired in the table is open in the mesh
opened : (raw : Raw) (points : List V3) (numbers table : List ℕ) → IsTabled raw points numbers table → (i j : ℕ) → i < length points → j < length points → i ≢ j → slice_index table (cell i j) + slice_index table (cell j i) ≢ 2 → edge_count (mesh raw) (point_at points i) (point_at points j) ≢ 2
opened raw points numbers table t i j hi hj apart unpaired = λ e.
    unpaired (two_back _ _ _ _ _ (edge_count-numbers raw points numbers table t i j hi hj apart)
    (t.counts i j (omega (arith, hi, t.most)) (omega (arith, hj, t.most)))
    (t.counts j i (omega (arith, hj, t.most)) (omega (arith, hi, t.most)))
    e)

-- ---- a face of the mesh

pub polygon_there : (raw : Raw) (f : ℕ) (face : List ℕ) → slice_get raw.faces f ≡ Some face → slice_get (mesh raw) f ≡ Some (polygon raw.points face)
polygon_there raw f face e = slice_get-map (polygon raw.points) raw.faces f ∙ ap (option_map (polygon raw.points)) e

closed_edges : (raw : Raw) (points : List V3) (numbers table : List ℕ) → IsTabled raw points numbers table → (es : List (ℕ × ℕ)) → All (IsPaired table) es → All (IsBelow points) es → All (IsClosed (mesh raw)) (map (both (point_at points)) es)
closed_edges raw points numbers table t es paired below =
    All-map (IsClosed (mesh raw)) (both (point_at points)) es (joined (IsPaired table) (IsBelow points) (λ e. IsClosed (mesh raw) (both (point_at points) e)) (closed raw points numbers table t) es paired below)

pub face_closed : (raw : Raw) (points : List V3) (numbers table : List ℕ) → IsTabled raw points numbers table → (face : List ℕ) → Contains raw.faces face → All (IsPaired table) (edges (numbered numbers face)) → HasClosedEdges (mesh raw) (polygon raw.points face)
face_closed raw points numbers table t face listed paired =
    subst (All (IsClosed (mesh raw))) (sym (edges-polygon raw points numbers table t face listed)) (closed_edges raw points numbers table t (edges (numbered numbers face)) paired (edges_below raw points numbers table t face listed))

pub face_open : (raw : Raw) (points : List V3) (numbers table : List ℕ) → IsTabled raw points numbers table → (f corner : ℕ) (face : List ℕ) → slice_get raw.faces f ≡ Some face → All (HasClosedEdges (mesh raw)) (take f (mesh raw)) → IsFirstUnpaired table (edges (numbered numbers face)) corner → IsFirstOpen (mesh raw) f corner
face_open raw points numbers table t f corner face at before first =
    let listed : Contains raw.faces face = from_place raw.faces f face at in
    let es = edges (numbered numbers face) in
    let is : edges (polygon raw.points face) ≡ map (both (point_at points)) es = edges-polygon raw points numbers table t face listed in
    let all_below : All (IsBelow points) es = edges_below raw points numbers table t face listed in
    let below : IsBelow points (first.from, first.to) = All-contains (IsBelow points) es (first.from, first.to) all_below (from_place es corner (first.from, first.to) first.at) in record {
      polygon = polygon raw.points face;
      at = polygon_there raw f face at;
      from = point_at points first.from;
      to = point_at points first.to;
      edge = ap (λ ds. slice_get ds corner) is ∙ slice_get-map (both (point_at points)) es corner ∙ ap (option_map (both (point_at points))) first.at;
      apart = λ e. first.apart (injective raw points numbers table t first.from first.to below.0 below.1 e);
      unpaired = opened raw points numbers table t first.from first.to below.0 below.1 first.apart first.unpaired;
      faces_before = before;
      edges_before = subst (λ ds. All (IsClosed (mesh raw)) (take corner ds)) (sym is) (subst (All (IsClosed (mesh raw))) (sym (take-map (both (point_at points)) corner es)) (closed_edges raw points numbers table t (take corner es) first.before (All-take (IsBelow points) corner es all_below)));
    }

-- ---- as the code holds these lists

pub tabled : (raw : Raw) (points : List V3) (numbers table : List ℕ) (positions : List V3) (lent : List ℕ) (faces : List (List ℕ)) → IsIndexed raw → Lists vector_cmp (IsUsed (mesh raw)) points → length points ≤ MOST_POINTS → positions ≡ raw.points → lent ≡ numbers → faces ≡ raw.faces → Numbers points positions numbers → Counts table (numbered_edges lent faces) → IsTabled raw points numbers table
tabled raw points numbers table positions lent faces indexed used most e f g by_number counts = record {
  indexed = indexed;
  used = used;
  most = most;
  by_number = subst (λ ps. Numbers points ps numbers) e by_number;
  counts = subst (λ ns. Counts table (numbered_edges ns raw.faces)) f (subst (λ fs. Counts table (numbered_edges lent fs)) g counts);
}

pub face_there : (raw : Raw) (i : ℕ) (face item : List ℕ) (items : List (List ℕ)) → face ≡ item → item ≡ get_or items i item → items ≡ raw.faces → i < length items → slice_get raw.faces i ≡ Some face
face_there raw i face item items e f g lt = ap (λ xs. slice_get xs i) (sym g) ∙ slice_get-get_or items i item lt ∙ ap Some (sym f ∙ sym e)
