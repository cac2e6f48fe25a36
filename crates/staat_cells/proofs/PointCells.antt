-- The points in the order of their signs.
use Rattle.std.proofs.Common.{◌≡◌, ◌≢◌, ◌⊎◌, inl, inr, ⊎_elim, ℕ, ◌<◌, ◌≤◌, refl, sym, ap, subst, ◌∙◌, arith, List, [], ◌∷◌, length, get_or, map, Contains}
use Rattle.std.specs.Ordering.{nat_cmp, ordering_then}
use Rattle.std.specs.declared.cmp.Ordering.{Ordering}
use Rattle.std.specs.declared.cmp.Ordering.TheVariants.{Less, Equal, Greater}
use Rattle.std.specs.List.Sorted.{IsStrictlySortedBy}
use Rattle.std.proofs.lemmas.Cmp.{tied_itself}
use Rattle.std.proofs.lemmas.List.{get_or-map, length-map}
use Rattle.std.proofs.lemmas.List.Elements.{All-contains, All-from_recursion, recursion_from_All, Contains-get_or}
use Rattle.std.proofs.lemmas.Map.Keys.{Less-from_sorted}
use Rattle.staat_vec.specs.declared.vector.V3.{V3}
use Rattle.staat_vec.specs.declared.vector.Sign.{Sign}
use Rattle.staat_vec.specs.Lists.{IsFirst, Lists}
use Rattle.staat_vec.specs.Vectors.{dot, origin, sign, vector_cmp}
use Rattle.staat_vec.proofs.Unique.{Contains-cases, Contains-front, Contains-later, Contains-nothing}
use Rattle.staat_vec.proofs.VectorOrder.{vector_total}
use Rattle.staat_model.specs.declared.tree.Kind.TheVariants.{Point}
use Rattle.staat_model.specs.Cells.{kind_of, signs_of, signs_cmp, CellEntry, IsCell, IsEntry, AreCellsOf}
use Rattle.staat_model.specs.Planes.{vertices}
use Rattle.staat_model.proofs.Corners.{HoldsAxes}
use Rattle.staat_model.proofs.Differences.{from_map}
use Rattle.staat_model.proofs.Members.{All-from_members}
use Rattle.staat_model.proofs.PlaneLemmas.{NoneParallel}
use Rattle.staat_cells.specs.declared.incidence.Incidence.{Incidence}
use Rattle.staat_cells.specs.Compositions.{no_cell}
use Rattle.staat_cells.specs.Packing.{incidence_cmp, incidence_of}
use Rattle.staat_cells.specs.Stages.{cell_at, point_entry, IsOwnIncidence}
use Rattle.staat_cells.proofs.SignOrder.{signs_exact, signs_total, then_less}
use Rattle.staat_cells.proofs.VertexSigns.{point_has_vertex, same_vertex, vertex_point}
use Rattle.staat_cells.proofs.Words.{incidence_order}
use Rattle.staat_vec.proofs.ListLaws.{Contains-map}
use Rattle.staat_vec.proofs.Comparisons.{less_number}
use Rattle.staat_model.proofs.ListedVertices.{vertex_some}

-- ---- lists of signs are equal or not

pub same_or_not : (s t : List Sign) → (s ≡ t) ⊎ (s ≢ t)
same_or_not s t = go (signs_cmp s t) refl
  where
    not_equal : (o : Ordering) → signs_cmp s t ≡ o → o ≢ Equal → s ≢ t
    not_equal o e other same = other (sym e ∙ ap (signs_cmp s) (sym same) ∙ tied_itself signs_total s)

    go : (o : Ordering) → signs_cmp s t ≡ o → (s ≡ t) ⊎ (s ≢ t)
    go Less e = inr (not_equal Less e (λ q. cc))
    go Equal e = inl (signs_exact s t e)
    go Greater e = inr (not_equal Greater e (λ q. cc))

-- what has the property is the first with it, if it is the only one
pub first_alone : (P : V3 → Type 0) (xs : List V3) (x : V3) → ((y : V3) → P y ⊎ (P y → ⊥)) → P x → ((y : V3) → Contains xs y → P y → y ≡ x) → Contains xs x → IsFirst P xs x
first_alone P [] x decide has alone c = absurd (Contains-nothing x c)
first_alone P (y ∷ xs) x decide has alone c = go (decide y) (Contains-cases y xs x c) (first_alone P xs x decide has (λ z z_in p. alone z (Contains-later y xs z z_in) p))
  where
    go : P y ⊎ (P y → ⊥) → (x ≡ y) ⊎ Contains xs x → (Contains xs x → IsFirst P xs x) → IsFirst P (y ∷ xs) x
    go (inl p) c ih = inl (sym (alone y (Contains-front y xs) p), p)
    go (inr n) (inl e) ih = absurd (n (subst P e has))
    go (inr n) (inr later) ih = inr (n, ih later)

-- a map that keeps the order keeps an ascending list
pub sorted_map : {X Y : Type 0} (c : X → X → Ordering) (d : Y → Y → Ordering) (f : X → Y) (xs : List X) → IsStrictlySortedBy c xs → ((x y : X) → Contains xs x → Contains xs y → c x y ≡ Less → d (f x) (f y) ≡ Less) → IsStrictlySortedBy d (map f xs)
unfolding IsStrictlySortedBy
sorted_map c d f [] s keep = tt
sorted_map c d f (x ∷ xs) s keep = (
  recursion_from_All (λ w. d (f x) w ≡ Less) (map f xs) (All-from_members (λ w. d (f x) w ≡ Less) (map f xs) (λ w h.
      let (y, y_in, e) = from_map f xs w h in
      subst (λ w. d (f x) w ≡ Less) (sym e) (keep x y (Contains-front x xs) (Contains-later x xs y y_in) (All-contains (λ w. c x w ≡ Less) xs y (All-from_recursion (λ w. c x w ≡ Less) xs s.0) y_in)))),
  sorted_map c d f xs s.1 (λ y z y_in z_in. keep y z (Contains-later x xs y y_in) (Contains-later x xs z z_in)),
)

module _ (planes : List V3) (axes : HoldsAxes planes) (apart : NoneParallel planes) (few : length planes ≤ 256) (vs : List V3) (listed : Lists vector_cmp (Contains (vertices planes)) vs) (incidences : List Incidence)
    (sorted : Lists incidence_cmp (IsOwnIncidence (map (point_entry planes) vs)) incidences) where
  -- the vertex of an incidence
  abbrev vertex_of : Incidence → V3
  vertex_of x = get_or vs x.of origin

  below : (k : ℕ) → k < length (map (point_entry planes) vs) → k < length vs
  below k lt = let e = length-map vs (point_entry planes) in omega (arith, e)

  entry_of_incidence : (x : Incidence) → IsOwnIncidence (map (point_entry planes) vs) x → cell_at (map (point_entry planes) vs) x.of ≡ point_entry planes (vertex_of x)
  entry_of_incidence x o = get_or-map (point_entry planes) vs x.of origin no_cell (below x.of o.listed)

  vertex_in : (x : Incidence) → IsOwnIncidence (map (point_entry planes) vs) x → Contains (vertices planes) (vertex_of x)
  vertex_in x o = listed.each (vertex_of x) (Contains-get_or vs x.of origin (below x.of o.listed))

  signs_is : (x : Incidence) → IsOwnIncidence (map (point_entry planes) vs) x → (cell_at (map (point_entry planes) vs) x.of).signs ≡ signs_of planes (vertex_of x)
  signs_is x o = ap (λ c. c.signs) (entry_of_incidence x o)

  packed : (x : Incidence) → IsOwnIncidence (map (point_entry planes) vs) x → x ≡ incidence_of (signs_of planes (vertex_of x)) x.of
  packed x o = o.is ∙ ap (λ s. incidence_of s x.of) (signs_is x o)

  point_of : (v : V3) → Contains (vertices planes) v → IsEntry planes Point (point_entry planes v)
  point_of v v_in = record {
    kind_is = refl;
    by_count = vertex_point planes v apart v_in;
    cell = record { d = v; nonzero = vertex_some planes v apart v_in; is = refl };
    representative = first_alone (λ w. signs_of planes w ≡ signs_of planes v) (vertices planes) v (λ w. same_or_not (signs_of planes w) (signs_of planes v)) refl (λ w w_in e. same_vertex planes w v axes apart w_in v_in e) v_in;
  }

  many : (v : V3) → length (signs_of planes v) ≡ length planes
  many v = length-map planes (λ n. sign (dot n v))

  -- incidences ascend by signs alone, since no two vertices have the same
  keeps : (x y : Incidence) → Contains incidences x → Contains incidences y → incidence_cmp x y ≡ Less → signs_cmp (cell_at (map (point_entry planes) vs) x.of).signs (cell_at (map (point_entry planes) vs) y.of).signs ≡ Less
  keeps x y x_in y_in less =
      let o = sorted.each x x_in in
      let p = sorted.each y y_in in
      let s = signs_of planes (vertex_of x) in
      let t = signs_of planes (vertex_of y) in
      let e = many (vertex_of x) in
      let order : ordering_then (signs_cmp s t) (nat_cmp x.of y.of) ≡ Less = sym (incidence_order s t x.of y.of (e ∙ sym (many (vertex_of y))) (omega (arith, e, few))) ∙ (λ i. incidence_cmp (sym (packed x o) i) (sym (packed y p) i)) ∙ less in
      (λ i. signs_cmp (signs_is x o i) (signs_is y p i)) ∙ ⊎_elim (λ h. h) (λ h. absurd (clash x y o p (signs_exact s t h.0) (less_number x.of y.of h.1))) (then_less (signs_cmp s t) (nat_cmp x.of y.of) order)
    where
      clash : (x y : Incidence) → IsOwnIncidence (map (point_entry planes) vs) x → IsOwnIncidence (map (point_entry planes) vs) y → signs_of planes (vertex_of x) ≡ signs_of planes (vertex_of y) → x.of < y.of → ⊥
      clash x y o p e lt =
          let same = same_vertex planes (vertex_of x) (vertex_of y) axes apart (vertex_in x o) (vertex_in y p) e in
          let up = Less-from_sorted vector_cmp vs x.of y.of origin listed.ascending lt (below y.of p.listed) in
          let tied : vector_cmp (vertex_of y) (vertex_of y) ≡ Equal = tied_itself vector_total (vertex_of y) in
          let down : vector_cmp (vertex_of y) (vertex_of y) ≡ Less = ap (λ v. vector_cmp v (vertex_of y)) (sym same) ∙ up in
          cc

  map_signs : (xs : List Incidence) → map (λ (c : CellEntry). c.signs) (map (λ x. cell_at (map (point_entry planes) vs) x.of) xs) ≡ map (λ x. (cell_at (map (point_entry planes) vs) x.of).signs) xs
  map_signs [] = refl
  map_signs (x ∷ xs) = ap (λ l. (cell_at (map (point_entry planes) vs) x.of).signs ∷ l) (map_signs xs)

  pub points_are : AreCellsOf planes Point (map (λ x. cell_at (map (point_entry planes) vs) x.of) incidences)
  points_are =
      let signs : Incidence → List Sign = λ x. (cell_at (map (point_entry planes) vs) x.of).signs in
      let list = map_signs incidences in record {
        each = All-from_members (IsEntry planes Point) (map (λ x. cell_at (map (point_entry planes) vs) x.of) incidences) (λ c c_in. let (x, x_in, e) = from_map (λ x. cell_at (map (point_entry planes) vs) x.of) incidences c c_in in let o = sorted.each x x_in in subst (IsEntry planes Point) (sym (e ∙ entry_of_incidence x o)) (point_of (vertex_of x) (vertex_in x o)));
        signs = record {
          ascending = subst (IsStrictlySortedBy signs_cmp) (sym list) (sorted_map incidence_cmp signs_cmp signs incidences sorted.ascending keeps);
          each = λ s c. from s (from_map signs incidences s (subst (λ l. Contains l s) list c));
          all = λ s h. subst (λ l. Contains l s) (sym list) (all s (point_has_vertex planes s apart h.0 h.1));
        };
      }
    where
      from : (s : List Sign) → (x : Incidence) × Contains incidences x × (s ≡ (cell_at (map (point_entry planes) vs) x.of).signs) → IsCell planes s × (kind_of s ≡ Point)
      from s (x, x_in, e) =
          let o = sorted.each x x_in in
          let v_in = vertex_in x o in
          let is : s ≡ signs_of planes (vertex_of x) = e ∙ signs_is x o in
          (record { d = vertex_of x; nonzero = vertex_some planes (vertex_of x) apart v_in; is = sym is }, ap kind_of is ∙ vertex_point planes (vertex_of x) apart v_in)

      all : (s : List Sign) → (v : V3) × Contains (vertices planes) v × (signs_of planes v ≡ s) → Contains (map (λ x. (cell_at (map (point_entry planes) vs) x.of).signs) incidences) s
      all s (v, v_in, e) =
          let (k, lt, at) = listed.all v v_in in
          let above : k < length (map (point_entry planes) vs) = omega (arith, lt, length-map vs (point_entry planes)) in
          let x : Incidence = incidence_of (cell_at (map (point_entry planes) vs) k).signs k in
          let x_in : Contains incidences x = sorted.all x (record { listed = above; is = refl }) in
          subst (Contains (map (λ x. (cell_at (map (point_entry planes) vs) x.of).signs) incidences)) (ap (λ c. c.signs) (get_or-map (point_entry planes) vs k v no_cell lt) ∙ ap (signs_of planes) at ∙ e)
          (Contains-map (λ x. (cell_at (map (point_entry planes) vs) x.of).signs) incidences x x_in)
