-- What a place among the pairs of planes has left.
use Rattle.std.proofs.Common.{◌≡◌, ◌≢◌, ◌↔◌, inl, inr, ⊎_elim, ℕ, ◌+◌, ◌*◌, ◌<◌, ◌≤◌, arith, ap, sym, subst, ◌∙◌, refl, Bool, List, [], ◌∷◌, ◌++◌, length, drop, Contains}
use Rattle.std.specs.Prelude.{IsTrue, Some, slice_get, slice_index, slice_index_or}
use Rattle.std.proofs.Common.{length-append, pos, neg_ℤ}
use Rattle.std.proofs.lemmas.List.{get_or_default, get_or-drop, get_or-take, length-drop, length-take-le}
use Rattle.std.proofs.lemmas.List.Elements.{Contains-append_cases, Contains-get_or}
use Rattle.std.proofs.lemmas.Option.{get_or_from_slice_get, slice_get-get_or}
use Rattle.staat_vec.specs.declared.vector.V3.{V3}
use Rattle.staat_vec.specs.Primitives.{primitive}
use Rattle.staat_vec.specs.Vectors.{cross, dot, negative, origin}
use Rattle.staat_vec.proofs.Order.{cancel_zero}
use Rattle.staat_vec.proofs.Primitives.{primitive-is}
use Rattle.staat_vec.proofs.VecRing.{dot_cross_left, dot_negative}
use Rattle.staat_model.proofs.CornerLemmas.{dot_multiple}
use Rattle.staat_vec.proofs.Unique.{Contains-cases, Contains-front, Contains-later, Contains-nothing, from_place}
use Rattle.staat_model.specs.declared.assembly.Part.{Part}
use Rattle.staat_model.specs.declared.set.PartSet.{PartSet}
use Rattle.staat_model.specs.Planes.{ArePlanes, axes, crossings, vertices}
use Rattle.staat_model.specs.Sets.{IsSubset}
use Rattle.staat_model.proofs.SetWords.{same_members}
use Rattle.staat_pairs.specs.Tables.{AreTablePlanes, Table, WasMadeFrom}
use Rattle.staat_pairs.proofs.DropLemmas.{drop_at}
use Rattle.staat_planes.specs.declared.pairs.PlanePairs.{PlanePairs}
use Rattle.staat_planes.specs.Tables.{IsPlaneOf}
use Rattle.staat_planes.specs.PairOrder.{AreRisingNumbers, IsPlaceIn, numbers_of, plane_at, planes_at, rest_of_row, row_plane, vertices_left}
use Rattle.staat_planes.proofs.UsedPlanes.{places_rise}
use Rattle.staat_planes.specs.SetPlanes.{ArePlanesIn}
use Rattle.staat_model.proofs.OneTable.{ArePlanes-unique}
use Rattle.staat_vec.proofs.ListLaws.{drop_end}

plane_of : (parts : List Part) (t : Table) (k : ℕ) (n : V3) → WasMadeFrom parts t → slice_get t.planes k ≡ Some n → IsPlaneOf parts t.of n
plane_of parts t k n made at =
    ⊎_elim {C = IsPlaneOf parts t.of n} (λ axis. inl axis) (λ other. inr (made.planes.others_are.each n other).0)
    (Contains-append_cases axes made.planes.others n (subst (λ ps. Contains ps n) made.planes.is (from_place t.planes k n at)))

-- all planes of the table are those of its whole set
pub whole_used : (parts : List Part) (t : Table) (w : PartSet) (k : ℕ) (n : V3) (r : Bool) → WasMadeFrom parts t → IsSubset w t.of → IsSubset t.of w → slice_get t.planes k ≡ Some n → IsTrue r → IsTrue r ↔ IsPlaneOf parts w n
whole_used parts t w k n r made within over at told =
    let same : t.of ≡ w = same_members t.of w over within in
    let is : IsPlaneOf parts w n = subst (λ (u : PartSet). IsPlaneOf parts u n) same (plane_of parts t k n made at) in
    (λ _. is, λ _. told)

-- ---- the first place

front : (planes : List V3) (ks : List ℕ) → crossings (slice_index_or planes (slice_index ks 0) origin) (planes_at planes (drop 1 ks)) ++ vertices (planes_at planes (drop 1 ks)) ≡ vertices (planes_at planes ks)
front planes [] = refl
front planes (k ∷ ks) = refl

pub first_vertices : (t : Table) (w : PartSet) (p : PlanePairs) → p.first ≡ 0 → p.second ≡ 1 → ArePlanesIn t w (planes_at t.planes (numbers_of p))
    → (parts : List Part) (planes : List V3) → WasMadeFrom parts t → ArePlanes parts w planes → vertices_left t.planes p ≡ vertices planes
first_vertices t w p first second in' parts planes made are =
    (λ i. crossings (slice_index_or t.planes (slice_index (numbers_of p) (first i)) origin) (planes_at t.planes (drop (second i) (numbers_of p))) ++ vertices (planes_at t.planes (drop (first i + 1) (numbers_of p))))
    ∙ (front t.planes (numbers_of p) ∙ ap vertices (ArePlanes-unique parts w (planes_at t.planes (numbers_of p)) planes (in'.are parts made) are))

-- ---- the next place

-- behind the last pair nothing is left
pub nothing_left : (planes : List V3) (ks : List ℕ) (i j : ℕ) → length ks ≤ j → length ks ≤ i + 1
    → crossings (slice_index_or planes (slice_index ks i) origin) (planes_at planes (drop j ks)) ++ vertices (planes_at planes (drop (i + 1) ks)) ≡ []
nothing_left planes ks i j le end = λ d. crossings (slice_index_or planes (slice_index ks i) origin) (planes_at planes (drop_end ks j le d)) ++ vertices (planes_at planes (drop_end ks (i + 1) end d))

-- ---- the numbers at a place

pub apart_at : (planes : List V3) (ks : List ℕ) (i j : ℕ) (g h : V3) → AreTablePlanes planes → AreRisingNumbers planes ks → i < j → j < length ks
    → slice_get planes (slice_index ks i) ≡ Some g → slice_get planes (slice_index ks j) ≡ Some h → cross g h ≢ origin
apart_at planes ks i j g h are numbers lt small eg eh = are.apart (slice_index ks i) (slice_index ks j) g h eg eh (λ e. let rise = places_rise ks i j numbers.ascending lt small in absurd (omega (arith, rise, e)))

module _ (planes : List V3) (p : PlanePairs) (place : IsPlaceIn planes p) where
  pub count_is : length (numbers_of p) ≡ p.count
  count_is = length-take-le p.count p.numbers (let room = place.room in let most = place.most in omega (arith, room, most))

  pub number_small : (i : ℕ) → i < p.count → slice_index p.numbers i < length planes
  number_small i lt = subst (λ k. k < length planes) (get_or-take p.count p.numbers i 0 lt) (place.numbers.small (slice_index (numbers_of p) i) (Contains-get_or (numbers_of p) i 0 (omega (arith, lt, count_is))))

  pub plane_used : (i : ℕ) (g : V3) → i < p.count → slice_get planes (slice_index p.numbers i) ≡ Some g → slice_get planes (slice_index (numbers_of p) i) ≡ Some g
  plane_used i g lt at = subst (λ k. slice_get planes k ≡ Some g) (sym (get_or-take p.count p.numbers i 0 lt)) at

  module _ (g h : V3) (some : p.second < p.count) (at_first : slice_get planes (slice_index p.numbers p.first) ≡ Some g) (at_second : slice_get planes (slice_index p.numbers p.second) ≡ Some h) where
    first : p.first < p.count
    first = let order = place.order in omega (arith, order, some)

    pub pair_apart : AreTablePlanes planes → cross g h ≢ origin
    pair_apart are = apart_at planes (numbers_of p) p.first p.second g h are place.numbers place.order (omega (arith, some, count_is)) (plane_used p.first g first at_first) (plane_used p.second h some at_second)

    -- a pair has the two directions in which its planes cross
    pub pair_left : vertices_left planes p ≡ primitive (cross g h) ∷ negative (primitive (cross g h)) ∷ vertices_left planes (record { numbers = p.numbers; count = p.count; first = p.first; second = p.second + 1 })
    pair_left =
        let later = vertices (planes_at planes (drop (p.first + 1) (numbers_of p))) in
        let eg = get_or_from_slice_get planes (slice_index (numbers_of p) p.first) g origin (plane_used p.first g first at_first) in
        let eh = get_or_from_slice_get planes (slice_index (numbers_of p) p.second) h origin (plane_used p.second h some at_second) in
        ap (λ l. crossings (row_plane planes p) (planes_at planes l) ++ later) (drop_at (numbers_of p) p.second (slice_index (numbers_of p) p.second) (slice_get-get_or (numbers_of p) p.second 0 (omega (arith, some, count_is))))
        ∙ (λ d. primitive (cross (eg d) (eh d)) ∷ negative (primitive (cross (eg d) (eh d))) ∷ (crossings (row_plane planes p) (planes_at planes (drop (p.second + 1) (numbers_of p))) ++ later))

-- ---- the vertices of a row

abbrev pub IsOn : V3 → V3 → Type 0
IsOn g d = dot g d ≡ pos 0

crossing_on : (g h : V3) → cross g h ≢ origin → IsOn g (primitive (cross g h))
crossing_on g h apart =
    let p = primitive-is (cross g h) apart in
    cancel_zero p.factor (dot g (primitive (cross g h))) p.positive (sym (dot_multiple g (cross g h) (primitive (cross g h)) p.factor p.multiple) ∙ dot_cross_left g h)

opposite_on : (g d : V3) → IsOn g d → IsOn g (negative d)
opposite_on g d on = dot_negative g d ∙ ap neg_ℤ on

pub on_row : (planes : List V3) (g : V3) (ns : List ℕ) → ((n : ℕ) → Contains ns n → cross g (slice_index_or planes n origin) ≢ origin)
    → (d : V3) → Contains (crossings g (planes_at planes ns)) d → IsOn g d
on_row planes g [] apart d c = absurd (Contains-nothing d c)
on_row planes g (n ∷ ns) apart d c =
    let h : V3 = slice_index_or planes n origin in
    let v : V3 = primitive (cross g h) in
    let here = crossing_on g h (apart n (Contains-front n ns)) in
    ⊎_elim {C = IsOn g d} (λ e. subst (IsOn g) (sym e) here)
    (λ later. ⊎_elim {C = IsOn g d} (λ e. subst (IsOn g) (sym e) (opposite_on g v here))
    (λ behind. on_row planes g ns (λ m c. apart m (Contains-later n ns m c)) d behind)
    (Contains-cases (negative v) (crossings g (planes_at planes ns)) d later))
    (Contains-cases v (negative v ∷ crossings g (planes_at planes ns)) d c)

-- each plane behind the place in a row crosses that of the row
pub apart_behind : (planes : List V3) (ks : List ℕ) (i j : ℕ) (g : V3) → AreTablePlanes planes → AreRisingNumbers planes ks → i < j
    → slice_get planes (slice_index ks i) ≡ Some g → (n : ℕ) → Contains (drop j ks) n → cross g (slice_index_or planes n origin) ≢ origin
apart_behind planes ks i j g are numbers lt eg n (k, small, at) =
    let long = length-drop j ks in
    let within : j + k < length ks = omega (arith, small, long) in
    let place : slice_index ks (j + k) ≡ n = get_or_default ks (j + k) 0 n within ∙ (sym (get_or-drop j ks k n) ∙ at) in
    let is : slice_get planes n ≡ Some (slice_index_or planes n origin) = slice_get-get_or planes n origin (numbers.small n (subst (Contains ks) place (Contains-get_or ks (j + k) 0 within))) in
    apart_at planes ks i (j + k) g (slice_index_or planes n origin) are numbers (omega (arith, lt)) within eg
    (subst (λ m. slice_get planes m ≡ Some (slice_index_or planes n origin)) (sym place) is)

-- ---- how many vertices there are

row_length : (planes : List V3) (g : V3) (ks : List ℕ) → length (crossings g (planes_at planes ks)) ≡ 2 * length ks
row_length planes g [] = refl
row_length planes g (k ∷ ks) = let rest = row_length planes g ks in omega (arith, rest)

few_vertices : (planes : List V3) (ks : List ℕ) → length ks ≤ 1024 → length (vertices (planes_at planes ks)) ≤ 2048 * length ks
few_vertices planes [] few = omega arith
few_vertices planes (k ∷ ks) few =
    let row = row_length planes (plane_at planes k) ks in
    let rest = few_vertices planes ks (omega (arith, few)) in
    omega (arith, row, rest, few, length-append (crossings (plane_at planes k) (planes_at planes ks)) (vertices (planes_at planes ks)))

pub few_left : (planes : List V3) (p : PlanePairs) → IsPlaceIn planes p → length (vertices_left planes p) ≤ 2099200
few_left planes p place =
    let ks = numbers_of p in
    let most = place.most in
    let long : length ks ≡ p.count = count_is planes p place in
    let row = row_length planes (row_plane planes p) (drop p.second ks) in
    let rest = few_vertices planes (drop (p.first + 1) ks) (omega (arith, long, most, length-drop (p.first + 1) ks)) in
    omega (arith, long, most, row, rest, length-drop p.second ks, length-drop (p.first + 1) ks, length-append (rest_of_row planes p) (vertices (planes_at planes (drop (p.first + 1) ks))))
