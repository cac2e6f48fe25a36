-- The cells of the opposite directions: their signs, where they stand, and their incidences; and points at opposite vertices.
use Rattle.std.proofs.Common.{◌≡◌, ℤ, pos, negsuc, neg_ℤ, zero, suc, ◌⊎◌, inl, inr, ⊎_elim, ℕ, ◌+◌, ◌*◌, ◌-◌, ◌<◌, ◌≤◌, ◌↔◌, refl, sym, ap, subst, ◌∙◌, arith}
use Rattle.std.proofs.Common.{List, [], ◌∷◌, ◌++◌, length, get_or, map, reverse, take, drop, Contains, ◌/◌}
use Rattle.std.specs.Ordering.{nat_cmp, ordering_then}
use Rattle.std.proofs.lemmas.List.{drop-map, get_or-map, get_or-reverse, get_or-take, length-map, length-reverse, length-take-le, map-append, take-map, take_all, take_more}
use Rattle.staat_vec.specs.declared.vector.V3.{V3}
use Rattle.staat_vec.specs.declared.vector.Sign.{Sign}
use Rattle.staat_vec.specs.declared.vector.Sign.TheVariants.{Neg, Zero, Pos}
use Rattle.staat_vec.specs.Vectors.{dot, negative, origin, sign}
use Rattle.staat_vec.proofs.Naturals.{lt_or_le, same_or}
use Rattle.staat_vec.specs.Lists.{Lists}
use Rattle.staat_vec.proofs.Unique.{same_list}
use Rattle.staat_vec.proofs.VecRing.{dot_negative}
use Rattle.staat_vec.proofs.VectorLaws.{negative_some}
use Rattle.staat_model.specs.declared.tree.Kind.{Kind}
use Rattle.staat_model.specs.Cells.{AreCellsOf, CellEntry, IsBorder, IsCell, kind_by_count, kind_of, sign_place}
use Rattle.staat_model.specs.Cells.{signs_cmp, signs_of}
use Rattle.staat_model.proofs.CellLemmas.{zeros, zeros-cons}
use Rattle.staat_pairs.specs.Tables.{AreTablePlanes}
use Rattle.staat_cells.specs.declared.incidence.Incidence.{Incidence}
use Rattle.staat_cells.specs.declared.cell.Cell.{Cell}
use Rattle.staat_cells.specs.Compositions.{entry_of, no_cell}
use Rattle.staat_cells.specs.Mirrors.{lesser, mirror_sum, mirrored}
use Rattle.staat_cells.specs.Packing.{incidence_cmp, incidence_of, packed, packed_after}
use Rattle.staat_cells.specs.Stages.{GrewByAll, IsIncidence, cell_at, flipped, point_entry}
use Rattle.staat_cells.proofs.Grouping.{cell_length}
use Rattle.staat_cells.proofs.MadeUpCells.{entry_at}
use Rattle.staat_cells.proofs.Beside.{at_plane}
use Rattle.staat_cells.proofs.Growing.{Below}
use Rattle.staat_cells.proofs.ListedIncidences.{first_listed}
use Rattle.staat_cells.proofs.Mirrors.{IsMirrored, image_in, image_of, images_ascend, mirrors_listed, nat_mirror}
use Rattle.staat_cells.proofs.SignOrder.{signs_exact, signs_total}
use Rattle.staat_cells.proofs.TableRules.{holds_axes}
use Rattle.staat_cells.proofs.VertexSigns.{axes_zero, zero_turned}
use Rattle.staat_cells.proofs.Words.{incidence_order, place_small}

-- ---- flipped signs

sign_flipped : (a : ℤ) → sign (neg_ℤ a) ≡ flipped (sign a)
sign_flipped (pos zero) = refl
sign_flipped (pos (suc n)) = refl
sign_flipped (negsuc n) = refl

signs_flipped : (planes : List V3) (u : V3) → signs_of planes (negative u) ≡ map flipped (signs_of planes u)
signs_flipped [] u = refl
signs_flipped (n ∷ planes) u =
    let first : sign (dot n (negative u)) ≡ flipped (sign (dot n u)) = ap sign (dot_negative n u) ∙ sign_flipped (dot n u) in
    let others = signs_flipped planes u in
    λ i. first i ∷ others i

abbrev pub turned : List Sign → List Sign
turned = map flipped

flipped_twice : (x : Sign) → flipped (flipped x) ≡ x
flipped_twice Neg = refl
flipped_twice Zero = refl
flipped_twice Pos = refl

pub turned_twice : (s : List Sign) → turned (turned s) ≡ s
turned_twice [] = refl
turned_twice (x ∷ s) = λ i. flipped_twice x i ∷ turned_twice s i

place_flipped : (x : Sign) → sign_place (flipped x) ≡ 2 - sign_place x
place_flipped Neg = refl
place_flipped Zero = refl
place_flipped Pos = refl

turned_order : (s t : List Sign) → length s ≡ length t → signs_cmp (turned s) (turned t) ≡ signs_cmp t s
turned_order [] [] e = refl
turned_order [] (y ∷ t) e = absurd (omega arith)
turned_order (x ∷ s) [] e = absurd (omega arith)
turned_order (x ∷ s) (y ∷ t) e =
    let first : nat_cmp (sign_place (flipped x)) (sign_place (flipped y)) ≡ nat_cmp (sign_place y) (sign_place x) =
    (λ i. nat_cmp (place_flipped x i) (place_flipped y i)) ∙ nat_mirror 2 (sign_place x) (sign_place y) (place_small x) (place_small y) in
    let rest = turned_order s t (omega arith) in
    λ i. ordering_then (first i) (rest i)

zeros_turned : (s : List Sign) → zeros (turned s) ≡ zeros s
zeros_turned [] = refl
zeros_turned (Neg ∷ s) = zeros_turned s
zeros_turned (Zero ∷ s) = zeros-cons Zero (turned s) ∙ ap (λ n. 1 + n) (zeros_turned s) ∙ sym (zeros-cons Zero s)
zeros_turned (Pos ∷ s) = zeros_turned s

border_turned : (f s : List Sign) → IsBorder f s → IsBorder (turned f) (turned s)
border_turned [] [] b = b
border_turned [] (t ∷ s) b = b
border_turned (g ∷ f) [] b = b
border_turned (g ∷ f) (t ∷ s) (e, b) =
    (⊎_elim (λ same. inl (ap flipped same)) (λ zero. inr (ap flipped zero)) e, border_turned f s b)

-- ---- the numbers of both

packed_turned : (a b : ℕ) (s : List Sign) → packed_after a s + packed_after b (turned s) ≡ packed_after (a + b) (map (λ x. Pos) s)
packed_turned a b [] = refl
packed_turned a b (x ∷ s) =
    let e : a * 4 + sign_place x + (b * 4 + sign_place (flipped x)) ≡ (a + b) * 4 + 2 = omega (arith, place_flipped x, place_small x) in
    packed_turned (a * 4 + sign_place x) (b * 4 + sign_place (flipped x)) s ∙ ap (λ n. packed_after n (map (λ x. Pos) s)) e

all_positive : (planes : List V3) (s : List Sign) → length s ≡ length planes → map (λ (x : Sign). Pos) s ≡ map (λ (n : V3). Pos) planes
all_positive [] [] e = refl
all_positive [] (x ∷ s) e = absurd (omega arith)
all_positive (n ∷ planes) [] e = absurd (omega arith)
all_positive (n ∷ planes) (x ∷ s) e = let rest = all_positive planes s (omega arith) in λ i. Pos ∷ rest i

part_of : {X : Type 0} (f : X → Sign) (n : ℕ) (s : List X) → take 64 (drop n (map f s)) ≡ map f (take 64 (drop n s))
part_of f n s = ap (take 64) (drop-map f n s) ∙ take-map f 64 (drop n s)

word_turned : (planes : List V3) (s : List Sign) (n : ℕ) → length s ≡ length planes
    → packed (take 64 (drop n s)) + packed (take 64 (drop n (turned s))) ≡ packed (take 64 (drop n (map (λ (p : V3). Pos) planes)))
word_turned planes s n long =
    ap (λ t. packed (take 64 (drop n s)) + packed t) (part_of flipped n s) ∙ packed_turned 0 0 (take 64 (drop n s))
    ∙ ap packed (sym (part_of (λ x. Pos) n s) ∙ ap (λ l. take 64 (drop n l)) (all_positive planes s long))

left : (x y z : ℕ) → x + y ≡ z → z - x ≡ y
left x y z e = omega (arith, e)

incidence_mirrored : (planes : List V3) (count k : ℕ) (s : List Sign) → length s ≡ length planes
    → mirrored (mirror_sum planes count) (incidence_of s k) ≡ incidence_of (turned s) (count - 1 - k)
incidence_mirrored planes count k s long = λ i. record {
  a = left _ _ _ (word_turned planes s 0 long) i;
  b = left _ _ _ (word_turned planes s 64 long) i;
  c = left _ _ _ (word_turned planes s 128 long) i;
  d = left _ _ _ (word_turned planes s 192 long) i;
  of = count - 1 - k;
}

-- ---- where they stand

cell_turned : (planes : List V3) (s : List Sign) → IsCell planes s → IsCell planes (turned s)
cell_turned planes s cell = record { d = negative cell.d; nonzero = negative_some cell.d cell.nonzero; is = signs_flipped planes cell.d ∙ ap turned cell.is }

kind_turned : (s : List Sign) → kind_of (turned s) ≡ kind_of s
kind_turned s = ap kind_by_count (zeros_turned s)

module _ (planes : List V3) (are : AreTablePlanes planes) where
  never_same : (s : List Sign) → IsCell planes s → turned s ≡ s → ⊥
  never_same s cell e =
      let d = cell.d in
      let same : signs_of planes (negative d) ≡ signs_of planes d = signs_flipped planes d ∙ ap turned cell.is ∙ e ∙ sym cell.is in
      cell.nonzero (axes_zero planes d (holds_axes planes are) (λ g c. zero_turned (dot g (negative d)) (dot g d)
      (dot_negative g d) (at_plane (λ n. sign (dot n (negative d))) (λ n. sign (dot n d)) planes g same c)))

  module _ (kind : Kind) (cells : List CellEntry) (listed : AreCellsOf planes kind cells) where
    abbrev signs : List (List Sign)
    signs = map (λ (c : CellEntry). c.signs) cells

    turned_in : (s : List Sign) → Contains signs s → Contains signs (turned s)
    turned_in s c =
        let (cell, by_count) = listed.signs.each s c in
        listed.signs.all (turned s) (cell_turned planes s cell, kind_turned s ∙ by_count)

    signs_mirrored : signs ≡ map turned (reverse signs)
    signs_mirrored = same_list signs_cmp signs_total signs_exact signs (map turned (reverse signs)) listed.signs.ascending
        (images_ascend turned signs_cmp signs listed.signs.ascending (λ s t s_in t_in e. turned_order t s (long t t_in ∙ sym (long s s_in)) ∙ e))
        (λ s c. subst (Contains (map turned (reverse signs))) (turned_twice s) (image_in turned signs (turned s) (turned_in s c)))
        (λ s c. let (t, t_in, e) = image_of turned signs s c in subst (Contains signs) e (turned_in t t_in))
      where
        long : (s : List Sign) → Contains signs s → length s ≡ length planes
        long s c = cell_length planes s (listed.signs.each s c).0

    pub opposite_at : (k : ℕ) → k < length cells → (cell_at cells (length cells - 1 - k)).signs ≡ turned (cell_at cells k).signs
    opposite_at k lt =
        let of = λ (c : CellEntry). c.signs in
        let m = length cells - 1 - k in
        let n = length-map cells of in
        let r = length-reverse signs in
        let back : length signs - 1 - m ≡ k = omega (arith, lt, n) in
        sym (get_or-map of cells m no_cell [] (omega (arith, lt))) ∙ ap (λ l. get_or l m []) signs_mirrored
        ∙ get_or-map turned (reverse signs) m [] [] (omega (arith, lt, n, r))
        ∙ ap turned (get_or-reverse signs m [] (omega (arith, lt, n)) ∙ ap (λ j. get_or signs j []) back
        ∙ get_or-map of cells k no_cell [] lt)

    half_long : (h : ℕ) → h ≡ length cells / 2 → length cells ≡ 2 * h
    half_long h is = elim (same_or (length cells) (2 * h + 1)) [
      | inl odd ↦
          let here : length cells - 1 - h ≡ h = omega (arith, odd) in
          absurd (never_same (cell_at cells h).signs (entry_at planes kind cells listed h (omega (arith, odd))).cell
          (sym (opposite_at h (omega (arith, odd))) ∙ ap (λ m. (cell_at cells m).signs) here))
      | inr other ↦ omega (arith, is, other)
    ]

    -- ---- their incidences

    module _ (upper : Kind) (few : length planes ≤ 256) where
      abbrev P : Incidence → Type 0
      P = IsIncidence planes upper cells

      abbrev image : Incidence → Incidence
      image = mirrored (mirror_sum planes (length cells))

      long : (x : Incidence) (s : P x) → length s.signs ≡ length planes
      long x s = cell_length planes s.signs s.under.cell

      image_is : (x : Incidence) (s : P x) → image x ≡ incidence_of (turned s.signs) (length cells - 1 - x.of)
      image_is x s = ap image s.is ∙ incidence_mirrored planes (length cells) x.of s.signs (long x s)

      image_has : (x : Incidence) → P x → P (image x)
      image_has x s =
          let u = s.under in
          let border = subst (λ f. IsBorder f (turned s.signs)) (sym (opposite_at x.of u.listed)) (border_turned (cell_at cells x.of).signs s.signs u.border) in
          record {
            signs = turned s.signs;
            under = record { cell = cell_turned planes s.signs u.cell; by_count = kind_turned s.signs ∙ u.by_count; listed = omega (arith, u.listed); border = border };
            is = image_is x s;
          }

      turns : (x y : Incidence) → P x → P y → incidence_cmp (image x) (image y) ≡ incidence_cmp y x
      turns x y s t =
          let same = long x s ∙ sym (long y t) in
          (λ i. incidence_cmp (image_is x s i) (image_is y t i))
          ∙ incidence_order (turned s.signs) (turned t.signs) (length cells - 1 - x.of) (length cells - 1 - y.of)
          (length-map s.signs flipped ∙ same ∙ sym (length-map t.signs flipped)) (omega (arith, length-map s.signs flipped, long x s, few))
          ∙ (λ i. ordering_then (turned_order s.signs t.signs same i)
          (nat_mirror (length cells - 1) x.of y.of (omega (arith, s.under.listed)) (omega (arith, t.under.listed)) i))
          ∙ sym (incidence_order t.signs s.signs y.of x.of (sym same) (omega (arith, long y t, few)))
          ∙ (λ i. incidence_cmp (sym t.is i) (sym s.is i))

      -- all incidences, from those of the first half of the cells
      pub all_listed : (F : Incidence → ℕ → Type 0) (found half : List Incidence) (h count : ℕ) (sum : Incidence) → count ≡ length cells
          → h ≡ count / 2 → sum ≡ mirror_sum planes count → GrewByAll (λ x. Below (F x) h) [] found
          → ((x : Incidence) (k : ℕ) → F x k → x.of ≡ k) → ((x : Incidence) → Below (F x) (length cells) ↔ P x)
          → Lists incidence_cmp (Contains (map (lesser sum) found)) half → Lists incidence_cmp P (half ++ map (mirrored sum) (reverse half))
      all_listed F found half h count sum count_is h_is sum_is grew of all =
          subst (λ t. Lists incidence_cmp (Contains (map (lesser t) found)) half → Lists incidence_cmp P (half ++ map (mirrored t) (reverse half)))
          (sym (sum_is ∙ ap (mirror_sum planes) count_is))
          (mirrors_listed (mirror_sum planes (length cells)) P mirrors turns found half (λ x c. ((found_is x).0 c).0) one)
        where
          even : length cells ≡ 2 * h
          even = half_long h (h_is ∙ ap (λ n. n / 2) count_is)

          found_is : (x : Incidence) → Contains found x ↔ (P x × (x.of < h))
          found_is = first_listed P F found h (length cells) (omega (arith, even)) grew all of

          mirrors : (x : Incidence) → P x → IsMirrored (mirror_sum planes (length cells)) P x
          mirrors x s =
              let lt = s.under.listed in
              let there : length cells - 1 - (length cells - 1 - x.of) ≡ x.of = omega (arith, lt) in
              record {
                image = image_has x s;
                back = ap image (image_is x s) ∙ incidence_mirrored planes (length cells) (length cells - 1 - x.of) (turned s.signs)
                    (length-map s.signs flipped ∙ long x s) ∙ (λ i. incidence_of (turned_twice s.signs i) (there i)) ∙ sym s.is;
                other = λ e. let equal = ap (λ (y : Incidence). y.of) e in omega (arith, equal, lt, even);
              }

          one : (x : Incidence) → P x → Contains found x ⊎ Contains found (image x)
          one x s = elim (lt_or_le x.of h) [
            | inl early ↦ inl ((found_is x).1 (s, early))
            | inr late ↦ inr ((found_is (image x)).1 (image_has x s, omega (arith, late, s.under.listed, even)))
          ]

-- ---- points

-- the points are those at the first vertices
abbrev pub ArePointsAt : List V3 → List V3 → ℕ → List Cell → Type 0
ArePointsAt planes vertices k cells = map entry_of cells ≡ map (point_entry planes) (take k vertices)

point_at : (planes vertices : List V3) (cells : List Cell) (k m : ℕ) (point : Cell) → k ≤ length vertices → length cells ≡ k
    → m < k → ArePointsAt planes vertices k cells → point ≡ get_or cells m point
    → entry_of point ≡ point_entry planes (get_or vertices m origin)
point_at planes vertices cells k m point le long lt are is =
    let taken : m < length (take k vertices) = let e = length-take-le k vertices le in omega (arith, e, lt) in
    ap entry_of is ∙ sym (get_or-map entry_of cells m point no_cell (omega (arith, long, lt))) ∙ ap (λ l. get_or l m no_cell) are
    ∙ get_or-map (point_entry planes) (take k vertices) m origin no_cell taken
    ∙ ap (point_entry planes) (get_or-take k vertices m origin lt)

pub opposite_is : (planes vertices : List V3) (cells : List Cell) (k m : ℕ) (point : Cell) (u v : V3) → k ≤ length vertices
    → length cells ≡ k → m < k → ArePointsAt planes vertices k cells → point ≡ get_or cells m point
    → u ≡ negative (get_or vertices m origin) → u ≡ v → map flipped point.signs ≡ signs_of planes v
opposite_is planes vertices cells k m point u v le long lt are is u_is same =
    ap (λ (e : CellEntry). map flipped e.signs) (point_at planes vertices cells k m point le long lt are is)
    ∙ sym (signs_flipped planes (get_or vertices m origin)) ∙ ap (signs_of planes) (sym u_is ∙ same)

pub points_more : (planes vertices : List V3) (k : ℕ) (old new : List Cell) (cell : Cell) → k < length vertices
    → ArePointsAt planes vertices k old → entry_of cell ≡ point_entry planes (get_or vertices k origin)
    → new ≡ old ++ cell ∷ [] → ArePointsAt planes vertices (k + 1) new
points_more planes vertices k old new cell lt are one is =
    ap (map entry_of) is ∙ map-append entry_of old (cell ∷ []) ∙ (λ i. are i ++ one i ∷ [])
    ∙ sym (map-append (point_entry planes) (take k vertices) (get_or vertices k origin ∷ []))
    ∙ ap (map (point_entry planes)) (sym (take_more vertices k origin lt))

pub points_all : (planes vertices : List V3) (k : ℕ) (cells : List Cell) → length vertices ≤ k
    → ArePointsAt planes vertices k cells → map entry_of cells ≡ map (point_entry planes) vertices
points_all planes vertices k cells le are = are ∙ ap (map (point_entry planes)) (take_all k vertices le)
