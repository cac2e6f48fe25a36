-- The boxes of the parts of a plan stand apart.
use Rattle.std.proofs.Common.{◌≡◌, ◌≢◌, ℕ, ◌≤◌, List, [], ◌∷◌, map, length}
use Rattle.std.proofs.Common.{All, Contains, ap, sym, subst, refl, ◌∙◌, arith, ◌⊎◌, inl, inr, ◌+ℤ◌}
use Rattle.std.proofs.Common.{◌*ℤ◌, ◌<ℤ◌, ◌≤ℤ◌, pos, ℤ}
use Rattle.std.specs.Int.{int_max, int_min}
use Rattle.std.specs.List.{fold}
use Rattle.std.proofs.lemmas.Int.{ints, fold-int_max_bounds, fold-int_max_reached, fold-int_min_bounds}
use Rattle.std.proofs.lemmas.Int.{fold-int_min_reached}
use Rattle.std.proofs.lemmas.List.Elements.{All-contains, All-cons, Contains-append_cases}
use Rattle.staat_vec.specs.declared.vector.V3.{V3}
use Rattle.staat_vec.specs.Vectors.{plus, times}
use Rattle.staat_model.specs.Plans.{Plan, leaf, split}
use Rattle.staat_explode.specs.declared.axis.Axis.{Axis}
use Rattle.staat_explode.specs.declared.axis.Axis.TheVariants.{X, Y, Z}
use Rattle.staat_explode.specs.declared.boxes.Bounds.{Bounds}
use Rattle.staat_explode.specs.declared.boxes.End.{End}
use Rattle.staat_explode.specs.declared.boxes.End.TheVariants.{High, Low}
use Rattle.staat_explode.specs.declared.shifted.Shifted.{Shifted}
use Rattle.staat_explode.specs.Apart.{AreParted, moved_box}
use Rattle.staat_explode.specs.Boxes.{IsBoxOf, box_of, by_component, component, further, furthest}
use Rattle.staat_explode.specs.Shifts.{ArePast, end_along, axis_of, box_at, extreme, moved_on}
use Rattle.staat_explode.specs.Shifts.{shifted_of, steps_apart}
use Rattle.staat_explode.specs.Sizes.{IsShiftable}
use Rattle.staat_explode.proofs.Stepping.{past}
use Rattle.staat_vec.proofs.Unique.{Contains-cases, Contains-nothing, Contains-front}
use Rattle.staat_vec.proofs.ListLaws.{Contains-map, Contains-from_map, Contains-there}

-- ---- the least and the greatest

-- the first number lies at least as far to the end as the second
abbrev IsAsFar : End → ℤ → ℤ → Type 0
IsAsFar Low y z = y ≤ℤ z
IsAsFar High y z = z ≤ℤ y

bounds : (end : End) (z : ℤ) (zs : List ℤ) → All (IsAsFar end (fold (further end) z zs)) (z ∷ zs)
bounds Low z zs = let h = fold-int_min_bounds z zs (fold int_min z zs) refl in
    All-cons (λ x. fold int_min z zs ≤ℤ x) z zs h.0 h.1
bounds High z zs = let h = fold-int_max_bounds z zs (fold int_max z zs) refl in
    All-cons (λ x. x ≤ℤ fold int_max z zs) z zs h.0 h.1

furthest_bounds : (end : End) (zs : List ℤ) (z : ℤ) → Contains zs z → IsAsFar end (furthest end zs) z
furthest_bounds end [] z h = absurd (Contains-nothing z h)
furthest_bounds end (y ∷ zs) z h =
    All-contains (IsAsFar end (fold (further end) y zs)) (y ∷ zs) z (bounds end y zs) h

extreme_bounds : (boxes : List Bounds) (axis : Axis) (end : End) (ps : List Shifted) (p : Shifted) → Contains ps p
    → IsAsFar end (extreme boxes axis end ps) (end_along boxes axis end p)
unfolding extreme
extreme_bounds boxes axis end ps p h = furthest_bounds end (map (end_along boxes axis end) ps) (end_along boxes axis end p)
    (Contains-map (end_along boxes axis end) ps p h)

-- ---- two parts

abbrev Parted : List Bounds → Shifted → Shifted → Type 0
Parted boxes x y = (axis : Axis)
    × ((end_along boxes axis High x <ℤ end_along boxes axis Low y)
    ⊎ (end_along boxes axis High y <ℤ end_along boxes axis Low x))

turned : (boxes : List Bounds) (x y : Shifted) → Parted boxes x y → Parted boxes y x
turned boxes x y (axis, inl h) = (axis, inr h)
turned boxes x y (axis, inr h) = (axis, inl h)

component-moved : (axis : Axis) (v d : V3) (m : ℕ) → component axis (plus v (times m d))
    ≡ component axis v +ℤ (pos m *ℤ component axis d)
component-moved X v d m = refl
component-moved Y v d m = refl
component-moved Z v d m = refl

along-moved : (boxes : List Bounds) (axis : Axis) (end : End) (m : ℕ) (d : V3) (p : Shifted)
    → end_along boxes axis end (moved_on m d p) ≡ end_along boxes axis end p +ℤ (pos m *ℤ component axis d)
along-moved boxes axis Low m d p =
    ap (λ z. component axis (box_at boxes p.part).low +ℤ z) (component-moved axis p.by d m) ∙ omega (arith, ints)
along-moved boxes axis High m d p =
    ap (λ z. component axis (box_at boxes p.part).high +ℤ z) (component-moved axis p.by d m) ∙ omega (arith, ints)

-- two parts that move alike stay parted
both_moved : (boxes : List Bounds) (m : ℕ) (d : V3) (x y : Shifted) → Parted boxes x y
    → Parted boxes (moved_on m d x) (moved_on m d y)
both_moved boxes m d x y (axis, inl h) =
    (axis, inl (rw (along-moved boxes axis High m d x, along-moved boxes axis Low m d y) (omega (arith, ints))))
both_moved boxes m d x y (axis, inr h) =
    (axis, inr (rw (along-moved boxes axis High m d y, along-moved boxes axis Low m d x) (omega (arith, ints))))

-- a moved part is past a resting one
across : (boxes : List Bounds) (d : V3) (ms rs : List Shifted) (m : ℕ) (x y : Shifted) → ArePast boxes d ms rs m
    → Contains ms x → Contains rs y → Parted boxes (moved_on m d x) y
across boxes d ms rs m x y (inl (up, h)) hx hy =
    let low = extreme_bounds boxes (axis_of d) Low ms x hx in
    let high = extreme_bounds boxes (axis_of d) High rs y hy in
    (axis_of d, inr (rw (along-moved boxes (axis_of d) Low m d x) (omega (arith, ints, h))))
across boxes d ms rs m x y (inr (down, h)) hx hy =
    let high = extreme_bounds boxes (axis_of d) High ms x hx in
    let low = extreme_bounds boxes (axis_of d) Low rs y hy in
    (axis_of d, inl (rw (along-moved boxes (axis_of d) High m d x) (omega (arith, ints, h))))

pub all_apart : (boxes : List Bounds) (n : ℕ) (plan : Plan) → IsShiftable n plan → (x y : Shifted)
    → Contains (shifted_of boxes plan) x → Contains (shifted_of boxes plan) y → x.part ≢ y.part
    → Parted boxes x y
all_apart boxes n (leaf p) h x y hx hy differ =
    absurd (elim (Contains-cases _ [] x hx) [
      | inl e ↦ elim (Contains-cases _ [] y hy) [ inl f ↦ differ (ap (λ (q : Shifted). q.part) (e ∙ sym f)) | inr k ↦ Contains-nothing y k ]
      | inr k ↦ Contains-nothing x k
    ])
all_apart boxes n (split d moved rest) h x y hx hy differ =
    let m = steps_apart boxes d (shifted_of boxes moved) (shifted_of boxes rest) in
    let beyond = past boxes d (shifted_of boxes moved) (shifted_of boxes rest) h.0 in
    let f = moved_on m d in
    elim (Contains-append_cases (map f (shifted_of boxes moved)) (shifted_of boxes rest) x hx) [
      | inl a ↦ let u =
          Contains-from_map f (shifted_of boxes moved) x a in elim (Contains-append_cases (map f (shifted_of boxes moved)) (shifted_of boxes rest) y hy) [
            | inl b ↦ let v = Contains-from_map f (shifted_of boxes moved) y b in
                let inner =
                all_apart boxes n moved h.1 u.0 v.0 u.1 v.1 (λ e. differ (ap (λ (q : Shifted). q.part) (sym u.2) ∙ e ∙ ap (λ (q : Shifted). q.part) v.2)) in
                subst (λ q. Parted boxes x q) v.2 (subst (λ q. Parted boxes q (f v.0)) u.2 (both_moved boxes m d u.0 v.0 inner))
            | inr b ↦ subst (λ q. Parted boxes q y) u.2 (across boxes d (shifted_of boxes moved) (shifted_of boxes rest) m u.0 y beyond u.1 b)
          ]
      | inr a ↦ elim (Contains-append_cases (map f (shifted_of boxes moved)) (shifted_of boxes rest) y hy) [
        | inl b ↦ let v =
            Contains-from_map f (shifted_of boxes moved) y b in turned boxes y x (subst (λ q. Parted boxes q x) v.2 (across boxes d (shifted_of boxes moved) (shifted_of boxes rest) m v.0 x beyond v.1 a))
        | inr b ↦ all_apart boxes n rest h.2 x y a b differ
      ]
    ]

-- ---- boxes

pub parted_boxes : (boxes : List Bounds) (x y : Shifted) → Parted boxes x y
    → AreParted (moved_box (box_at boxes x.part) x.by) (moved_box (box_at boxes y.part) y.by)
parted_boxes boxes x y (X, h) = (X, h)
parted_boxes boxes x y (Y, h) = (Y, h)
parted_boxes boxes x y (Z, h) = (Z, h)

-- ---- the box of points

furthest_there : (end : End) (z : ℤ) (zs : List ℤ) → Contains (z ∷ zs) (fold (further end) z zs)
furthest_there end z zs = elim (reached end) [
  | inl e ↦ subst (Contains (z ∷ zs)) (sym e) (Contains-front z zs)
  | inr h ↦ Contains-there z (fold (further end) z zs) zs h
]
  where
    reached : (end : End) → (fold (further end) z zs ≡ z) ⊎ Contains zs (fold (further end) z zs)
    reached Low = fold-int_min_reached z zs (fold int_min z zs) refl
    reached High = fold-int_max_reached z zs (fold int_max z zs) refl

component_by : (f : Axis → ℤ) (axis : Axis) → component axis (by_component f) ≡ f axis
component_by f X = refl
component_by f Y = refl
component_by f Z = refl

pub box_least : (points : List V3) → 1 ≤ length points → IsBoxOf points (box_of points)
unfolding box_of
box_least [] h = absurd (omega arith)
box_least (v ∷ vs) h = record {
  low = λ axis p k. subst (λ z. z ≤ℤ component axis p) (sym (component_by (λ a. furthest Low (map (component a) (v ∷ vs))) axis)) (furthest_bounds Low (map (component axis) (v ∷ vs)) (component axis p) (Contains-map (component axis) (v ∷ vs) p k));
  high = λ axis p k. subst (λ z. component axis p ≤ℤ z) (sym (component_by (λ a. furthest High (map (component a) (v ∷ vs))) axis)) (furthest_bounds High (map (component axis) (v ∷ vs)) (component axis p) (Contains-map (component axis) (v ∷ vs) p k));
  lowest = λ axis. subst (λ z. Contains (map (component axis) (v ∷ vs)) z) (sym (component_by (λ a. furthest Low (map (component a) (v ∷ vs))) axis)) (furthest_there Low (component axis v) (map (component axis) vs));
  highest = λ axis. subst (λ z. Contains (map (component axis) (v ∷ vs)) z) (sym (component_by (λ a. furthest High (map (component a) (v ∷ vs))) axis)) (furthest_there High (component axis v) (map (component axis) vs));
}
