-- The half turn from the first vertex of a circle, and entries that are put in their order on it.
use Rattle.std.proofs.Common.{◌≡◌, ◌≢◌, ◌⊎◌, ◌↔◌, inl, inr, ⊎_elim, ℕ, zero, suc, ◌+◌, ◌<◌, Bool, true, false, not, arith, ap, sym, subst, ◌∙◌, refl, List, [], ◌∷◌, ◌++◌, get_or, length, All, Contains, ℤ, pos, neg_ℤ, ◌<ℤ◌, ◌-◌, ◌≤◌}
use Rattle.std.specs.Prelude.{IsPermutation, Some, slice_get}
use Rattle.std.proofs.lemmas.Int.{ints}
use Rattle.std.proofs.lemmas.List.Elements.{Contains-append_left, Contains-get_or, Contains-push, Contains-push_cases}
use Rattle.std.proofs.lemmas.List.Sorted.{Contains-permutation, IsPermutation-sym, IsPermutation-insert}
use Rattle.std.proofs.lemmas.Option.{get_or_from_slice_get, slice_get-get_or, slice_get_within}
use Rattle.staat_vec.specs.declared.vector.V3.{V3}
use Rattle.staat_vec.specs.Primitives.{content, primitive}
use Rattle.staat_vec.specs.Vectors.{cross, det, dot, negative, origin, sign}
use Rattle.staat_vec.proofs.Canons.{negative-negative}
use Rattle.staat_vec.proofs.Integers.{zero_not_positive, zero_not_negative}
use Rattle.staat_vec.proofs.Naturals.{lt_one_more_cases, le_from_not_lt, lt_from_le, same_or, trichotomy}
use Rattle.staat_vec.proofs.Primitives.{primitive-is, primitive-negative}
use Rattle.staat_vec.proofs.Ring.{opp, ring}
use Rattle.staat_vec.proofs.Signs.{positive_sign, sign_positive, times_sign, zero_sign}
use Rattle.staat_vec.proofs.VecRing.{crossE, detE, dot_cross_left, negativeE, ring3, same_vector, v0, v1, v2, values, dot_scale, dot_comm}
use Rattle.staat_vec.proofs.VectorLaws.{cross_origin, det_dot, some_square, det_back}
use Rattle.staat_model.proofs.Members.{All-from_members}
use Rattle.staat_model.specs.Circles.{axis_beside}
use Rattle.staat_model.specs.Planes.{axes}
use Rattle.staat_pairs.specs.Tables.{AreTablePlanes}
use Rattle.staat_ring.specs.declared.entry.Entry.{Entry}
use Rattle.staat_ring.specs.Builds.{AreUpper, IsUpper, IsUpperEntry, ray}
use Rattle.staat_ring.specs.Order.{HasEntryOfPlane, IsTransitive, CrossesBefore, facet_of, order_det, AreInOrder, IsBreak, IsInserted, IsOrderOf, Rises, entry_at, no_entry}
use Rattle.staat_ring.specs.Rings.{facet_by}
use Rattle.staat_planes.specs.PairOrder.{plane_at}
use Rattle.staat_ring.proofs.Steps.{IsPoint, same_ray, three, content_divides, side_is, primitive_on, turn_back, turn_negative_right, turn_same, turn_trans, turn}
use Rattle.std.specs.List.{insert}
use Rattle.std.specs.List.Sorted.{IsStrictlySortedBy}
use Rattle.std.specs.Ordering.{nat_cmp}
use Rattle.std.proofs.lemmas.List.{get_or_default}
use Rattle.std.proofs.lemmas.List.Edits.{get_or-insert_above, get_or-insert_at, get_or-insert_below, length-insert}
use Rattle.staat_vec.specs.Lists.{Lists}
use Rattle.staat_vec.proofs.Comparisons.{sorted_push}
use Rattle.staat_vec.proofs.Unique.{Contains-cases, Contains-front, Contains-later, Contains-nothing}
use Rattle.staat_planes.proofs.Passing.{not_both}

positive_by : (a b : ℤ) → sign a ≡ sign b → pos 0 <ℤ b → pos 0 <ℤ a
positive_by a b e h = sign_positive a (e ∙ positive_sign b h)

zero_by : (a b : ℤ) → sign a ≡ sign b → b ≡ pos 0 → a ≡ pos 0
zero_by a b e h = zero_sign a (e ∙ ap sign h)

-- ---- a plane with a negative normal

det_negative : (g a b : V3) → det g a (negative b) ≡ neg_ℤ (det g a b)
det_negative g a b = ring (values (g ∷ a ∷ b ∷ []) []) (detE v0 v1 (negativeE v2)) (opp (detE v0 v1 v2)) tt

-- on the line of b, whichever way b is turned
pub flat_facet : (g a b : V3) (t : Bool) → det g a b ≡ pos 0 → det g a (facet_by t b) ≡ pos 0
flat_facet g a b false z = z
flat_facet g a b true z = det_negative g a b ∙ ap neg_ℤ z

pub negative_ahead : (g a b : V3) → det g a b <ℤ pos 0 → pos 0 <ℤ det g a (negative b)
negative_ahead g a b h = let e = det_negative g a b in omega (arith, ints)

cross_negative : (g h : V3) → cross g (negative h) ≡ negative (cross g h)
cross_negative g h = ring3 (values (g ∷ h ∷ []) []) (crossE v0 (negativeE v1)) (negativeE (crossE v0 v1)) (tt, tt, tt)

pub ray_negative : (g h : V3) → ray g (negative h) ≡ negative (ray g h)
ray_negative g h = ap primitive (cross_negative g h) ∙ primitive-negative (cross g h)

-- ---- the vertex in which two planes cross

pub some_normal : (g h : V3) → cross g h ≢ origin → pos 0 <ℤ dot g g
some_normal g h some = some_square g (λ e. some (ap (λ y. cross y h) e ∙ cross_origin h))

is_point : (g h : V3) → cross g h ≢ origin → IsPoint g (ray g h)
is_point g h some = record { on = primitive_on g (cross g h) (dot_cross_left g h) some; primitive = (primitive-is (cross g h) some).primitive }

-- the order of two vertices on the circle of g is the sign of the determinant of the three normals
order_is : (g a b : V3) → cross g a ≢ origin → cross g b ≢ origin → sign (turn g (ray g a) (ray g b)) ≡ sign (det g a b)
order_is g a b sa sb =
    let (some, is) = content_divides (cross g a) sa in
    side_is g b (ray g a) (some_normal g a sa) (is_point g a sa).on sb ∙ sym (times_sign (content (cross g a)) (dot b (ray g a)) some)
    ∙ ap sign (sym (ap (dot b) is ∙ dot_scale (pos (content (cross g a))) b (ray g a)) ∙ dot_comm b (cross g a) ∙ sym (det_dot g a b))

pub upper_flat : (g axis h : V3) (b : Bool) → cross g axis ≢ origin → cross g h ≢ origin → det g axis h ≡ pos 0 → ((b ≡ true) ↔ (ray g h ≡ ray g axis)) → IsUpper g axis (facet_by (not b) h)
upper_flat g axis h true sa sh z same = inr (same.0 refl)
upper_flat g axis h false sa sh z same =
    let gg = some_normal g axis sa in
    let a = is_point g axis sa in
    let b = is_point g h sh in
    inr (⊎_elim {C = ray g (negative h) ≡ ray g axis} (λ e. absurd (off (same.1 (sym e)))) (λ e. ray_negative g h ∙ sym e)
    (same_ray g (ray g axis) (ray g h) gg a.on b.on a.primitive b.primitive (zero_by (turn g (ray g axis) (ray g h)) (det g axis h) (order_is g axis h sa sh) z)))
  where
    off : false ≡ true → ⊥
    off e = cc

-- ---- the order of vertices on the half turn from s

module _ (g s : V3) (gg : pos 0 <ℤ dot g g) where
  pub record IsOnHalf (v : V3) : Type 0 where
    pub point : IsPoint g v
    pub from : (pos 0 <ℤ turn g s v) ⊎ (v ≡ s)

  -- none comes before the first
  pub not_before : (v : V3) → IsOnHalf v → pos 0 <ℤ turn g v s → ⊥
  not_before v o h = ⊎_elim {C = ⊥} (λ a. (let b = turn_back g v s in omega (arith, ints))) (λ e. zero_not_positive (turn g v s) (ap (λ x. turn g x s) e ∙ turn_same g s) h) o.from

  later : (v w : V3) → IsOnHalf v → IsOnHalf w → pos 0 <ℤ turn g v w → pos 0 <ℤ turn g s w
  later v w ov ow h = ⊎_elim {C = pos 0 <ℤ turn g s w} (λ a. a) (λ e. absurd (not_before v ov (subst (λ x. pos 0 <ℤ turn g v x) e h))) ow.from

  pub ahead_trans : (u v w : V3) → IsOnHalf u → IsOnHalf v → IsOnHalf w → pos 0 <ℤ turn g u v → pos 0 <ℤ turn g v w → pos 0 <ℤ turn g u w
  ahead_trans u v w ou ov ow p q =
      let sw = later v w ov ow q in
      ⊎_elim {C = pos 0 <ℤ turn g u w} (λ a. turn_trans g s u v w a (later u v ou ov p) sw p q) (λ e. subst (λ x. pos 0 <ℤ turn g x w) (sym e) sw) ou.from

  -- vertices with no turn between them are the same
  pub same_vertex : (v w : V3) → IsOnHalf v → IsOnHalf w → turn g v w ≡ pos 0 → v ≡ w
  same_vertex v w ov ow z = ⊎_elim {C = v ≡ w} (λ e. e) (λ e. by e ov.from ow.from) (same_ray g v w gg ov.point.on ow.point.on ov.point.primitive ow.point.primitive z)
    where
      at_start : (x : V3) → x ≡ s → turn g s x ≡ pos 0
      at_start x e = ap (turn g s) e ∙ turn_same g s

      by : v ≡ negative w → (pos 0 <ℤ turn g s v) ⊎ (v ≡ s) → (pos 0 <ℤ turn g s w) ⊎ (w ≡ s) → v ≡ w
      by e (inl a) (inl b) = let t = ap (turn g s) e ∙ turn_negative_right g s w in absurd (omega (arith, ints, a, b, t))
      by e (inl a) (inr b) = let t = ap (turn g s) e ∙ turn_negative_right g s w in absurd (omega (arith, ints, a, at_start w b, t))
      by e (inr a) (inl b) = let t = ap (turn g s) e ∙ turn_negative_right g s w in absurd (omega (arith, ints, at_start v a, b, t))
      by e (inr a) (inr b) = a ∙ sym b

-- ---- the order of entries

-- where the plane of an entry crosses that of g
abbrev pub vertex : List V3 → V3 → Entry → V3
vertex planes g e = ray g (facet_of planes e)

-- the vertex of e comes before that of f, or is the same, and the plane of e is less
abbrev pub Precedes : List V3 → V3 → Entry → Entry → Type 0
Precedes planes g e f = (pos 0 <ℤ turn g (vertex planes g e) (vertex planes g f)) ⊎ ((vertex planes g e ≡ vertex planes g f) × (e.plane < f.plane))

pub axis_differs : (c : ℕ) → axis_beside c ≢ c
axis_differs zero e = absurd (omega (arith, e))
axis_differs (suc c) e = absurd (omega (arith, e))

module _ (planes : List V3) (rules : AreTablePlanes planes) (c : ℕ) (g axis : V3) (gi : slice_get planes c ≡ Some g) (ai : slice_get planes (axis_beside c) ≡ Some axis) where
  abbrev U : Entry → Type 0
  U e = IsUpperEntry planes c g axis e

  pub axis_apart : cross g axis ≢ origin
  axis_apart = rules.apart c (axis_beside c) g axis gi ai (λ e. axis_differs c (sym e))

  abbrev gg : pos 0 <ℤ dot g g
  gg = some_normal g axis axis_apart

  pub apart : (e : Entry) → U e → cross g (facet_of planes e) ≢ origin
  apart e u = by e.turned (rules.apart c e.plane g (plane_at planes e.plane) gi (slice_get-get_or planes e.plane origin u.within) (λ q. u.different (sym q)))
    where
      by : (t : Bool) → cross g (plane_at planes e.plane) ≢ origin → cross g (facet_by t (plane_at planes e.plane)) ≢ origin
      by false some = some
      by true some = λ z. some (sym (negative-negative (cross g (plane_at planes e.plane))) ∙ ap negative (sym (cross_negative g (plane_at planes e.plane)) ∙ z))

  pub on_half : (e : Entry) → U e → IsOnHalf g (ray g axis) gg (vertex planes g e)
  on_half e u = record {
    point = is_point g (facet_of planes e) (apart e u);
    from = ⊎_elim {C = (pos 0 <ℤ turn g (ray g axis) (vertex planes g e)) ⊎ (vertex planes g e ≡ ray g axis)}
        (λ h. inl (positive_by (turn g (ray g axis) (vertex planes g e)) (det g axis (facet_of planes e)) (order_is g axis (facet_of planes e) axis_apart (apart e u)) h)) (λ q. inr q) u.upper;
  }

  -- the vertex of the axis is the first
  pub axis_first : (e : Entry) → U e → det g axis (facet_of planes e) ≡ pos 0 → vertex planes g e ≡ ray g axis
  axis_first e u z = sym (same_vertex g (ray g axis) gg (ray g axis) (vertex planes g e) (record { point = is_point g axis axis_apart; from = inr refl }) (on_half e u)
      (zero_by (turn g (ray g axis) (vertex planes g e)) (det g axis (facet_of planes e)) (order_is g axis (facet_of planes e) axis_apart (apart e u)) z))

  module _ (e f : Entry) (ue : U e) (uf : U f) where
    sign_is : sign (turn g (vertex planes g e) (vertex planes g f)) ≡ sign (order_det planes g e f)
    sign_is = order_is g (facet_of planes e) (facet_of planes f) (apart e ue) (apart f uf)

    -- entries that cross on one line do so in one vertex
    pub one_vertex : (order_det planes g e f ≡ pos 0) ↔ (vertex planes g e ≡ vertex planes g f)
    one_vertex = (
      λ z. same_vertex g (ray g axis) gg (vertex planes g e) (vertex planes g f) (on_half e ue) (on_half f uf) (zero_by (turn g (vertex planes g e) (vertex planes g f)) (order_det planes g e f) sign_is z),
      λ q. zero_by (order_det planes g e f) (turn g (vertex planes g e) (vertex planes g f)) (sym sign_is) (ap (λ x. turn g x (vertex planes g f)) q ∙ turn_same g (vertex planes g f)),
    )

    pub precedes : CrossesBefore planes g e f ↔ Precedes planes g e f
    precedes = (
      ⊎_elim {C = Precedes planes g e f} (λ h. inl (positive_by (turn g (vertex planes g e) (vertex planes g f)) (order_det planes g e f) sign_is h)) (λ h. inr (one_vertex.0 h.0, h.1)),
      ⊎_elim {C = CrossesBefore planes g e f} (λ h. inl (positive_by (order_det planes g e f) (turn g (vertex planes g e) (vertex planes g f)) (sym sign_is) h)) (λ h. inr (one_vertex.1 h.0, h.1)),
    )

  pub transitive : (es : List Entry) → ((e : Entry) → Contains es e → U e) → IsTransitive planes g es
  transitive es each a b d ca cb cd ab bd =
      (precedes a d (each a ca) (each d cd)).1 (join (each a ca) (each b cb) (each d cd) ((precedes a b (each a ca) (each b cb)).0 ab) ((precedes b d (each b cb) (each d cd)).0 bd))
    where
      join : U a → U b → U d → Precedes planes g a b → Precedes planes g b d → Precedes planes g a d
      join ua ub ud (inl p) (inl q) = inl (ahead_trans g (ray g axis) gg (vertex planes g a) (vertex planes g b) (vertex planes g d) (on_half a ua) (on_half b ub) (on_half d ud) p q)
      join ua ub ud (inl p) (inr q) = inl (subst (λ x. pos 0 <ℤ turn g (vertex planes g a) x) q.0 p)
      join ua ub ud (inr p) (inl q) = inl (subst (λ x. pos 0 <ℤ turn g x (vertex planes g d)) (sym p.0) q)
      join ua ub ud (inr p) (inr q) = inr (p.0 ∙ q.0, omega (arith, p.1, q.1))

-- ---- the axes

abbrev pub unit : ℕ → V3
unit k = get_or axes k origin

-- only the origin is on the planes of all axes
pub on_all_axes : (u : V3) → ((k : ℕ) → k < 3 → dot (unit k) u ≡ pos 0) → u ≡ origin
on_all_axes u z = same_vector u origin (let a = z 0 (omega arith) in omega (arith, ints, a)) (let a = z 1 (omega arith) in omega (arith, ints, a)) (let a = z 2 (omega arith) in omega (arith, ints, a))

-- ---- one plane after another

pub uppers_own : (planes : List V3) (c : ℕ) (g axis : V3) (j : ℕ) (es : List Entry) → j ≡ c → AreUpper planes c g axis j es → AreUpper planes c g axis (j + 1) es
uppers_own planes c g axis j es e u = record { each = u.each; all = λ k lt ne. u.all k (⊎_elim {C = k < j} (λ l. l) (λ q. absurd (ne (q ∙ e))) (lt_one_more_cases k j lt)) ne }

pub has_plane : (old new : List Entry) (k : ℕ) → ((x : Entry) → Contains old x → Contains new x) → HasEntryOfPlane old k → HasEntryOfPlane new k
has_plane old new k kept h = record { turned = h.turned; listed = kept (record { plane = k; turned = h.turned }) h.listed }

pub uppers_more : (planes : List V3) (c : ℕ) (g axis : V3) (j : ℕ) (h : V3) (t : Bool) (old new : List Entry) → slice_get planes j ≡ Some h → j ≢ c → IsUpper g axis (facet_by t h)
    → new ≡ old ++ record { plane = j; turned = t } ∷ [] → AreUpper planes c g axis j old → AreUpper planes c g axis (j + 1) new
uppers_more planes c g axis j h t old new hi ne up is u = subst (λ (v : List Entry). AreUpper planes c g axis (j + 1) v) (sym is) (record {
  each = λ e he. ⊎_elim {C = IsUpperEntry planes c g axis e} (u.each e) (λ q. subst (IsUpperEntry planes c g axis) q (record {
    within = slice_get_within planes j h hi;
    different = ne;
    upper = subst (λ x. IsUpper g axis (facet_by t x)) (sym (get_or_from_slice_get planes j h origin hi)) up;
  })) (Contains-push_cases old this e he);
  all = λ k lt ne. ⊎_elim {C = HasEntryOfPlane (old ++ this ∷ []) k} (λ l. has_plane old (old ++ this ∷ []) k (Contains-append_left old (this ∷ [])) (u.all k l ne))
      (λ q. subst (HasEntryOfPlane (old ++ this ∷ [])) (sym q) (record { turned = t; listed = Contains-push old this }))
      (lt_one_more_cases k j lt);
})
  where
    this : Entry
    this = record { plane = j; turned = t }

-- in whatever order
pub uppers_moved : (planes : List V3) (c : ℕ) (g axis : V3) (n : ℕ) (old new : List Entry) → IsPermutation old new → AreUpper planes c g axis n old → AreUpper planes c g axis n new
uppers_moved planes c g axis n old new p u = record {
  each = λ e he. u.each e (Contains-permutation new old e (IsPermutation-sym old new p) he);
  all = λ k lt ne. has_plane old new k (λ x. Contains-permutation old new x p) (u.all k lt ne);
}

pub uppers_within : (planes : List V3) (c : ℕ) (g axis : V3) (n : ℕ) (es : List Entry) → AreUpper planes c g axis n es → All (λ (e : Entry). e.plane < length planes) es
uppers_within planes c g axis n es u = All-from_members (λ (e : Entry). e.plane < length planes) es (λ e he. (u.each e he).within)

-- ---- an entry that is put at its place leaves the others in order

pub not_precedes : (planes : List V3) (g : V3) (e f : Entry) → order_det planes g e f <ℤ pos 0 → CrossesBefore planes g e f → ⊥
not_precedes planes g e f n (inl p) = not_both (order_det planes g e f) p n
not_precedes planes g e f n (inr (z, lt)) = zero_not_negative (order_det planes g e f) z n

-- of two entries of different planes one precedes the other
pub precedes_back : (planes : List V3) (g : V3) (e f : Entry) → (CrossesBefore planes g e f → ⊥) → f.plane ≢ e.plane → CrossesBefore planes g f e
precedes_back planes g e f not ne =
    let back = det_back g (facet_of planes f) (facet_of planes e) in
    let z : ℤ = order_det planes g e f in
    ⊎_elim {C = CrossesBefore planes g f e} (λ p. absurd (not (inl p)))
    (λ o. ⊎_elim {C = CrossesBefore planes g f e}
    (λ q. inr (omega (arith, ints, back, q), lt_from_le e.plane f.plane (λ same. ne (sym same)) (le_from_not_lt f.plane e.plane (λ lt. not (inr (q, lt))))))
    (λ n. inl (omega (arith, ints, back, n))) o)
    (three z)

-- ---- the list with one entry more

module _ (es : List Entry) (e : Entry) (i : ℕ) (le : i ≤ length es) where
  abbrev new : List Entry
  new = insert es i e

  long : length new ≡ length es + 1
  long = length-insert es i e le

  moved : IsPermutation (e ∷ es) new
  moved = IsPermutation-insert es i e

  in_before : (x : Entry) → Contains es x → Contains new x
  in_before x c = Contains-permutation (e ∷ es) new x moved (Contains-later e es x c)

  in_new : Contains new e
  in_new = Contains-permutation (e ∷ es) new e moved (Contains-front e es)

  in_only : (x : Entry) → Contains new x → (x ≡ e) ⊎ Contains es x
  in_only x c = Contains-cases e es x (Contains-permutation new (e ∷ es) x (IsPermutation-sym (e ∷ es) new moved) c)

  low_is : (k : ℕ) → k < i → entry_at new k ≡ entry_at es k
  low_is k lt = get_or-insert_below es i e no_entry k lt le

  here_is : (k : ℕ) → k ≡ i → entry_at new k ≡ e
  here_is k q = ap (entry_at new) q ∙ get_or-insert_at es i e no_entry le

  high_is : (k : ℕ) → i < k → entry_at new k ≡ entry_at es (k - 1)
  high_is k lt = ap (entry_at new) (back lt) ∙ get_or-insert_above es i e no_entry (k - 1) (omega (arith, lt)) le
    where
      back : i < k → k ≡ k - 1 + 1
      back lt = omega (arith, lt)

  module _ (R : Entry → Entry → Type 0) (rises : (a b : ℕ) → a < b → b < length es → R (entry_at es a) (entry_at es b))
      (after : (k : ℕ) → i ≤ k → k < length es → R e (entry_at es k)) (before : (k : ℕ) → k < i → R (entry_at es k) e) where
    pub still_rises : (a b : ℕ) → a < b → b < length new → R (entry_at new a) (entry_at new b)
    still_rises a b lt small = ⊎_elim {C = R (entry_at new a) (entry_at new b)} a_low (λ o. ⊎_elim {C = R (entry_at new a) (entry_at new b)} a_here a_high o) (trichotomy a i)
      where
        a_low : a < i → R (entry_at new a) (entry_at new b)
        a_low l = subst (λ x. R x (entry_at new b)) (sym (low_is a l)) (⊎_elim {C = R (entry_at es a) (entry_at new b)}
            (λ m. subst (R (entry_at es a)) (sym (low_is b m)) (rises a b lt (omega (arith, m, le))))
            (λ o. ⊎_elim {C = R (entry_at es a) (entry_at new b)} (λ q. subst (R (entry_at es a)) (sym (here_is b q)) (before a l))
            (λ m. subst (R (entry_at es a)) (sym (high_is b m)) (rises a (b - 1) (omega (arith, l, m)) (omega (arith, long, small, m)))) o)
            (trichotomy b i))

        a_here : a ≡ i → R (entry_at new a) (entry_at new b)
        a_here q = subst (λ x. R x (entry_at new b)) (sym (here_is a q)) (subst (R e) (sym (high_is b (omega (arith, q, lt)))) (after (b - 1) (omega (arith, q, lt)) (omega (arith, long, small, q, lt))))

        a_high : i < a → R (entry_at new a) (entry_at new b)
        a_high m = subst (λ x. R x (entry_at new b)) (sym (high_is a m)) (subst (R (entry_at es (a - 1))) (sym (high_is b (omega (arith, m, lt)))) (rises (a - 1) (b - 1) (omega (arith, m, lt)) (omega (arith, long, small, m, lt))))

-- ---- one entry more

pub order_within : (planes : List V3) (g : V3) (m : ℕ) (es new : List Entry) → IsOrderOf planes g es new → ((e : Entry) → Contains es e → e.plane < m) → All (λ e. e.plane < m) new
order_within planes g m es new o small = All-from_members (λ e. e.plane < m) new (λ e c. small e (o.only e c))

abbrev pub RisesBelow : List V3 → V3 → List Entry → ℕ → Type 0
RisesBelow planes g es n = (k : ℕ) → k + 1 < n → CrossesBefore planes g (entry_at es k) (entry_at es (k + 1))

pub rises_more : (planes : List V3) (g : V3) (es : List Entry) (n : ℕ) → RisesBelow planes g es n
    → CrossesBefore planes g (entry_at es (n - 1)) (entry_at es n) → RisesBelow planes g es (n + 1)
rises_more planes g es n rises last k lt = ⊎_elim {C = CrossesBefore planes g (entry_at es k) (entry_at es (k + 1))} (rises k)
    (λ q. subst (λ j. CrossesBefore planes g (entry_at es k) (entry_at es j)) (sym q) (subst (λ j. CrossesBefore planes g (entry_at es j) (entry_at es n)) (omega (arith, q)) last))
    (lt_one_more_cases (k + 1) n lt)

-- entries of which each precedes the next one
pub order_own : (planes : List V3) (g : V3) (es : List Entry) → Rises planes g es → IsOrderOf planes g es es
order_own planes g es rises = record {
  only = λ e c. c;
  each = λ e c. record { turned = e.turned; listed = c };
  rises = λ t i k lt small. subst (λ j. CrossesBefore planes g (entry_at es i) (entry_at es j)) (omega (arith, lt)) (later t i (k - i - 1) (omega (arith, lt, small)));
}
  where
    here : (k : ℕ) → k < length es → Contains es (entry_at es k)
    here k = Contains-get_or es k no_entry

    later : IsTransitive planes g es → (i n : ℕ) → i + n + 1 < length es → CrossesBefore planes g (entry_at es i) (entry_at es (i + n + 1))
    later t i zero lt = subst (λ j. CrossesBefore planes g (entry_at es i) (entry_at es j)) (omega arith) (rises i (omega (arith, lt)))
    later t i (suc n) lt = t (entry_at es i) (entry_at es (i + n + 1)) (entry_at es (i + suc n + 1))
        (here i (omega (arith, lt))) (here (i + n + 1) (omega (arith, lt))) (here (i + suc n + 1) lt)
        (later t i n (omega (arith, lt))) (subst (λ j. CrossesBefore planes g (entry_at es (i + n + 1)) (entry_at es j)) (omega arith) (rises (i + n + 1) (omega (arith, lt))))

pub order_more : (planes : List V3) (g : V3) (e : Entry) (es done old new : List Entry) → done ≡ es ++ e ∷ [] → IsInserted planes g e old new → IsOrderOf planes g es old → IsOrderOf planes g done new
order_more planes g e es done old new is (inr (has, same)) o = subst (λ (ds : List Entry). IsOrderOf planes g ds new) (sym is) (subst (λ (v : List Entry). IsOrderOf planes g (es ++ e ∷ []) v) (sym same) (record {
  only = λ x c. Contains-append_left es (e ∷ []) x (o.only x c);
  each = λ x c. ⊎_elim {C = HasEntryOfPlane old x.plane} (λ c. o.each x c) (λ q. subst (λ (y : Entry). HasEntryOfPlane old y.plane) q has) (Contains-push_cases es e x c);
  rises = λ t. o.rises (λ a b d ca cb cd. t a b d (Contains-append_left es (e ∷ []) a ca) (Contains-append_left es (e ∷ []) b cb) (Contains-append_left es (e ∷ []) d cd));
}))
order_more planes g e es done old new is (inl (i, at, apart, set)) o = subst (λ (ds : List Entry). IsOrderOf planes g ds new) (sym is) (subst (λ (v : List Entry). IsOrderOf planes g all v) (sym set) (record {
  only = λ x c. ⊎_elim {C = Contains all x} (λ q. subst (Contains all) (sym q) last) (λ c. first x (o.only x c)) (in_only old e i at.within x c);
  each = λ x c. ⊎_elim {C = HasEntryOfPlane (insert old i e) x.plane} (λ c. has_plane old (insert old i e) x.plane (in_before old e i at.within) (o.each x c))
      (λ q. subst (λ (y : Entry). HasEntryOfPlane (insert old i e) y.plane) q (record { turned = e.turned; listed = in_new old e i at.within })) (Contains-push_cases es e x c);
  rises = in_order;
}))
  where
    all : List Entry
    all = es ++ e ∷ []

    first : (x : Entry) → Contains es x → Contains all x
    first x c = Contains-append_left es (e ∷ []) x c

    last : Contains all e
    last = Contains-push es e

    one_before : (k : ℕ) → k + 1 ≡ i → CrossesBefore planes g (entry_at old k) e
    one_before k q = precedes_back planes g e (entry_at old k) (at.before k q) (λ p. apart (omega (arith, q)) (ap (λ j. (entry_at old j).plane) (place k q) ∙ p))
      where
        place : (k : ℕ) → k + 1 ≡ i → i - 1 ≡ k
        place k q = omega (arith, q)

    in_order : IsTransitive planes g all → AreInOrder planes g (insert old i e)
    in_order t = still_rises old e i at.within (CrossesBefore planes g) rises at.after before
      where
        rises : AreInOrder planes g old
        rises = o.rises (λ a b d ca cb cd. t a b d (first a ca) (first b cb) (first d cd))

        old_in : (k : ℕ) → k < length old → Contains all (entry_at old k)
        old_in k lt = first (entry_at old k) (o.only (entry_at old k) (k, lt, get_or_default old k (entry_at old k) no_entry lt))

        before : (k : ℕ) → k < i → CrossesBefore planes g (entry_at old k) e
        before k lt = ⊎_elim {C = CrossesBefore planes g (entry_at old k) e} (one_before k)
            (λ ne.
            let near : i - 1 < length old = (let w = at.within in omega (arith, w, lt)) in
            t (entry_at old k) (entry_at old (i - 1)) e (old_in k (omega (arith, near, lt))) (old_in (i - 1) near) last
            (rises k (i - 1) (omega (arith, lt, ne)) near) (one_before (i - 1) (omega (arith, lt))))
            (same_or (k + 1) i)

-- ---- where the stops end

abbrev pub AreBreaksBelow : List V3 → V3 → List Entry → ℕ → List ℕ → Type 0
AreBreaksBelow planes g es n ends = Lists nat_cmp (λ p. (p < n) × IsBreak planes g es p) ends

none_sorted : IsStrictlySortedBy nat_cmp []
unfolding IsStrictlySortedBy
none_sorted = tt

pub breaks_none : (planes : List V3) (g : V3) (es : List Entry) → AreBreaksBelow planes g es 1 []
breaks_none planes g es = record {
  ascending = none_sorted;
  each = λ p c. absurd (Contains-nothing p c);
  all = λ p h. absurd (let l = h.1.later in omega (arith, h.0, l));
}

pub breaks_same : (planes : List V3) (g : V3) (es : List Entry) (n : ℕ) (ends : List ℕ) → order_det planes g (entry_at es (n - 1)) (entry_at es n) ≡ pos 0 → AreBreaksBelow planes g es n ends → AreBreaksBelow planes g es (n + 1) ends
breaks_same planes g es n ends z b = record {
  ascending = b.ascending;
  each = λ p c. let h = b.each p c in ((let l = h.0 in omega (arith, l)), h.1);
  all = λ p h. b.all p (⊎_elim {C = p < n} (λ lt. lt) (λ q. absurd (h.1.differ (ap (λ j. order_det planes g (entry_at es (j - 1)) (entry_at es j)) q ∙ z))) (lt_one_more_cases p n h.0), h.1);
}

pub breaks_more : (planes : List V3) (g : V3) (es : List Entry) (n : ℕ) (ends new : List ℕ) → IsBreak planes g es n → new ≡ ends ++ n ∷ [] → AreBreaksBelow planes g es n ends → AreBreaksBelow planes g es (n + 1) new
breaks_more planes g es n ends new is set b = subst (λ (v : List ℕ). AreBreaksBelow planes g es (n + 1) v) (sym set) (record {
  ascending = sorted_push ends n b.ascending (λ p c. (b.each p c).0);
  each = λ p c. ⊎_elim {C = (p < n + 1) × IsBreak planes g es p}
      (λ c. let h = b.each p c in ((let l = h.0 in omega (arith, l)), h.1))
      (λ q. (omega (arith, q), subst (IsBreak planes g es) q is))
      (Contains-push_cases ends n p c);
  all = λ p h. ⊎_elim {C = Contains (ends ++ n ∷ []) p} (λ lt. Contains-append_left ends (n ∷ []) p (b.all p (lt, h.1)))
      (λ q. subst (Contains (ends ++ n ∷ [])) (sym q) (Contains-push ends n))
      (lt_one_more_cases p n h.0);
})

pub breaks_all : (planes : List V3) (g : V3) (es : List Entry) (n : ℕ) (ends : List ℕ) → length es ≤ n → AreBreaksBelow planes g es n ends → Lists nat_cmp (IsBreak planes g es) ends
breaks_all planes g es n ends le b = record { ascending = b.ascending; each = λ p c. (b.each p c).1; all = λ p h. b.all p ((let w = h.within in omega (arith, w, le)), h) }
