-- Two scans around a vector miss no wall through it.
use Rattle.std.proofs.Common.{◌≡◌, ◌≢◌, ◌↔◌, Bool, false, IsTrue, ℕ, zero, suc, ◌+◌, ◌<◌, ◌≤◌, refl, sym, ap, subst, ◌∙◌, arith, ℤ, pos, negsuc, neg_ℤ, ◌-ℤ◌, ◌*ℤ◌, ◌≤ℤ◌, ◌<ℤ◌, ◌⊎◌, inl, inr, ⊎_elim, List, [], ◌∷◌, ◌++◌, length, get_or, take, Contains}
use Rattle.std.proofs.lemmas.Int.{ints}
use Rattle.std.proofs.lemmas.List.{take_all}
use Rattle.std.proofs.lemmas.List.Elements.{All-contains, Contains-get_or, Contains-push_cases}
use Rattle.staat_vec.specs.declared.vector.V3.{V3}
use Rattle.staat_vec.specs.declared.vector.TheConstants.{NORMAL}
use Rattle.staat_vec.specs.Vectors.{IsWithin, cross, det, dot, negative, origin}
use Rattle.staat_vec.proofs.Order.{as_positive, cancel_zero, nonneg_mul, pos_mul, positive_nonneg}
use Rattle.staat_vec.proofs.Ring.{num, ◌⊖◌, ◌⊗◌, opp, ring, ring_by, zero-mul_ℤ}
use Rattle.staat_vec.proofs.Unique.{Contains-nothing}
use Rattle.staat_vec.proofs.VecRing.{crossE, dotE, detE, negativeE, originE, values, ring3, v0, v1, v2, v3, scale, same_vector, dot_scale, negative_dot}
use Rattle.staat_model.proofs.FacetLemmas.{along, swap_zero}
use Rattle.staat_cone.specs.Pairs.{Adds, AddsEdges, IsEdge, IsThrough}
use Rattle.staat_cone.specs.Scans.{AreFurthest, IsApart, IsLeftOf, IsLeftmost, IsWallThrough}
use Rattle.staat_cone.proofs.EdgeLemmas.{edge_of}
use Rattle.staat_cone.proofs.PairLemmas.{refused}
use Rattle.staat_cone.proofs.PairLists.{take_more}
use Rattle.staat_vec.proofs.VectorLaws.{dot_origin, some_square}
use Rattle.staat_vec.proofs.Integers.{positive_not_zero, cancel_positive, zero_or, product_zero, zero_nonpositive, zero_nonneg, positive_from_nonneg}
use Rattle.staat_vec.proofs.Canons.{negative-negative}

-- ---- the two sides of v on the plane of n

turned_side : (n v x : V3) → det n (negative v) x ≡ neg_ℤ (det n v x)
turned_side n v x = ring (values (n ∷ v ∷ x ∷ []) []) (detE v0 (negativeE v1) v2) (opp (detE v0 v1 v2)) tt

opposite : (a b : ℤ) → b ≡ neg_ℤ a → pos 0 <ℤ a → pos 0 <ℤ b → ⊥
opposite a b e h g = omega (arith, ints)

sides : (a b : ℤ) → b ≡ neg_ℤ a → a ≢ pos 0 → (pos 0 <ℤ a) ⊎ (pos 0 <ℤ b)
sides (pos zero) b e some = absurd (some refl)
sides (pos (suc n)) b e some = inl (omega (arith, ints))
sides (negsuc n) b e some = inr (omega (arith, ints))

is_positive : (a : ℤ) → (pos 0 <ℤ a) ⊎ (pos 0 <ℤ a → ⊥)
is_positive (pos zero) = inr (λ h. h.lt)
is_positive (pos (suc n)) = inl (omega (arith, ints))
is_positive (negsuc n) = inr (λ h. h.lt)

left_or_not : (n v x : V3) → IsLeftOf n v x ⊎ (IsLeftOf n v x → ⊥)
left_or_not n v x =
    ⊎_elim (λ on. ⊎_elim (λ side. inl (record { on = on; side = side })) (λ low. inr (λ l. low l.side)) (is_positive (det n v x)))
    (λ off. inr (λ l. off l.on)) (zero_or (dot x n))

-- what lies on the plane of n and is not parallel to v does not lie in line with v
not_in_line : (n v x : V3) → n ≢ origin → dot v n ≡ pos 0 → dot x n ≡ pos 0 → IsApart v x → det n v x ≢ pos 0
not_in_line n v x some on_v on_x apart flat =
    let c = cross v x in
    let a = as_positive (dot c c) (some_square c (λ z. apart (swap_zero x v z))) in
    let whole : scale (pos a.0) n ≡ scale (pos 0) c = ap (λ z. scale z n) (sym a.2) ∙ along n v x on_v on_x ∙ ap (λ z. scale z c) flat in
    some (same_vector n origin
    (cancel_zero a.0 n.x a.1 (ap (λ v. v.x) whole ∙ zero-mul_ℤ c.x))
    (cancel_zero a.0 n.y a.1 (ap (λ v. v.y) whole ∙ zero-mul_ℤ c.y))
    (cancel_zero a.0 n.z a.1 (ap (λ v. v.z) whole ∙ zero-mul_ℤ c.z)))

-- so it lies on one of the two sides
on_a_side : (n v x : V3) → n ≢ origin → dot v n ≡ pos 0 → dot x n ≡ pos 0 → IsApart v x → IsLeftOf n v x ⊎ IsLeftOf n (negative v) x
on_a_side n v x some on_v on_x apart =
    ⊎_elim (λ side. inl (record { on = on_x; side = side })) (λ side. inr (record { on = on_x; side = side }))
    (sides (det n v x) (det n (negative v) x) (turned_side n v x) (not_in_line n v x some on_v on_x apart))

not_both : (n v x : V3) → IsLeftOf n v x → IsLeftOf n (negative v) x → ⊥
not_both n v x l r = opposite (det n v x) (det n (negative v) x) (turned_side n v x) l.side r.side

-- ---- one step of a scan

-- (n.n) (x . a x v) = det(n,v,x) (a.n) - det(n,v,a) (x.n), if n is at right angles to v
step_is : (n v a x : V3) → dot v n ≡ pos 0 → dot n n *ℤ dot x (cross a v) ≡ det n v x *ℤ dot a n -ℤ det n v a *ℤ dot x n
step_is n v a x on_v =
    ring_by (values (n ∷ v ∷ a ∷ x ∷ []) []) (dotE v0 v0 ⊗ dotE v3 (crossE v2 v1)) (detE v0 v1 v3 ⊗ dotE v2 v0 ⊖ detE v0 v1 v2 ⊗ dotE v3 v0) (detE v0 v3 v2) (dotE v1 v0) (num (pos 0)) on_v tt

no_step : (s e p q : ℤ) → s *ℤ e ≡ p -ℤ q → pos 0 <ℤ s → p ≤ℤ pos 0 → pos 0 ≤ℤ q → pos 0 <ℤ e → ⊥
no_step s e p q is some hp hq he = clash (s *ℤ e) p q is (pos_mul s e some he) hp hq
  where
    clash : (t p q : ℤ) → t ≡ p -ℤ q → pos 0 <ℤ t → p ≤ℤ pos 0 → pos 0 ≤ℤ q → ⊥
    clash t p q e ht hp hq = omega (arith, ints)

a_step : (s e p q : ℤ) → s *ℤ e ≡ p -ℤ q → pos 0 <ℤ s → pos 0 <ℤ p → q ≤ℤ pos 0 → pos 0 <ℤ e
a_step s e p q is some hp hq = cancel_positive s e some (above (s *ℤ e) p q is hp hq)
  where
    above : (t p q : ℤ) → t ≡ p -ℤ q → pos 0 <ℤ p → q ≤ℤ pos 0 → pos 0 <ℤ t
    above t p q e hp hq = omega (arith, ints)

turned_mul : (a b c : ℤ) → b ≡ neg_ℤ a → pos 0 <ℤ b → pos 0 ≤ℤ c → (a *ℤ c) ≤ℤ pos 0
turned_mul (pos n) b c e h g = absurd (omega (arith, ints))
turned_mul (negsuc n) b (pos c) e h g = omega (arith, ints)
turned_mul (negsuc n) b (negsuc c) e h g = absurd g.le

module _ (n v a x : V3) (some : n ≢ origin) (on_v : dot v n ≡ pos 0) where
  -- what lies left of v is kept
  stays : pos 0 ≤ℤ dot x n → IsLeftOf n v a → pos 0 <ℤ dot x (cross a v) → ⊥
  stays up l =
      no_step (dot n n) (dot x (cross a v)) (det n v x *ℤ dot a n) (det n v a *ℤ dot x n) (step_is n v a x on_v) (some_square n some)
      (zero_nonpositive (det n v x *ℤ dot a n) (product_zero (det n v x) (dot a n) l.on))
      (nonneg_mul (det n v a) (dot x n) (positive_nonneg (det n v a) l.side) up)

  -- what lies right of v is not taken
  not_taken : pos 0 ≤ℤ dot a n → IsLeftOf n (negative v) x → pos 0 <ℤ dot x (cross a v) → ⊥
  not_taken up r =
      no_step (dot n n) (dot x (cross a v)) (det n v x *ℤ dot a n) (det n v a *ℤ dot x n) (step_is n v a x on_v) (some_square n some)
      (turned_mul (det n v x) (det n (negative v) x) (dot a n) (turned_side n v x) r.side up)
      (zero_nonneg (det n v a *ℤ dot x n) (product_zero (det n v a) (dot x n) r.on))

  -- what lies left of v is taken in place of what lies off the plane of n
  taken : pos 0 <ℤ dot a n → IsLeftOf n v x → pos 0 <ℤ dot x (cross a v)
  taken off l =
      a_step (dot n n) (dot x (cross a v)) (det n v x *ℤ dot a n) (det n v a *ℤ dot x n) (step_is n v a x on_v) (some_square n some)
      (pos_mul (det n v x) (dot a n) l.side off)
      (zero_nonpositive (det n v a *ℤ dot x n) (product_zero (det n v a) (dot x n) l.on))

-- ---- a scan

side_of : (vs : List V3) (v n x : V3) → IsWallThrough vs v n → Contains vs x → pos 0 ≤ℤ dot x n
side_of vs v n x wall c = All-contains (λ w. pos 0 ≤ℤ dot w n) vs x wall.above c

-- nothing is seen yet
leftmost_start : (vs : List V3) (v first : V3) → IsLeftmost vs (take 0 vs) v first first
leftmost_start vs v first n some wall away = (away, λ x c l. absurd (Contains-nothing x c))

module _ (vs seen : List V3) (v first a x : V3) (is : IsLeftmost vs seen v first a) (a_in : Contains vs a) (x_in : Contains vs x) where
  moved : pos 0 <ℤ dot x (cross a v) → IsLeftmost vs (seen ++ x ∷ []) v first x
  moved turn n some wall away =
      let old = is n some wall away in (
        (λ r. not_taken n v a x some wall.on (side_of vs v n a wall a_in) r turn),
        (λ y c l. ⊎_elim
            (λ d. absurd (stays n v a x some wall.on (side_of vs v n x wall x_in) (old.1 y d l) turn))
            (λ e. subst (IsLeftOf n v) (sym e) l)
            (Contains-push_cases seen x y c)),
      )

  kept : IsApart v a → (pos 0 <ℤ dot x (cross a v) → ⊥) → IsLeftmost vs (seen ++ x ∷ []) v first a
  kept apart none n some wall away = (old.0, λ y c l. ⊎_elim (λ d. old.1 y d l) (λ e. now (subst (IsLeftOf n v) (sym e) l)) (Contains-push_cases seen x y c))
    where
      old : (IsLeftOf n (negative v) a → ⊥) × ((y : V3) → Contains seen y → IsLeftOf n v y → IsLeftOf n v a)
      old = is n some wall away

      now : IsLeftOf n v x → IsLeftOf n v a
      now l =
          ⊎_elim
          (λ on. ⊎_elim (λ left. left) (λ right. absurd (old.0 right)) (on_a_side n v a some wall.on on apart))
          (λ off. absurd (none (taken n v a x some wall.on (positive_from_nonneg (dot a n) (side_of vs v n a wall a_in) off) l)))
          (zero_or (dot a n))

leftmost_moved : (vs : List V3) (v first a : V3) (i : ℕ) (z : V3) → i < length vs → IsLeftmost vs (take i vs) v first a → Contains vs a → pos 0 <ℤ dot (get_or vs i z) (cross a v) → IsLeftmost vs (take (i + 1) vs) v first (get_or vs i z)
leftmost_moved vs v first a i z lt is a_in turn =
    subst (λ seen. IsLeftmost vs seen v first (get_or vs i z)) (sym (take_more vs i z lt))
    (moved vs (take i vs) v first a (get_or vs i z) is a_in (Contains-get_or vs i z lt) turn)

leftmost_kept : (vs : List V3) (v first a : V3) (i : ℕ) (z : V3) → i < length vs → IsLeftmost vs (take i vs) v first a → Contains vs a → IsApart v a → (pos 0 <ℤ dot (get_or vs i z) (cross a v) → ⊥) → IsLeftmost vs (take (i + 1) vs) v first a
leftmost_kept vs v first a i z lt is a_in apart none =
    subst (λ seen. IsLeftmost vs seen v first a) (sym (take_more vs i z lt))
    (kept vs (take i vs) v first a (get_or vs i z) is a_in (Contains-get_or vs i z lt) apart none)

pub leftmost_whole : (vs : List V3) (v first a : V3) (i : ℕ) → length vs ≤ i → IsLeftmost vs (take i vs) v first a → IsLeftmost vs vs v first a
leftmost_whole vs v first a i le is = subst (λ seen. IsLeftmost vs seen v first a) (take_all i vs le) is

-- what is taken is not parallel to v
taken_apart : (v a x : V3) → pos 0 <ℤ dot x (cross a v) → IsApart v x
taken_apart v a x turn z = positive_not_zero (dot x (cross a v)) turn (turn_of v a x ∙ ap (dot a) (swap_zero v x z) ∙ dot_origin a)
  where
    turn_of : (v a x : V3) → dot x (cross a v) ≡ dot a (cross v x)
    turn_of v a x = ring (values (v ∷ a ∷ x ∷ []) []) (dotE v2 (crossE v1 v0)) (dotE v1 (crossE v0 v2)) tt

-- how far a scan is: the best so far, and the normal across it and v
pub record IsScanned (vs seen : List V3) (v first a m : V3) : Type 0 where
  pub member : Contains vs a
  pub apart : IsApart v a
  pub normal : m ≡ cross a v
  pub size : IsWithin NORMAL m
  pub left : IsLeftmost vs seen v first a

pub scanned_start : (vs : List V3) (v first m : V3) → Contains vs first → IsApart v first → m ≡ cross first v → IsWithin NORMAL m → IsScanned vs (take 0 vs) v first first m
scanned_start vs v first m first_in first_apart e size = record { member = first_in; apart = first_apart; normal = e; size = size; left = leftmost_start vs v first }

pub scanned_moved : (vs : List V3) (v first a m b m' : V3) (i : ℕ) (z : V3) → i < length vs → IsScanned vs (take i vs) v first a m → pos 0 <ℤ dot (get_or vs i z) m → b ≡ get_or vs i z → m' ≡ cross b v → IsWithin NORMAL m' → IsScanned vs (take (i + 1) vs) v first b m'
scanned_moved vs v first a m b m' i z lt is up same across size =
    let x = get_or vs i z in
    let turned : pos 0 <ℤ dot x (cross a v) = subst (λ t. pos 0 <ℤ dot x t) is.normal up in
    subst (λ y. IsScanned vs (take (i + 1) vs) v first y m') (sym same) (record {
      member = Contains-get_or vs i z lt;
      apart = taken_apart v a x turned;
      normal = across ∙ ap (λ y. cross y v) same;
      size = size;
      left = leftmost_moved vs v first a i z lt is.left is.member turned;
    })

pub scanned_kept : (vs : List V3) (v first a m b m' : V3) (i : ℕ) (z : V3) → i < length vs → IsScanned vs (take i vs) v first a m → (pos 0 <ℤ dot (get_or vs i z) m → ⊥) → b ≡ a → m' ≡ m → IsScanned vs (take (i + 1) vs) v first b m'
scanned_kept vs v first a m b m' i z lt is low same same_normal =
    let x = get_or vs i z in
    subst (λ y. IsScanned vs (take (i + 1) vs) v first y m') (sym same) (subst (IsScanned vs (take (i + 1) vs) v first a) (sym same_normal) (record {
      member = is.member;
      apart = is.apart;
      normal = is.normal;
      size = is.size;
      left = leftmost_kept vs v first a i z lt is.left is.member is.apart (λ up. low (subst (λ t. pos 0 <ℤ dot x t) (sym is.normal) up));
    }))

-- ---- both scans

wall_turned : (vs : List V3) (v n : V3) → IsWallThrough vs v n → IsWallThrough vs (negative v) n
wall_turned vs v n wall = record { above = wall.above; on = negative_dot v n ∙ ap neg_ℤ wall.on }

-- a wall through v with a member left of v: the scan to the left finds such a member, unless it began right of v, and
-- then the scan to the right did not move
on_one_left : (vs : List V3) (v first a b n w : V3) → IsLeftmost vs vs v first a → IsLeftmost vs vs (negative v) first b → Contains vs first → n ≢ origin → IsWallThrough vs v n → Contains vs w → IsLeftOf n v w → (dot a n ≡ pos 0) ⊎ (dot b n ≡ pos 0)
on_one_left vs v first a b n w left right first_in some wall w_in l =
    ⊎_elim
    (λ r. inr (((right n some (wall_turned vs v n wall) (λ back. not_both n (negative v) first r back)).1 first first_in r).on))
    (λ away. inl (((left n some wall away).1 w w_in l).on))
    (left_or_not n (negative v) first)

flat_none : (a n : V3) → n ≡ origin → dot a n ≡ pos 0
flat_none a n e = ap (dot a) e ∙ ring (values (a ∷ []) []) (dotE v0 originE) (num (pos 0)) tt

is_origin : (n : V3) → (n ≡ origin) ⊎ (n ≢ origin)
is_origin n = go (zero_or n.x) (zero_or n.y) (zero_or n.z)
  where
    go : (n.x ≡ pos 0) ⊎ (n.x ≢ pos 0) → (n.y ≡ pos 0) ⊎ (n.y ≢ pos 0) → (n.z ≡ pos 0) ⊎ (n.z ≢ pos 0) → (n ≡ origin) ⊎ (n ≢ origin)
    go (inl e) (inl f) (inl g) = inl (same_vector n origin e f g)
    go (inr e) f g = inr (λ z. e (ap (λ v. v.x) z))
    go (inl e) (inr f) g = inr (λ z. f (ap (λ v. v.y) z))
    go (inl e) (inl f) (inr g) = inr (λ z. g (ap (λ v. v.z) z))

on_one : (vs : List V3) (v first a b : V3) → IsLeftmost vs vs v first a → IsLeftmost vs vs (negative v) first b → Contains vs first → (n w : V3) → IsWallThrough vs v n → Contains vs w → IsApart v w → dot w n ≡ pos 0 → (dot a n ≡ pos 0) ⊎ (dot b n ≡ pos 0)
on_one vs v first a b left right first_in n w wall w_in apart on_w = ⊎_elim (λ e. inl (flat_none a n e)) found (is_origin n)
  where
    found : n ≢ origin → (dot a n ≡ pos 0) ⊎ (dot b n ≡ pos 0)
    found some =
        ⊎_elim (λ l. on_one_left vs v first a b n w left right first_in some wall w_in l)
        (λ r. ⊎_elim inr inl (on_one_left vs (negative v) first b a n w right (subst (λ u. IsLeftmost vs vs u first a) (sym (negative-negative v)) left) first_in some (wall_turned vs v n wall) w_in r))
        (on_a_side n v w some wall.on on_w apart)

turned_cross : (v x : V3) → cross x (negative v) ≡ cross v x
turned_cross v x = ring3 (values (v ∷ x ∷ []) []) (crossE v1 (negativeE v0)) (crossE v0 v1) (tt, tt, tt)

pub apart_turned : (v u x : V3) → u ≡ negative v → IsApart v x → IsApart u x
apart_turned v u x e apart z = apart (swap_zero x v (sym (turned_cross v x) ∙ ap (cross x) (sym e) ∙ z))

pub apart_back : (v u x : V3) → u ≡ negative v → IsApart u x → IsApart v x
apart_back v u x e apart z = apart (ap (cross x) e ∙ turned_cross v x ∙ swap_zero v x z)

pub are_furthest : (vs : List V3) (v u first a b : V3) → u ≡ negative v → Contains vs first → Contains vs a → IsApart v a → IsLeftmost vs vs v first a → Contains vs b → IsApart u b → IsLeftmost vs vs u first b → AreFurthest vs v a b
are_furthest vs v u first a b e first_in a_in a_apart left b_in b_apart right = record {
  a_in = a_in;
  a_apart = a_apart;
  b_in = b_in;
  b_apart = apart_back v u b e b_apart;
  on_one = on_one vs v first a b left (subst (λ w. IsLeftmost vs vs w first b) e right) first_in;
}

-- ---- the facets through v

-- a facet through v and another goes through v and each member on it that is not parallel to v
through : (vs : List V3) (v a h n : V3) → IsThrough vs h v n → IsApart v a → dot a n ≡ pos 0 → IsThrough vs a v n
through vs v a h n t apart on = record { primitive = t.primitive; above = t.above; independent = apart; g_on = on; h_on = t.h_on }

on_either : (vs : List V3) (v a b h n : V3) → AreFurthest vs v a b → Contains vs h → IsThrough vs h v n
    → (dot a n ≡ pos 0) ⊎ (dot b n ≡ pos 0)
on_either vs v a b h n are h_in t = are.on_one n h (record { above = t.above; on = t.h_on }) h_in t.independent t.g_on

-- the edges through v and one of the two are multiples of all facets through v
pub furthest_added : (vs xs ys zs : List V3) (v a b : V3) → AreFurthest vs v a b → Adds (IsEdge vs a v) xs ys
    → Adds (IsEdge vs b v) ys zs → AddsEdges vs v xs zs
furthest_added vs xs ys zs v a b are first second = record {
  kept = λ f c. second.kept f (first.kept f c);
  added = λ n (h, h_in, t). ⊎_elim
      (λ on. let e = edge_of vs a v n (through vs v a h n t are.a_apart on) in (e.0, second.kept e.0 (first.added e.0 e.1), e.2))
      (λ on. let e = edge_of vs b v n (through vs v b h n t are.b_apart on) in (e.0, second.added e.0 e.1, e.2))
      (on_either vs v a b h n are h_in t);
  only = λ f c. ⊎_elim
      (λ old. ⊎_elim (λ older. inl older) (λ t. inr (a, are.a_in, t)) (first.only f old))
      (λ t. inr (b, are.b_in, t))
      (second.only f c);
}

-- where a, b and v lie in one plane, what goes through b and v goes through a
on_first : (n v a b : V3) → dot b n ≡ pos 0 → dot v n ≡ pos 0 → cross b v ≢ origin → det a b v ≡ pos 0 → dot a n ≡ pos 0
on_first n v a b on_b on_v apart flat =
    let c = cross b v in
    let k = as_positive (dot c c) (some_square c apart) in
    cancel_zero k.0 (dot a n) k.1
    (ap (λ z. z *ℤ dot a n) (sym k.2) ∙ sym (dot_scale (dot c c) a n) ∙ ap (dot a) (along n b v on_b on_v) ∙ dot_scale (dot n c) a c ∙ product_zero (dot n c) (dot a c) flat)

pub first_is_enough : (vs xs ys : List V3) (v a b : V3) → AreFurthest vs v a b → det a b v ≡ pos 0
    → Adds (IsEdge vs a v) xs ys → AddsEdges vs v xs ys
first_is_enough vs xs ys v a b are flat first = record {
  kept = first.kept;
  added = λ n (h, h_in, t).
      let on = ⊎_elim (λ on. on) (λ on. on_first n v a b on t.h_on are.b_apart flat) (on_either vs v a b h n are h_in t) in
      let e = edge_of vs a v n (through vs v a h n t are.a_apart on) in (e.0, first.added e.0 e.1, e.2);
  only = λ f c. ⊎_elim (λ old. inl old) (λ t. inr (a, are.a_in, t)) (first.only f c);
}

pub flat_where_not_off : (r : Bool) (d : ℤ) → IsTrue r ↔ (d ≢ pos 0) → r ≡ false → d ≡ pos 0
flat_where_not_off r d h e = ⊎_elim (λ flat. flat) (λ off. absurd (refused r (d ≢ pos 0) h e off)) (zero_or d)
