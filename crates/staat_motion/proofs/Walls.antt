-- What the spans of two pieces show: walls between them.
use Rattle.std.proofs.Common.{◌≡◌, ◌≢◌, ◌∙◌, ◌↔◌, inl, inr, ℕ, zero, suc, ◌<◌, ℤ, pos, neg_ℤ, ◌-ℤ◌, ◌*ℤ◌, ◌≤ℤ◌, List, get_or, All, Contains, arith, ap, subst, sym, refl}
use Rattle.std.proofs.lemmas.Int.{ints}
use Rattle.std.proofs.lemmas.List.Elements.{All-contains}
use Rattle.staat_vec.specs.declared.vector.V3.{V3}
use Rattle.staat_vec.specs.Vectors.{cross, dot, minus, negative, origin}
use Rattle.staat_vec.proofs.VecRing.{dot_comm, dot_cross_right, negative_dot}
use Rattle.staat_model.specs.Pieces.{IsPiece}
use Rattle.staat_model.specs.Meeting.{Meets}
use Rattle.staat_model.specs.Walls.{IsBeyond, IsShown}
use Rattle.staat_model.proofs.Members.{All-from_members}
use Rattle.staat_model.proofs.WallLaws.{dot-minus, wall_keeps_apart}
use Rattle.staat_motion.specs.declared.frame.Frame.{Frame}
use Rattle.staat_motion.specs.declared.shadow.Shadow.{Shadow}
use Rattle.staat_motion.specs.declared.spans.Span.{Span}
use Rattle.staat_motion.specs.Frames.{IsFrame, IsOr, x_axis, y_axis, z_axis}
use Rattle.staat_motion.specs.Shadows.{IsApartAlong, HasGap, IsSeenApart, IsShadow, IsWallEitherWay, normals}
use Rattle.staat_motion.specs.Spans.{IsReachOf, IsSpan}
use Rattle.staat_vec.proofs.Integers.{span_nonneg, le_from_difference}
use Rattle.staat_vec.proofs.VectorLaws.{negative_some}

-- ---- one normal

-- q lies beyond p just where its span does
beyond : (n : V3) (p q : List V3) (s t : Span) → IsSpan n p s → IsSpan n q t → (s.high ≤ℤ t.low) ↔ IsBeyond p q n
beyond n p q s t ps qt = (
  (λ le. All-from_members (λ a. All (λ b. pos 0 ≤ℤ dot n (minus b a)) q) p (λ a a_in. All-from_members (λ b. pos 0 ≤ℤ dot n (minus b a)) q (λ b b_in.
      span_nonneg (dot n a) (dot n b) s.high t.low (dot n (minus b a)) (dot-minus n b a) (All-contains (λ x. dot n x ≤ℤ s.high) p a ps.greatest a_in) (All-contains (λ x. t.low ≤ℤ dot n x) q b qt.least b_in) le))),
  (λ up. let high = ps.high_in in let low = qt.low_in in
      le_from_difference s.high t.low (dot n high.point) (dot n low.point) (dot n (minus low.point high.point)) high.is low.is (dot-minus n low.point high.point)
      (All-contains (λ b. pos 0 ≤ℤ dot n (minus b high.point)) q low.point (All-contains (λ a. All (λ b. pos 0 ≤ℤ dot n (minus b a)) q) p high.point up high.member) low.member)),
)

-- the span along the negative
abbrev turned : Span → Span
turned s = record { low = neg_ℤ s.high; high = neg_ℤ s.low }

turn : (n : V3) (p : List V3) (s : Span) → IsSpan n p s → IsSpan (negative n) p (turned s)
turn n p s h = record {
  low_in = place s.high h.high_in;
  high_in = place s.low h.low_in;
  least = All-from_members (λ x. neg_ℤ s.high ≤ℤ dot (negative n) x) p (λ x x_in. down (dot n x) s.high (dot (negative n) x) (negative_dot n x) (All-contains (λ x. dot n x ≤ℤ s.high) p x h.greatest x_in));
  greatest = All-from_members (λ x. dot (negative n) x ≤ℤ neg_ℤ s.low) p (λ x x_in. up (dot n x) s.low (dot (negative n) x) (negative_dot n x) (All-contains (λ x. s.low ≤ℤ dot n x) p x h.least x_in));
}
  where
    place : (z : ℤ) → IsReachOf n p z → IsReachOf (negative n) p (neg_ℤ z)
    place z at = record { point = at.point; member = at.member; is = ap neg_ℤ at.is ∙ sym (negative_dot n at.point) }

    down : (x high y : ℤ) → y ≡ neg_ℤ x → x ≤ℤ high → neg_ℤ high ≤ℤ y
    down x high y e h = omega (arith, ints, e, h)

    up : (x low y : ℤ) → y ≡ neg_ℤ x → low ≤ℤ x → y ≤ℤ neg_ℤ low
    up x low y e h = omega (arith, ints, e, h)

-- the spans show a wall just where there is one with that normal
between_is_wall : (n d : V3) (p q : List V3) (along : ℤ) (s t : Span) → n ≢ origin → dot n d ≡ along → IsSpan n p s → IsSpan n q t → HasGap along s t ↔ IsWallEitherWay p q d n
between_is_wall n d p q along s t some is ps qt = (there, back)
  where
    turned_away : (a b z : ℤ) → a ≡ b → z ≡ neg_ℤ a → pos 0 ≤ℤ b → z ≤ℤ pos 0
    turned_away a b z e f h = omega (arith, ints, e, f, h)

    turned_ahead : (a b z : ℤ) → a ≡ b → z ≡ neg_ℤ a → z ≤ℤ pos 0 → pos 0 ≤ℤ b
    turned_ahead a b z e f h = omega (arith, ints, e, f, h)

    swapped : (a b : ℤ) → (a ≤ℤ b) ↔ (neg_ℤ b ≤ℤ neg_ℤ a)
    swapped a b = ((λ h. omega (arith, ints, h)), (λ h. omega (arith, ints, h)))

    law : (s.high ≤ℤ t.low) ↔ IsBeyond p q n
    law = beyond n p q s t ps qt

    law' : (neg_ℤ s.low ≤ℤ neg_ℤ t.high) ↔ IsBeyond p q (negative n)
    law' = beyond (negative n) p q (turned s) (turned t) (turn n p s ps) (turn n q t qt)

    there : HasGap along s t → IsWallEitherWay p q d n
    there (inl (away, le)) = inl (record { wall = some; beyond = law.0 le; away = subst (λ z. z ≤ℤ pos 0) (sym is) away })
    there (inr (ahead, le)) = inr (record {
      wall = negative_some n some;
      beyond = law'.0 ((swapped t.high s.low).0 le);
      away = turned_away (dot n d) along (dot (negative n) d) is (negative_dot n d) ahead;
    })

    back : IsWallEitherWay p q d n → HasGap along s t
    back (inl w) = inl (subst (λ z. z ≤ℤ pos 0) is w.away, law.1 w.beyond)
    back (inr w) = inr (turned_ahead (dot n d) along (dot (negative n) d) is (negative_dot n d) w.away, (swapped t.high s.low).1 (law'.1 w.beyond))

-- ---- the normals of a frame

-- an axis, or the next one, is not zero, and lies across the direction where it stands in for a product
across : (e next d n : V3) → IsOr (cross e d) next n → next ≢ origin → (cross e d ≡ origin → dot next d ≡ pos 0) → (n ≢ origin) × (dot n d ≡ pos 0)
across e next d n (inl (some, is)) nonzero level = (subst (λ v. v ≢ origin) (sym is) some, ap (λ v. dot v d) is ∙ dot_comm (cross e d) d ∙ dot_cross_right e d)
across e next d n (inr (none, is)) nonzero level = (subst (λ v. v ≢ origin) (sym is) nonzero, ap (λ v. dot v d) is ∙ level none)

x_nonzero : x_axis ≢ origin
x_nonzero e = let wrong : pos 1 ≡ pos 0 = ap (λ v. v.x) e in absurd cc

y_nonzero : y_axis ≢ origin
y_nonzero e = let wrong : pos 1 ≡ pos 0 = ap (λ v. v.y) e in absurd cc

z_nonzero : z_axis ≢ origin
z_nonzero e = let wrong : pos 1 ≡ pos 0 = ap (λ v. v.z) e in absurd cc

along_x : (d : V3) → dot x_axis d ≡ d.x
along_x d = omega (arith, ints)

along_y : (d : V3) → dot y_axis d ≡ d.y
along_y d = omega (arith, ints)

along_z : (d : V3) → dot z_axis d ≡ d.z
along_z d = omega (arith, ints)

frame_x : (d : V3) (f : Frame) → IsFrame d f → (f.x ≢ origin) × (dot f.x d ≡ pos 0)
frame_x d f h = across x_axis y_axis d f.x h.x y_nonzero (λ e. along_y d ∙ level d (ap (λ v. v.z) e))
  where
    level : (d : V3) → (pos 1 *ℤ d.y) -ℤ (pos 0 *ℤ d.x) ≡ pos 0 → d.y ≡ pos 0
    level d e = omega (arith, ints, e)

frame_y : (d : V3) (f : Frame) → IsFrame d f → (f.y ≢ origin) × (dot f.y d ≡ pos 0)
frame_y d f h = across y_axis z_axis d f.y h.y z_nonzero (λ e. along_z d ∙ level d (ap (λ v. v.x) e))
  where
    level : (d : V3) → (pos 1 *ℤ d.z) -ℤ (pos 0 *ℤ d.y) ≡ pos 0 → d.z ≡ pos 0
    level d e = omega (arith, ints, e)

frame_z : (d : V3) (f : Frame) → IsFrame d f → (f.z ≢ origin) × (dot f.z d ≡ pos 0)
frame_z d f h = across z_axis x_axis d f.z h.z x_nonzero (λ e. along_x d ∙ level d (ap (λ v. v.y) e))
  where
    level : (d : V3) → (pos 1 *ℤ d.x) -ℤ (pos 0 *ℤ d.z) ≡ pos 0 → d.x ≡ pos 0
    level d e = omega (arith, ints, e)

-- ---- two shadows

module _ (f : Frame) (d : V3) (p q : List V3) (s t : Shadow) (frame : IsFrame d f) (ps : IsShadow f p s) (qt : IsShadow f q t) where
  on_x : HasGap d.x s.bounds.x t.bounds.x ↔ IsWallEitherWay p q d x_axis
  on_x = between_is_wall x_axis d p q d.x s.bounds.x t.bounds.x x_nonzero (along_x d) ps.bounds.x qt.bounds.x

  on_y : HasGap d.y s.bounds.y t.bounds.y ↔ IsWallEitherWay p q d y_axis
  on_y = between_is_wall y_axis d p q d.y s.bounds.y t.bounds.y y_nonzero (along_y d) ps.bounds.y qt.bounds.y

  on_z : HasGap d.z s.bounds.z t.bounds.z ↔ IsWallEitherWay p q d z_axis
  on_z = between_is_wall z_axis d p q d.z s.bounds.z t.bounds.z z_nonzero (along_z d) ps.bounds.z qt.bounds.z

  over_x : HasGap (pos 0) s.across_x t.across_x ↔ IsWallEitherWay p q d f.x
  over_x = let is = frame_x d f frame in between_is_wall f.x d p q (pos 0) s.across_x t.across_x is.0 is.1 ps.across_x qt.across_x

  over_y : HasGap (pos 0) s.across_y t.across_y ↔ IsWallEitherWay p q d f.y
  over_y = let is = frame_y d f frame in between_is_wall f.y d p q (pos 0) s.across_y t.across_y is.0 is.1 ps.across_y qt.across_y

  over_z : HasGap (pos 0) s.across_z t.across_z ↔ IsWallEitherWay p q d f.z
  over_z = let is = frame_z d f frame in between_is_wall f.z d p q (pos 0) s.across_z t.across_z is.0 is.1 ps.across_z qt.across_z

  apart_seen : IsApartAlong d s t → IsSeenApart f p q d
  apart_seen (inl (inl h)) = (0, x_axis, omega arith, refl, on_x.0 h)
  apart_seen (inl (inr (inl h))) = (1, y_axis, omega arith, refl, on_y.0 h)
  apart_seen (inl (inr (inr h))) = (2, z_axis, omega arith, refl, on_z.0 h)
  apart_seen (inr (inl h)) = (3, f.x, omega arith, refl, over_x.0 h)
  apart_seen (inr (inr (inl h))) = (4, f.y, omega arith, refl, over_y.0 h)
  apart_seen (inr (inr (inr h))) = (5, f.z, omega arith, refl, over_z.0 h)

  seen_apart : IsSeenApart f p q d → IsApartAlong d s t
  seen_apart (k, n, lt, e, w) = at k lt (subst (IsWallEitherWay p q d) (sym e) w)
    where
      at : (k : ℕ) → k < 6 → IsWallEitherWay p q d (get_or (normals f) k n) → IsApartAlong d s t
      at zero lt w = inl (inl (on_x.1 w))
      at (suc zero) lt w = inl (inr (inl (on_y.1 w)))
      at (suc (suc zero)) lt w = inl (inr (inr (on_z.1 w)))
      at (suc (suc (suc zero))) lt w = inr (inl (over_x.1 w))
      at (suc (suc (suc (suc zero)))) lt w = inr (inr (inl (over_y.1 w)))
      at (suc (suc (suc (suc (suc zero))))) lt w = inr (inr (inr (over_z.1 w)))
      at (suc (suc (suc (suc (suc (suc k)))))) lt w = absurd (omega arith)

  -- the shadows show that the pieces are apart just where a wall with one of the normals is between them
  pub apart_is : IsApartAlong d s t ↔ IsSeenApart f p q d
  apart_is = (apart_seen, seen_apart)

-- what is seen apart never meets
pub seen_never : (f : Frame) (p q : List V3) (d : V3) → IsPiece p → IsSeenApart f p q d → Meets p q d → ⊥
seen_never f p q d is_p (k, n, lt, e, inl w) = wall_keeps_apart p q d n is_p.solid w
seen_never f p q d is_p (k, n, lt, e, inr w) = wall_keeps_apart p q d (negative n) is_p.solid w

shown_within : (P Q p q : List V3) (d n : V3) → ((x : V3) → Contains p x → Contains P x) → ((x : V3) → Contains q x → Contains Q x) → IsShown P Q d n → IsShown p q d n
shown_within P Q p q d n p_in q_in w = record {
  wall = w.wall;
  beyond = All-from_members (λ a. All (λ b. pos 0 ≤ℤ dot n (minus b a)) q) p (λ a a_in. All-from_members (λ b. pos 0 ≤ℤ dot n (minus b a)) q (λ b b_in.
      All-contains (λ b. pos 0 ≤ℤ dot n (minus b a)) Q b (All-contains (λ a. All (λ b. pos 0 ≤ℤ dot n (minus b a)) Q) P a w.beyond (p_in a a_in)) (q_in b b_in)));
  away = w.away;
}

-- what is seen of points is seen of fewer
pub seen_within : (f : Frame) (P Q p q : List V3) (d : V3) → ((x : V3) → Contains p x → Contains P x) → ((x : V3) → Contains q x → Contains Q x) → IsSeenApart f P Q d → IsSeenApart f p q d
seen_within f P Q p q d p_in q_in (k, n, lt, e, inl w) = (k, n, lt, e, inl (shown_within P Q p q d n p_in q_in w))
seen_within f P Q p q d p_in q_in (k, n, lt, e, inr w) = (k, n, lt, e, inr (shown_within P Q p q d (negative n) p_in q_in w))
