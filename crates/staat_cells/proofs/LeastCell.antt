-- The first open cell is between the last two edges on its border, each of which is found between its ends on a plane.
use Rattle.std.proofs.Common.{◌≡◌, ℕ, ◌<◌, ◌≤◌, ◌^◌, ℤ, ◌<ℤ◌, ◌≤ℤ◌, arith, false, of_z, pos, to_z, true, ◌≢◌, inl}
use Rattle.std.proofs.Common.{inr, ⊎_elim, zero, suc, refl, sym, ap, subst, ◌∙◌, negsuc, ◌+ℤ◌, ◌-ℤ◌, ◌*ℤ◌, List, []}
use Rattle.std.proofs.Common.{◌∷◌, ◌++◌, All, Contains, ◌⊎◌, unsigned_abs, length, map}
use Rattle.std.specs.Prelude.{int_le, int_lt, unsigned_abs, slice_get, Some}
use Rattle.std.specs.Int.{w128}
use Rattle.std.proofs.lemmas.Int.{ints, by_lt_z}
use Rattle.staat_vec.proofs.ReadBack.{read_back}
use Rattle.std.proofs.lemmas.List.Elements.{All-push, All-weaker, All-contains, All-cons, All-head, All-tail}
use Rattle.staat_vec.specs.declared.vector.V3.{V3}
use Rattle.staat_vec.specs.declared.vector.TheConstants.{VERTEX, EDGE}
use Rattle.staat_vec.specs.Primitives.{IsCanon, or_next, IsPrimitiveOf, primitive}
use Rattle.staat_vec.specs.Vectors.{IsWithin, cross, dot, origin, plus, sign, vector}
use Rattle.staat_vec.proofs.Ring.{◌⊕◌, ◌⊖◌, ◌⊗◌, ring, zero-mul_ℤ}
use Rattle.staat_vec.proofs.VecRing.{crossE, dotE, values, v0, v1, v2, v3, v4, cross_self, dot_cross_left}
use Rattle.staat_vec.proofs.VecRing.{dot_cross_right}
use Rattle.staat_vec.proofs.Order.{negative_mul, cancel_not_positive, cancel_zero, negative_apart}
use Rattle.staat_cells.specs.declared.first_cell.Ends.{Ends}
use Rattle.staat_cells.specs.FirstCell.{AreArcEnds, AreNotAbove, HasNoLow, arc_ends, IsLowEdge, IsLowOn}
use Rattle.staat_cells.specs.FirstCell.{HasNoLowEdge, IsLastLowEdge, all_negative, first_entry}
use Rattle.staat_vec.proofs.Integers.{two_negatives, zero_nonpositive, negative_nonpositive, zero_not_negative}
use Rattle.staat_vec.proofs.Integers.{product_zero, sum_zero, zero_from_bounds}
use Rattle.staat_vec.proofs.VectorLaws.{dot_cross_about, dot_origin, dot_plus, plus_comm}
use Rattle.staat_vec.proofs.ListLaws.{place_of}
use Rattle.staat_vec.specs.declared.vector.Sign.TheVariants.{Neg, Zero, Pos}
use Rattle.staat_vec.proofs.Primitives.{primitive-is}
use Rattle.staat_model.specs.declared.tree.Kind.TheVariants.{Edge, Open}
use Rattle.staat_model.specs.Cells.{IsEnd, kind_of, signs_of, AreCellsOf, CellEntry, IsBorder, IsBorderEdge, IsCell}
use Rattle.staat_model.specs.Cells.{IsEntry, IsOpenSum, sign_place, signs_cmp}
use Rattle.staat_model.specs.Planes.{vertices}
use Rattle.staat_model.proofs.CornerLemmas.{dot_multiple}
use Rattle.staat_model.proofs.VertexLemmas.{in_vertices}
use Rattle.staat_pairs.specs.Tables.{AreTablePlanes, IsPlaneNormal}
use Rattle.staat_cells.proofs.Beside.{border_from, border_at, from_planes}
use Rattle.staat_cells.proofs.MadeUpCells.{sum_of_ends, open_sum}
use Rattle.staat_cells.proofs.EdgeIncidences.{off_crossing}
use Rattle.staat_cells.proofs.TableRules.{planes_apart, holds_axes}
use Rattle.staat_cells.proofs.Zeros.{one_zero, none_zero, open_kind}
use Rattle.staat_vec.proofs.Signs.{negative_sign, sign_negative, times_sign, zero_sign}
use Rattle.staat_vec.proofs.Naturals.{same_or, trichotomy}
use Rattle.staat_vec.proofs.Options.{some_injective}
use Rattle.staat_model.proofs.CellLemmas.{kind_edge, edge_zeros, two_edges_lemma, zeros}
use Rattle.std.specs.Ordering.{nat_cmp, ordering_then}
use Rattle.std.specs.declared.cmp.Ordering.TheVariants.{Less}
use Rattle.std.proofs.lemmas.Map.Views.{All-after_first}
use Rattle.staat_vec.specs.declared.vector.Sign.{Sign}
use Rattle.staat_vec.specs.Lists.{Lists}
use Rattle.staat_vec.proofs.Unique.{Contains-cases, Contains-nothing, from_place}
use Rattle.staat_model.proofs.EndLemmas.{on_one}
use Rattle.staat_model.proofs.Places.{place_within}
use Rattle.staat_cells.specs.declared.first_cell.LowEdge.{LowEdge}
use Rattle.staat_cells.proofs.SignOrder.{then_less}
use Rattle.staat_vec.proofs.Comparisons.{nat_cmp-same}

-- of a, which came as the number z
module _ (z a : ℤ) (n : ℕ) (is : z ≡ a) (size : unsigned_abs z ≤ n) (small : n < 2 ^ 127) where
  pub above_zero : int_lt (pos 0) (to_z w128 (of_z w128 z)) ≡ true → pos 0 <ℤ a
  above_zero test = let plain = rw (read_back w128 z n size small) at test in omega (arith, ints)

  pub to_zero : int_lt (pos 0) (to_z w128 (of_z w128 z)) ≡ false → a ≤ℤ pos 0
  to_zero test = let plain = rw (read_back w128 z n size small) at test in omega (arith, ints)

  pub below_zero : int_le (pos 0) (to_z w128 (of_z w128 z)) ≡ false → a <ℤ pos 0
  below_zero test = let plain = rw (read_back w128 z n size small) at test in omega (arith, ints)

  pub from_zero : int_le (pos 0) (to_z w128 (of_z w128 z)) ≡ true → pos 0 ≤ℤ a
  from_zero test = let plain = rw (read_back w128 z n size small) at test in omega (arith, ints)

-- ---- signs of products

not_above_product : (a b : ℤ) → a ≤ℤ pos 0 → b ≤ℤ pos 0 → pos 0 ≤ℤ (a *ℤ b)
not_above_product (pos zero) b h k = omega (arith, ints)
not_above_product (pos (suc n)) b h k = absurd (omega (arith, ints))
not_above_product (negsuc a) (pos zero) h k = omega (arith, ints)
not_above_product (negsuc a) (pos (suc n)) h k = absurd (omega (arith, ints))
not_above_product (negsuc a) (negsuc b) h k = omega (arith, ints)

mixed_product : (a b : ℤ) → a ≤ℤ pos 0 → pos 0 ≤ℤ b → (a *ℤ b) ≤ℤ pos 0
mixed_product (pos zero) b h k = omega (arith, ints)
mixed_product (pos (suc n)) b h k = absurd (omega (arith, ints))
mixed_product (negsuc a) (pos n) h k = omega (arith, ints)
mixed_product (negsuc a) (negsuc b) h k = absurd (omega (arith, ints))

-- ---- the numbers of three planes and a direction

not_both : (x y : ℤ) → x <ℤ pos 0 → pos 0 ≤ℤ y → x ≡ y → ⊥
not_both x y h k e = omega (arith, ints)

differ_nonneg : (a b : ℤ) → pos 0 ≤ℤ a → b ≤ℤ pos 0 → pos 0 ≤ℤ (a -ℤ b)
differ_nonneg a b h k = omega (arith, ints)

still_low : (x det p q s t : ℤ) → det <ℤ pos 0 → p ≤ℤ pos 0 → pos 0 ≤ℤ q → s ≤ℤ pos 0
    → t ≤ℤ pos 0
    → x *ℤ det ≡ p *ℤ s -ℤ t *ℤ q → x ≤ℤ pos 0
still_low x det p q s t d hp hq hs ht e = by_lt_z {P = x ≤ℤ pos 0} (pos 0) x
    (λ up. absurd (not_both (x *ℤ det) (p *ℤ s -ℤ t *ℤ q) (negative_mul x det up d)
    (differ_nonneg (p *ℤ s) (t *ℤ q) (not_above_product p s hp hs) (mixed_product t q ht hq)) e))
    (λ le. le)

three_low : (a b c : ℤ) → a ≤ℤ pos 0 → b ≤ℤ pos 0 → c ≡ pos 0 → ((a +ℤ b) +ℤ c) ≤ℤ pos 0
three_low a b c h k e = omega (arith, ints)

pub over : (x y : ℤ) → pos 0 <ℤ x → y ≤ℤ pos 0 → x ≡ y → ⊥
over x y h k e = omega (arith, ints)

zero_times : (a b : ℤ) → a ≡ pos 0 → a *ℤ b ≡ pos 0
zero_times a b e = ap (λ z. z *ℤ b) e ∙ zero-mul_ℤ b

-- ---- equations

-- each direction by the three edges at which two of three planes cross
by_edges : (g a b h d : V3) → dot h d *ℤ dot b (cross g a)
    ≡ (dot b d *ℤ dot h (cross g a) +ℤ dot a d *ℤ dot h (cross b g)) +ℤ dot g d *ℤ dot h (cross a b)
by_edges g a b h d = ring (values (g ∷ a ∷ b ∷ h ∷ d ∷ []) []) (dotE v3 v4 ⊗ dotE v2 (crossE v0 v1))
    ((dotE v2 v4 ⊗ dotE v3 (crossE v0 v1) ⊕ dotE v1 v4 ⊗ dotE v3 (crossE v2 v0))
    ⊕ dotE v0 v4 ⊗ dotE v3 (crossE v1 v2)) tt

first_moved : (g a b h m : V3) → dot m (cross g h) *ℤ dot b (cross g a)
    ≡ dot h (cross b g) *ℤ dot m (cross g a) -ℤ dot m (cross b g) *ℤ dot h (cross g a)
first_moved g a b h m = ring (values (g ∷ a ∷ b ∷ h ∷ m ∷ []) []) (dotE v4
    (crossE v0 v3) ⊗ dotE v2 (crossE v0 v1))
    (dotE v3 (crossE v2 v0) ⊗ dotE v4 (crossE v0 v1) ⊖ dotE v4 (crossE v2 v0) ⊗ dotE v3 (crossE v0 v1)) tt

second_moved : (g a b h m : V3) → dot m (cross h g) *ℤ dot b (cross g a)
    ≡ dot h (cross g a) *ℤ dot m (cross b g) -ℤ dot m (cross g a) *ℤ dot h (cross b g)
second_moved g a b h m = ring (values (g ∷ a ∷ b ∷ h ∷ m ∷ []) []) (dotE v4
    (crossE v3 v0) ⊗ dotE v2 (crossE v0 v1))
    (dotE v3 (crossE v0 v1) ⊗ dotE v4 (crossE v2 v0) ⊖ dotE v4 (crossE v0 v1) ⊗ dotE v3 (crossE v2 v0)) tt

-- ---- the ends after a plane was passed

module _ (planes passed : List V3) (g h : V3) (e : Ends) (are : AreArcEnds planes g passed e) where
  -- what the new ends keep of the planes that were passed, and have of h, they have of all
  one_passed : (n : Ends) → ((m : V3) → AreNotAbove e m → AreNotAbove n m) → AreNotAbove n h
      → All (AreNotAbove n) (passed ++ h ∷ [])
  one_passed n still here =
      All-push (AreNotAbove n) passed h (All-weaker (AreNotAbove e) (AreNotAbove n) still passed are.passed_are) here

  -- what is known of ends is known of the crossings
  crossings : (P : Ends → Type 0) → P e → P (arc_ends g are.a are.b)
  crossings P = subst P are.is

  pub both_kept : dot h e.first ≤ℤ pos 0 → dot h e.second ≤ℤ pos 0 → AreArcEnds planes g (passed ++ h ∷ []) e
  both_kept p q = record {
    a = are.a;
    b = are.b;
    a_in = are.a_in;
    b_in = are.b_in;
    is = are.is;
    turn = are.turn;
    first_size = are.first_size;
    second_size = are.second_size;
    passed_are = one_passed e (λ m k. k) (record { first = p; second = q });
  }

  pub first_cut : (w : V3) → Contains planes h → w ≡ cross g h → IsWithin VERTEX w → pos 0 ≤ℤ dot h e.first
      → dot h e.second <ℤ pos 0 → AreArcEnds planes g (passed ++ h ∷ []) (record { first = w; second = e.second })
  first_cut w h_in is size up low = record {
    a = h;
    b = are.b;
    a_in = h_in;
    b_in = are.b_in;
    is = λ i. record { first = is i; second = (are.is i).second };
    turn = subst (λ z. z <ℤ pos 0) (sym (dot_cross_about are.b g h)) under;
    first_size = size;
    second_size = are.second_size;
    passed_are = one_passed (record { first = w; second = e.second })
        (λ m k. record { first = subst (λ z. dot m z ≤ℤ pos 0) (sym is) (still m k); second = k.second })
        (record {
          first = zero_nonpositive (dot h w) (ap (dot h) is ∙ dot_cross_right g h);
          second = negative_nonpositive (dot h e.second) low;
        });
  }
    where
      under : dot h (cross are.b g) <ℤ pos 0
      under = crossings (λ n. dot h n.second <ℤ pos 0) low

      still : (m : V3) → AreNotAbove e m → dot m (cross g h) ≤ℤ pos 0
      still m k =
          let n = crossings (λ n. AreNotAbove n m) k in
          still_low (dot m (cross g h)) (dot are.b (cross g are.a)) (dot h (cross are.b g)) (dot h (cross g are.a))
          (dot m (cross g are.a)) (dot m (cross are.b g)) are.turn (negative_nonpositive (dot h (cross are.b g)) under)
          (crossings (λ n. pos 0 ≤ℤ dot h n.first) up) n.first n.second (first_moved g are.a are.b h m)

  pub second_cut : (w : V3) → Contains planes h → w ≡ cross h g → IsWithin VERTEX w → dot h e.first <ℤ pos 0
      → pos 0 ≤ℤ dot h e.second → AreArcEnds planes g (passed ++ h ∷ []) (record { first = e.first; second = w })
  second_cut w h_in is size low up = record {
    a = are.a;
    b = h;
    a_in = are.a_in;
    b_in = h_in;
    is = λ i. record { first = (are.is i).first; second = is i };
    turn = under;
    first_size = are.first_size;
    second_size = size;
    passed_are = one_passed (record { first = e.first; second = w })
        (λ m k. record { first = k.first; second = subst (λ z. dot m z ≤ℤ pos 0) (sym is) (still m k) })
        (record {
          first = negative_nonpositive (dot h e.first) low;
          second = zero_nonpositive (dot h w) (ap (dot h) is ∙ dot_cross_left h g);
        });
  }
    where
      under : dot h (cross g are.a) <ℤ pos 0
      under = crossings (λ n. dot h n.first <ℤ pos 0) low

      still : (m : V3) → AreNotAbove e m → dot m (cross h g) ≤ℤ pos 0
      still m k =
          let n = crossings (λ n. AreNotAbove n m) k in
          still_low (dot m (cross h g)) (dot are.b (cross g are.a)) (dot h (cross g are.a)) (dot h (cross are.b g))
          (dot m (cross are.b g)) (dot m (cross g are.a)) are.turn (negative_nonpositive (dot h (cross g are.a)) under)
          (crossings (λ n. pos 0 ≤ℤ dot h n.second) up) n.second n.first (second_moved g are.a are.b h m)

  pub none_left : Contains planes h → pos 0 ≤ℤ dot h e.first → pos 0 ≤ℤ dot h e.second
      → (dot h e.first ≤ℤ pos 0 → dot h e.second ≤ℤ pos 0 → ⊥) → HasNoLow planes g
  none_left h_in up also not_both_zero d low = ⊎_elim on_g beside (low.below h h_in)
    where
      det : ℤ
      det = dot are.b (cross g are.a)

      on_g : h ≡ g → ⊥
      on_g same = not_both_zero
          (zero_nonpositive (dot h e.first)
          ((λ i. dot (same i) (are.is i).first) ∙ dot_cross_left g are.a))
          (zero_nonpositive (dot h e.second)
          ((λ i. dot (same i) (are.is i).second) ∙ dot_cross_right are.b g))

      -- neither of the planes that g crosses at the ends is g
      under : (m : V3) → Contains planes m → (m ≡ g → det ≡ pos 0) → dot m d ≤ℤ pos 0
      under m m_in flat = elim (low.below m m_in) [
        | inl same ↦ absurd (zero_not_negative det (flat same) are.turn)
        | inr neg ↦ negative_nonpositive (dot m d) neg
      ]

      under_a : dot are.a d ≤ℤ pos 0
      under_a = under are.a are.a_in
          (λ same. ap (λ z. dot are.b (cross g z)) same ∙ ap (dot are.b) (cross_self g) ∙ dot_origin are.b)

      under_b : dot are.b d ≤ℤ pos 0
      under_b = under are.b are.b_in (λ same. ap (λ z. dot z (cross g are.a)) same ∙ dot_cross_left g are.a)

      beside : dot h d <ℤ pos 0 → ⊥
      beside neg = over (dot h d *ℤ det)
          ((dot are.b d *ℤ dot h (cross g are.a) +ℤ dot are.a d *ℤ dot h (cross are.b g))
          +ℤ dot g d *ℤ dot h (cross are.a are.b))
          (two_negatives (dot h d) det neg are.turn)
          (three_low (dot are.b d *ℤ dot h (cross g are.a)) (dot are.a d *ℤ dot h (cross are.b g))
          (dot g d *ℤ dot h (cross are.a are.b))
          (mixed_product (dot are.b d) (dot h (cross g are.a)) under_b (crossings (λ n. pos 0 ≤ℤ dot h n.first) up))
          (mixed_product (dot are.a d) (dot h (cross are.b g)) under_a (crossings (λ n. pos 0 ≤ℤ dot h n.second) also))
          (zero_times (dot g d) (dot h (cross are.a are.b)) low.on))
          (by_edges g are.a are.b h d)

-- ---- a vector whose first component that is not zero is positive

leads : (a r : ℤ) → pos 0 <ℤ or_next a r → (a ≢ pos 0 → pos 0 <ℤ a) × (a ≡ pos 0 → pos 0 <ℤ r)
leads (pos zero) r up = (λ some. absurd (some refl), λ none. up)
leads (pos (suc a)) r up = (λ some. up, λ none. absurd (omega (arith, ints)))
leads (negsuc a) r up = (λ some. up, λ none. absurd (omega (arith, ints)))

pub x_leads : (g : V3) → IsCanon g → g.x ≢ pos 0 → pos 0 <ℤ g.x
x_leads g up = (leads g.x (or_next g.y g.z) up).0

pub y_leads : (g : V3) → IsCanon g → g.x ≡ pos 0 → g.y ≢ pos 0 → pos 0 <ℤ g.y
y_leads g up x = (leads g.y g.z ((leads g.x (or_next g.y g.z) up).1 x)).0

pub z_leads : (g : V3) → IsCanon g → g.x ≡ pos 0 → g.y ≡ pos 0 → pos 0 <ℤ g.z
z_leads g up x y = (leads g.y g.z ((leads g.x (or_next g.y g.z) up).1 x)).1 y

-- ---- planes

pub same_or_apart : (planes : List V3) (m g : V3) → AreTablePlanes planes → Contains planes m → Contains planes g
    → (m ≡ g) ⊎ (cross m g ≢ origin)
same_or_apart planes m g are m_in g_in =
    let (k, m_at) = place_of planes m m_in in
    let (j, g_at) = place_of planes g g_in in
    elim (same_or k j) [
      | inl same ↦ inl (some_injective m g (sym m_at ∙ ap (slice_get planes) same ∙ g_at))
      | inr other ↦ inr (are.apart k j m g m_at g_at other)
    ]

-- a direction on the negative side of some plane is not zero
some_low : (m d : V3) → dot m d <ℤ pos 0 → d ≢ origin
some_low m d low none = zero_not_negative (dot m d) (ap (dot m) none ∙ dot_origin m) low

module _ (planes : List V3) (are : AreTablePlanes planes) (g d : V3) (g_in : Contains planes g)
    (low : IsLowOn planes g d) where
  pub low_kind : kind_of (signs_of planes d) ≡ Edge
  low_kind = kind_edge (signs_of planes d)
      (one_zero (λ n. sign (dot n d)) planes g (planes_apart planes are) g_in (ap sign low.on) beside)
    where
      beside : (m : V3) → Contains planes m → cross m g ≢ origin → sign (dot m d) ≢ Zero
      beside m m_in apart on = ⊎_elim
          (λ same. apart (ap (λ z. cross z g) same ∙ cross_self g))
          (λ under. let neg : sign (dot m d) ≡ Neg = negative_sign (dot m d) under in cc)
          (low.below m m_in)

-- ---- the vertices at the ends of an edge

-- x is a vertex on the planes g and h, on the negative side of o and on the positive side of no plane; what holds x
-- holds the crossing of g and h
record IsLowCorner (planes : List V3) (g h o x : V3) : Type 0 where
  vertex : Contains (vertices planes) x
  on_g : dot g x ≡ pos 0
  on_h : dot h x ≡ pos 0
  low : dot o x <ℤ pos 0
  under : (m : V3) → Contains planes m → dot m x ≤ℤ pos 0
  crossing : (m : V3) → dot m x ≡ pos 0 → dot m (cross g h) ≡ pos 0

low_corner : (planes : List V3) (g h o w : V3) → Contains planes g → Contains planes h → w ≡ cross g h → dot o w <ℤ pos 0
    → ((m : V3) → Contains planes m → dot m w ≤ℤ pos 0) → IsLowCorner planes g h o (primitive w)
low_corner planes g h o w g_in h_in is low under = record {
  vertex = in_vertices planes g h (primitive w) g_in h_in (λ z. some (is ∙ z)) (inl (ap primitive is));
  on_g = flat g (ap (dot g) is ∙ dot_cross_left g h);
  on_h = flat h (ap (dot h) is ∙ dot_cross_right g h);
  low = sign_negative (dot o (primitive w)) (sym (times_sign p.factor (dot o (primitive w)) p.positive)
      ∙ ap sign (sym (times o)) ∙ negative_sign (dot o w) low);
  under = λ m m_in. cancel_not_positive p.factor (dot m (primitive w)) p.positive
      (subst (λ z. z ≤ℤ pos 0) (times m) (under m m_in));
  crossing = λ m on. ap (dot m) (sym is) ∙ times m ∙ product_zero (pos p.factor) (dot m (primitive w)) on;
}
  where
    some : w ≢ origin
    some = some_low o w low

    p : IsPrimitiveOf w (primitive w)
    p = primitive-is w some

    times : (m : V3) → dot m w ≡ pos p.factor *ℤ dot m (primitive w)
    times m = dot_multiple m w (primitive w) p.factor p.multiple

    flat : (m : V3) → dot m w ≡ pos 0 → dot m (primitive w) ≡ pos 0
    flat m on = cancel_zero p.factor (dot m (primitive w)) p.positive (sym (times m) ∙ on)

low_sum : (x y s : ℤ) → s ≡ x +ℤ y → x <ℤ pos 0 → y ≤ℤ pos 0 → s <ℤ pos 0
low_sum x y s e h k = omega (arith, ints)

both_flat : (x y s : ℤ) → s ≡ x +ℤ y → x ≤ℤ pos 0 → y ≤ℤ pos 0 → pos 0 ≤ℤ s → (x ≡ pos 0) × (y ≡ pos 0)
both_flat x y s e h k l = (omega (arith, ints), omega (arith, ints))

low_end : (planes : List V3) (g h o x y : V3) → IsLowCorner planes g h o x
    → ((m : V3) → Contains planes m → dot m y ≤ℤ pos 0) → IsEnd planes (signs_of planes (plus x y)) x
low_end planes g h o x y corner under = record {
  vertex = corner.vertex;
  border = border_from (λ m. sign (dot m x)) (λ m. sign (dot m (plus x y))) planes (λ m m_in.
      by_lt_z {P = (sign (dot m x) ≡ sign (dot m (plus x y))) ⊎ (sign (dot m x) ≡ Zero)} (dot m x) (pos 0)
      (λ low. inl (negative_sign (dot m x) low ∙ sym (negative_sign (dot m (plus x y))
      (low_sum (dot m x) (dot m y) (dot m (plus x y)) (dot_plus m x y) low (under m m_in)))))
      (λ high. inr (ap sign (zero_from_bounds (dot m x) high (corner.under m m_in)))));
}

-- ---- the edge between the ends on a plane

module _ (planes : List V3) (are : AreTablePlanes planes) (g : V3) (g_in : Contains planes g) (e : Ends)
    (ends : AreArcEnds planes g planes e) where
  first_low : dot ends.b e.first <ℤ pos 0
  first_low = subst (λ (n : Ends). dot ends.b n.first <ℤ pos 0) (sym ends.is) ends.turn

  second_low : dot ends.a e.second <ℤ pos 0
  second_low = subst (λ (n : Ends). dot ends.a n.second <ℤ pos 0) (sym ends.is)
      (subst (λ z. z <ℤ pos 0) (dot_cross_about ends.b g ends.a) ends.turn)

  pub first_some : e.first ≢ origin
  first_some = some_low ends.b e.first first_low

  pub second_some : e.second ≢ origin
  second_some = some_low ends.a e.second second_low

  not_above : (m : V3) → Contains planes m → AreNotAbove e m
  not_above m = All-contains (AreNotAbove e) planes m ends.passed_are

  abbrev p : V3
  p = primitive e.first

  abbrev q : V3
  q = primitive e.second

  p_is : IsLowCorner planes g ends.a ends.b p
  p_is = low_corner planes g ends.a ends.b e.first g_in ends.a_in (ap (λ (n : Ends). n.first) ends.is) first_low
      (λ m m_in. (not_above m m_in).first)

  q_is : IsLowCorner planes ends.b g ends.a q
  q_is = low_corner planes ends.b g ends.a e.second ends.b_in g_in (ap (λ (n : Ends). n.second) ends.is) second_low
      (λ m m_in. (not_above m m_in).second)

  low_between : IsLowOn planes g (plus p q)
  low_between = record { on = dot_plus g p q ∙ sum_zero (dot g p) (dot g q) p_is.on_g q_is.on_h; below = below }
    where
      below : (m : V3) → Contains planes m → (m ≡ g) ⊎ (dot m (plus p q) <ℤ pos 0)
      below m m_in = elim (same_or_apart planes m g are m_in g_in) [
        | inl same ↦ inl same
        | inr apart ↦ by_lt_z {P = (m ≡ g) ⊎ (dot m (plus p q) <ℤ pos 0)} (dot m (plus p q)) (pos 0) (λ low. inr low)
            (λ high. let (z, y) = both_flat (dot m p) (dot m q) (dot m (plus p q)) (dot_plus m p q)
            (p_is.under m m_in) (q_is.under m m_in) high in
            absurd (off_crossing m g ends.a q y q_is.on_h (negative_apart (dot ends.a q) q_is.low) apart
            (p_is.crossing m z)))
      ]

  sum_low : dot ends.b (plus p q) <ℤ pos 0
  sum_low = low_sum (dot ends.b p) (dot ends.b q) (dot ends.b (plus p q)) (dot_plus ends.b p q) p_is.low
      (q_is.under ends.b ends.b_in)

  pub low_edge : (d : V3) → d ≡ plus p q → IsWithin EDGE d → IsLowEdge planes g d
  low_edge d is size = subst (IsLowEdge planes g) (sym is) (record {
    low = low_between;
    some = some_low ends.b (plus p q) sum_low;
    size = subst (IsWithin EDGE) is size;
    sum = sum_of_ends planes are (signs_of planes (plus p q)) p q
        (record { d = plus p q; nonzero = some_low ends.b (plus p q) sum_low; is = refl })
        (low_kind planes are g (plus p q) g_in low_between)
        (low_end planes g ends.a ends.b p q p_is q_is.under)
        (subst (λ s. IsEnd planes (signs_of planes s) q) (plus_comm q p)
        (low_end planes ends.b g ends.a q p q_is p_is.under))
        (λ same. zero_not_negative (dot ends.b p) (ap (dot ends.b) same ∙ q_is.on_g) p_is.low);
  })

-- ---- a direction on the negative side of all planes

-- x decides, or where it is 0 then y, or then z
abbrev far : V3
far = vector (negsuc 1208925819614629174706175) (negsuc 1099511627775) (negsuc 0)

by_first : (x y z : ℤ) → unsigned_abs x ≤ 549755813888 → unsigned_abs y ≤ 549755813888
    → unsigned_abs z ≤ 549755813888 → pos 0 <ℤ or_next x (or_next y z) → dot (vector x y z) far <ℤ pos 0
by_first (pos zero) (pos zero) z hx hy hz h = omega (arith, ints)
by_first (pos zero) (pos (suc y)) z hx hy hz h = omega (arith, ints)
by_first (pos zero) (negsuc y) z hx hy hz h = absurd (omega (arith, ints))
by_first (pos (suc x)) y z hx hy hz h = omega (arith, ints)
by_first (negsuc x) y z hx hy hz h = absurd (omega (arith, ints))

far_some : far ≢ origin
far_some e = let wrong : negsuc 0 ≡ pos 0 = ap (λ (v : V3). v.z) e in cc

-- ---- signs at a place

less_from : (f g : V3 → Sign) (gs : List V3) (k : ℕ) (h : V3) → slice_get gs k ≡ Some h → f h ≡ Neg
    → g h ≡ Zero
    → ((i : ℕ) (m : V3) → i < k → slice_get gs i ≡ Some m → f m ≡ g m)
    → signs_cmp (map f gs) (map g gs) ≡ Less
less_from f g [] k h at low flat before = cc
less_from f g (n ∷ gs) zero h at low flat before =
    let here : n ≡ h = some_injective n h at in
    (λ i. ordering_then (nat_cmp (sign_place ((ap f here ∙ low) i)) (sign_place ((ap g here ∙ flat) i)))
    (signs_cmp (map f gs) (map g gs)))
less_from f g (n ∷ gs) (suc k) h at low flat before =
    (λ i. ordering_then (nat_cmp (sign_place (before 0 n (omega arith) refl i)) (sign_place (g n)))
    (signs_cmp (map f gs) (map g gs)))
    ∙ ap (λ t. ordering_then t (signs_cmp (map f gs) (map g gs))) (nat_cmp-same (sign_place (g n)))
    ∙ less_from f g gs k h at low flat (λ i m lt e. before (suc i) m (omega arith) e)

module _ (planes : List V3) (are : AreTablePlanes planes) where
  pub negative_cell : IsCell planes (all_negative planes)
  negative_cell = record {
    d = far;
    nonzero = far_some;
    is = from_planes (λ n. sign (dot n far)) (λ n. Neg) planes (λ n n_in.
        let rules = All-contains IsPlaneNormal planes n are.each n_in in
        let small = rules.within in
        negative_sign (dot n far) (by_first n.x n.y n.z small.x small.y small.z rules.canonical));
  }

  pub negative_kind : kind_of (all_negative planes) ≡ Open
  negative_kind = open_kind (all_negative planes) (none_zero (λ n. Neg) planes (λ n n_in e. cc))

  different : (i j : ℕ) (m g : V3) → slice_get planes i ≡ Some m → slice_get planes j ≡ Some g
      → i ≢ j → m ≢ g
  different i j m g at is other same =
      are.apart i j m g at is other (ap (λ z. cross z g) same ∙ cross_self g)

  -- a direction on the plane g alone has Zero there, and Neg at each other plane
  zero_on : (g d : V3) → IsLowOn planes g d → sign (dot g d) ≡ Zero
  zero_on g d low = ap sign low.on

  neg_off : (g d m : V3) → IsLowOn planes g d → Contains planes m → m ≢ g → sign (dot m d) ≡ Neg
  neg_off g d m low m_in other = ⊎_elim {C = sign (dot m d) ≡ Neg} (λ same. absurd (other same))
      (λ under. negative_sign (dot m d) under) (low.below m m_in)

  same_signs : (g d x : V3) → Contains planes g → IsLowOn planes g d → IsLowOn planes g x
      → signs_of planes x ≡ signs_of planes d
  same_signs g d x g_in low other = from_planes (λ n. sign (dot n x)) (λ n. sign (dot n d)) planes
      (λ m m_in. elim (same_or_apart planes m g are m_in g_in) [
        | inl same ↦ (λ i. sign (dot (same i) x)) ∙ zero_on g x other ∙ sym (zero_on g d low)
            ∙ (λ i. sign (dot (sym same i) d))
        | inr apart ↦ let off : m ≢ g = λ e. apart (ap (λ z. cross z g) e ∙ cross_self g) in
            neg_off g x m other m_in off ∙ sym (neg_off g d m low m_in off)
      ])

  earlier : (j k : ℕ) (g h d x : V3) → slice_get planes j ≡ Some g → slice_get planes k ≡ Some h
      → IsLowOn planes g d → IsLowOn planes h x → k < j
      → signs_cmp (signs_of planes d) (signs_of planes x) ≡ Less
  earlier j k g h d x at is low other lt = less_from (λ n. sign (dot n d)) (λ n. sign (dot n x)) planes k h is
      (neg_off g d h low (from_place planes k h is) (different k j h g is at (λ e. omega (arith, lt, e))))
      (zero_on h x other)
      (λ i m before m_at. neg_off g d m low (from_place planes i m m_at)
      (different i j m g m_at at (λ e. omega (arith, lt, before, e)))
      ∙ sym (neg_off h x m other (from_place planes i m m_at)
      (different i k m h m_at is (λ e. omega (arith, before, e)))))

  -- ---- the edges on the border of the cell

  -- an edge with these signs is on the plane at place k
  record IsEdgeAt (s : List Sign) (k : ℕ) : Type 0 where
    g : V3
    d : V3
    at : slice_get planes k ≡ Some g
    low : IsLowOn planes g d
    is : signs_of planes d ≡ s

  edge_at : (s : List Sign) → IsBorderEdge planes (all_negative planes) s → (k : ℕ) × IsEdgeAt s k
  edge_at s b =
      let cell = b.cell in
      let (c, c_in, on, only) = on_one planes cell.d (ap zeros cell.is ∙ edge_zeros s b.edge) in
      let (k, at) = place_of planes c c_in in
      let border : IsBorder (signs_of planes cell.d) (all_negative planes) =
      subst (λ t. IsBorder t (all_negative planes)) (sym cell.is) b.border in (
        k,
        record {
          g = c;
          d = cell.d;
          at = at;
          low = record { on = on; below = λ m m_in. side cell.d c m m_in border (only m m_in) };
          is = cell.is;
        },
      )
    where
      side : (d c m : V3) → Contains planes m → IsBorder (signs_of planes d) (all_negative planes)
          → (m ≡ c) ⊎ (dot m d ≢ pos 0) → (m ≡ c) ⊎ (dot m d <ℤ pos 0)
      side d c m m_in border (inl same) = inl same
      side d c m m_in border (inr off) = inr (⊎_elim {C = dot m d <ℤ pos 0}
          (λ neg. sign_negative (dot m d) neg) (λ flat. absurd (off (zero_sign (dot m d) flat)))
          (border_at (λ n. sign (dot n d)) (λ n. Neg) planes m border m_in))

  at_edge : (k : ℕ) (g d : V3) → slice_get planes k ≡ Some g → IsLowEdge planes g d
      → IsBorderEdge planes (all_negative planes) (signs_of planes d)
  at_edge k g d at edge = record {
    cell = record { d = d; nonzero = edge.some; is = refl };
    edge = low_kind planes are g d (from_place planes k g at) edge.low;
    border = border_from (λ n. sign (dot n d)) (λ n. Neg) planes (λ m m_in. side d g m edge.low m_in);
  }
    where
      side : (d g m : V3) → IsLowOn planes g d → Contains planes m → (sign (dot m d) ≡ Neg)
          ⊎ (sign (dot m d) ≡ Zero)
      side d g m low m_in = ⊎_elim {C = (sign (dot m d) ≡ Neg) ⊎ (sign (dot m d) ≡ Zero)}
          (λ same. inr (ap (λ z. sign (dot z d)) same ∙ zero_on g d low))
          (λ under. inl (negative_sign (dot m d) under)) (low.below m m_in)

  -- ---- the search from the last plane on

  at_or_before : (e : LowEdge) (end k : ℕ) (s : List Sign) → IsLastLowEdge planes end e → IsEdgeAt s k → k < end
      → (s ≡ signs_of planes e.d) ⊎ ((k < e.place) × (signs_cmp (signs_of planes e.d) s ≡ Less))
  at_or_before e end k s last at within = by (trichotomy k e.place)
    where
      edge : IsLowEdge planes last.g e.d
      edge = last.edge

      by : (k < e.place) ⊎ ((k ≡ e.place) ⊎ (e.place < k))
          → (s ≡ signs_of planes e.d) ⊎ ((k < e.place) × (signs_cmp (signs_of planes e.d) s ≡ Less))
      by (inl lt) = inr (
        lt,
        ap (signs_cmp (signs_of planes e.d)) (sym at.is)
            ∙ earlier e.place k last.g at.g e.d at.d last.at at.at edge.low at.low lt,
      )
      by (inr (inl same)) =
          let here : at.g ≡ last.g = some_injective at.g last.g (sym at.at ∙ ap (slice_get planes) same ∙ last.at) in
          inl (sym at.is ∙ same_signs last.g e.d at.d (from_place planes e.place last.g last.at) edge.low (subst (λ z. IsLowOn planes z at.d) here at.low))
      by (inr (inr more)) = absurd (last.later k at.g more within at.at at.d at.low)

  -- an edge on the border is the last one, or on an earlier plane
  seen : (e : LowEdge) → IsLastLowEdge planes (length planes) e → (s : List Sign) → IsBorderEdge planes (all_negative planes) s
      → (k : ℕ) × IsEdgeAt s k
      × ((s ≡ signs_of planes e.d) ⊎ ((k < e.place) × (signs_cmp (signs_of planes e.d) s ≡ Less)))
  seen e last s b =
      let (k, at) = edge_at s b in (k, at, at_or_before e (length planes) k s last at (place_within planes k at.g at.at))

  pub some_first : HasNoLowEdge planes (length planes) → ⊥
  some_first none =
      let two = two_edges_lemma planes (all_negative planes) (holds_axes planes are) (planes_apart planes are)
      negative_cell negative_kind in
      let (k, at) = edge_at two.e two.e_is in
      none k at.g (place_within planes k at.g at.at) at.at at.d at.low

  pub some_second : (e : LowEdge) → IsLastLowEdge planes (length planes) e → HasNoLowEdge planes e.place → ⊥
  some_second e last none =
      let two = two_edges_lemma planes (all_negative planes) (holds_axes planes are) (planes_apart planes are)
      negative_cell negative_kind in
      two.different (only two.e two.e_is ∙ sym (only two.f two.f_is))
    where
      only : (s : List Sign) → IsBorderEdge planes (all_negative planes) s → s ≡ signs_of planes e.d
      only s b =
          let (k, at, found) = seen e last s b in
          ⊎_elim {C = s ≡ signs_of planes e.d} (λ same. same) (λ (lt, less). absurd (none k at.g lt at.at at.d at.low)) found

  pub first_cell : (e f : LowEdge) (d : V3) → IsLastLowEdge planes (length planes) e
      → IsLastLowEdge planes e.place f
      → d ≡ plus e.d f.d → IsEntry planes Open (first_entry planes d)
  first_cell e f d e_is f_is is = record {
    kind_is = refl;
    by_count = negative_kind;
    cell = negative_cell;
    representative = subst (IsOpenSum planes (all_negative planes)) (sym is)
        (open_sum planes (all_negative planes) (signs_of planes e.d) (signs_of planes f.d) e.d f.d
        (at_edge e.place e_is.g e.d e_is.at e_edge) (at_edge f.place f_is.g f.d f_is.at f_edge) e_edge.sum f_edge.sum
        (earlier e.place f.place e_is.g f_is.g e.d f.d e_is.at f_is.at e_edge.low f_edge.low f_is.before)
        (λ y b. let (k, at, found) = seen e e_is y b in elim found [
          | inl same ↦ inl same
          | inr before ↦ inr (elim (at_or_before f e.place k y f_is at before.0) [
            | inl same ↦ inl same
            | inr later ↦ inr later.1
          ])
        ]));
  }
    where
      e_edge : IsLowEdge planes e_is.g e.d
      e_edge = e_is.edge

      f_edge : IsLowEdge planes f_is.g f.d
      f_edge = f_is.edge

-- ---- the cell stands first in the list of open cells

low_first : (s : Sign) → nat_cmp (sign_place s) (sign_place Neg) ≡ Less → ⊥
low_first Neg e = cc
low_first Zero e = cc
low_first Pos e = cc

none_before : (f : V3 → Sign) (gs : List V3) → signs_cmp (map f gs) (map (λ n. Neg) gs) ≡ Less → ⊥
none_before f [] e = cc
none_before f (n ∷ gs) e = ⊎_elim (λ less. low_first (f n) less) (λ (same, less). none_before f gs less)
    (then_less (nat_cmp (sign_place (f n)) (sign_place Neg)) (signs_cmp (map f gs) (map (λ m. Neg) gs)) e)

pub first_listed : (planes : List V3) → AreTablePlanes planes → (d : V3)
    → IsEntry planes Open (first_entry planes d)
    → (opens : List CellEntry) → AreCellsOf planes Open opens
    → (rest : List CellEntry) × AreCellsOf planes Open (first_entry planes d ∷ rest)
first_listed planes are d entry [] of =
    let signs = of.signs in
    absurd (Contains-nothing (all_negative planes) (signs.all (all_negative planes)
    (negative_cell planes are, negative_kind planes are)))
first_listed planes are d entry (c ∷ rest) of = (
  rest,
  record {
    each = All-cons (IsEntry planes Open) (first_entry planes d) rest entry
        (All-tail (IsEntry planes Open) c rest of.each);
    signs = subst (λ s. Lists signs_cmp (λ t. IsCell planes t
        × (kind_of t ≡ Open)) (s ∷ map (λ x. x.signs) rest))
        same of.signs;
  },
)
  where
    cell : IsCell planes c.signs
    cell = (All-head (IsEntry planes Open) c rest of.each).cell

    same : c.signs ≡ all_negative planes
    same =
        let signs = of.signs in
        ⊎_elim {C = c.signs ≡ all_negative planes} (λ e. sym e)
        (λ later. absurd (none_before (λ n. sign (dot n cell.d)) planes
        (ap (λ s. signs_cmp s (all_negative planes)) cell.is
        ∙ All-contains (λ q. signs_cmp c.signs q ≡ Less) (map (λ x. x.signs) rest) (all_negative planes)
        (All-after_first signs_cmp c.signs (map (λ x. x.signs) rest) signs.ascending) later)))
        (Contains-cases c.signs (map (λ x. x.signs) rest) (all_negative planes)
        (signs.all (all_negative planes) (negative_cell planes are, negative_kind planes are)))
