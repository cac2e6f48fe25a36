-- Some crossing of planes that hold the axes lies on the border of the cell of each direction.
use Rattle.std.proofs.Common.{◌≡◌, ◌≢◌, ◌∙◌, ap, arith, sym, refl, subst, pos, ◌≤ℤ◌, ◌⊎◌, inl, inr, List, [], ◌∷◌, ◌++◌, map, Contains}
use Rattle.std.proofs.lemmas.Int.{by_lt_z}
use Rattle.std.proofs.lemmas.List.Elements.{All-contains, Contains-append_cases, Contains-append_left, Contains-append_right}
use Rattle.staat_vec.specs.declared.vector.V3.{V3}
use Rattle.staat_vec.specs.Vectors.{vector, dot, cross, negative, origin}
use Rattle.staat_vec.specs.Primitives.{IsPrimitive, primitive}
use Rattle.staat_vec.proofs.VecRing.{crossE, negativeE, values, v0, v1, ring3, negative_dot, dot_cross_left, dot_cross_right, dot_negative}
use Rattle.staat_vec.proofs.Primitives.{IsPrimitive-negative, primitive-is, primitive-negative}
use Rattle.staat_model.specs.Planes.{axes}
use Rattle.staat_model.specs.Cones.{IsAbove, HasAxes, HasEither, IsCrossing}
use Rattle.staat_model.proofs.CornerLemmas.{across_primitive, corner_lemma}
use Rattle.staat_model.proofs.Decisions.{kept, le_or}
use Rattle.staat_model.proofs.Differences.{from_map}
use Rattle.staat_model.proofs.Members.{All-from_members}
use Rattle.staat_vec.proofs.Integers.{opposite_nonneg, opposite_zero, opposite_zero_back, opposite_nonpositive_back, negative_nonpositive}
use Rattle.staat_vec.proofs.ListLaws.{Contains-map}

-- v is on no other side of g than d
pub record IsTowards (d v g : V3) : Type 0 where
  pub up : pos 0 ≤ℤ dot g d → pos 0 ≤ℤ dot g v
  pub down : dot g d ≤ℤ pos 0 → dot g v ≤ℤ pos 0

-- ---- the conditions of d's cell and its border

-- the member or its negative
abbrev pub IsSame : V3 → V3 → Type 0
IsSame s g = (s ≡ g) ⊎ (s ≡ negative g)

pub same_zero : (e g d : V3) → IsSame e g → dot g d ≡ pos 0 → dot e d ≡ pos 0
same_zero e g d (inl p) h = ap (λ v. dot v d) p ∙ h
same_zero e g d (inr p) h = opposite_zero (dot e d) (dot g d) (ap (λ v. dot v d) p ∙ negative_dot g d) h

pub same_back : (e g d : V3) → IsSame e g → dot e d ≡ pos 0 → dot g d ≡ pos 0
same_back e g d (inl p) h = ap (λ v. dot v d) (sym p) ∙ h
same_back e g d (inr p) h = opposite_zero_back (dot e d) (dot g d) (ap (λ v. dot v d) p ∙ negative_dot g d) h

pub record Conditions (d : V3) (gs : List V3) : Type 0 where
  pub cs : List V3
  pub above : IsAbove d cs
  pub only : (c : V3) → Contains cs c → (g : V3) × Contains gs g × IsSame c g
  pub up : (g : V3) → Contains gs g → pos 0 ≤ℤ dot g d → Contains cs g
  pub down : (g : V3) → Contains gs g → dot g d ≤ℤ pos 0 → Contains cs (negative g)

-- each plane and its negative, where d is not behind it
pub conditions : (d : V3) (gs : List V3) → Conditions d gs
conditions d gs =
    let both = gs ++ map negative gs in
    let (cs, from, all) = kept (λ c. pos 0 ≤ℤ dot c d) (λ c. le_or (pos 0) (dot c d)) both in record {
      cs = cs;
      above = All-from_members (λ c. pos 0 ≤ℤ dot c d) cs (λ c c_in. (from c c_in).1);
      only = λ c c_in. elim (Contains-append_cases gs (map negative gs) c (from c c_in).0) [
        | inl here ↦ (c, here, inl refl)
        | inr turned ↦ (let (g, g_in, is) = from_map negative gs c turned in (g, g_in, inr is))
      ];
      up = λ g g_in h. all g (Contains-append_left gs (map negative gs) g g_in) h;
      down = λ g g_in h. all (negative g) (Contains-append_right gs (map negative gs) (negative g) (Contains-map negative gs g g_in))
          (opposite_nonneg (dot (negative g) d) (dot g d) (negative_dot g d) h);
    }

-- ---- the crossing

-- the cross product of two vectors that are known up to their signs
pub cross_signs : (c e g h : V3) → IsSame c g → IsSame e h → IsSame (cross c e) (cross g h)
cross_signs c e g h (inl p) (inl q) = inl (λ i. cross (p i) (q i))
cross_signs c e g h (inr p) (inl q) = inr ((λ i. cross (p i) (q i)) ∙ ring3 (values (g ∷ h ∷ []) []) (crossE (negativeE v0) v1) (negativeE (crossE v0 v1)) (tt, tt, tt))
cross_signs c e g h (inl p) (inr q) = inr ((λ i. cross (p i) (q i)) ∙ ring3 (values (g ∷ h ∷ []) []) (crossE v0 (negativeE v1)) (negativeE (crossE v0 v1)) (tt, tt, tt))
cross_signs c e g h (inr p) (inr q) = inl ((λ i. cross (p i) (q i)) ∙ ring3 (values (g ∷ h ∷ []) []) (crossE (negativeE v0) (negativeE v1)) (crossE v0 v1) (tt, tt, tt))

some_signs : (f g : V3) → IsSame f g → f ≢ origin → g ≢ origin
some_signs f g (inl p) some q = some (p ∙ q)
some_signs f g (inr p) some q = some (p ∙ ap negative q)

primitive_signs : (f g : V3) → IsSame f g → IsSame (primitive f) (primitive g)
primitive_signs f g (inl p) = inl (ap primitive p)
primitive_signs f g (inr p) = inr (ap primitive p ∙ primitive-negative g)

-- v is the direction in which two planes of the list meet, or its negative, on no other side of any of them than d
pub record IsCornerTowards (gs : List V3) (d v : V3) : Type 0 where
  pub g : V3
  pub h : V3
  pub g_in : Contains gs g
  pub h_in : Contains gs h
  pub independent : cross g h ≢ origin
  pub is : IsSame v (primitive (cross g h))
  pub towards : (m : V3) → Contains gs m → IsTowards d v m

-- a primitive vector on two planes
pub record IsOnBoth (v g h : V3) : Type 0 where
  pub primitive : IsPrimitive v
  pub on_g : dot g v ≡ pos 0
  pub on_h : dot h v ≡ pos 0

-- a crossing is one
pub on_both : (v g h : V3) → cross g h ≢ origin → IsSame v (primitive (cross g h)) → IsOnBoth v g h
on_both v g h some same = record { primitive = whole same; on_g = flat g (dot_cross_left g h) same; on_h = flat h (dot_cross_right g h) same }
  where
    f : V3
    f = primitive (cross g h)

    whole : IsSame v f → IsPrimitive v
    whole (inl e) = let p = primitive-is (cross g h) some in subst (λ z. IsPrimitive z) (sym e) p.primitive
    whole (inr e) = let p = primitive-is (cross g h) some in subst (λ z. IsPrimitive z) (sym e) (IsPrimitive-negative f p.primitive)

    flat : (m : V3) → dot m (cross g h) ≡ pos 0 → IsSame v f → dot m v ≡ pos 0
    flat m on (inl e) = ap (dot m) e ∙ across_primitive m (cross g h) some on
    flat m on (inr e) = opposite_zero (dot m v) (dot m f) (ap (dot m) e ∙ dot_negative m f) (across_primitive m (cross g h) some on)

-- the three axes stand in the list
pub record HoldsAxes (gs : List V3) : Type 0 where
  pub x : Contains gs (vector (pos 1) (pos 0) (pos 0))
  pub y : Contains gs (vector (pos 0) (pos 1) (pos 0))
  pub z : Contains gs (vector (pos 0) (pos 0) (pos 1))

pub axes_held : (gs : List V3) → ((axis : V3) → Contains axes axis → Contains gs axis) → HoldsAxes gs
axes_held gs f = record { x = f _ (0, omega arith, refl); y = f _ (1, omega arith, refl); z = f _ (2, omega arith, refl) }

either : (d axis : V3) (gs : List V3) (c : Conditions d gs) → Contains gs axis → HasEither c.cs axis
either d axis gs c in_gs =
    by_lt_z {P = HasEither c.cs axis} (dot axis d) (pos 0)
    (λ neg. inr (c.down axis in_gs (negative_nonpositive (dot axis d) neg)))
    (λ nonneg. inl (c.up axis in_gs nonneg))

pub have_axes : (d : V3) (gs : List V3) (c : Conditions d gs) → HoldsAxes gs → HasAxes c.cs
have_axes d gs c axes = record { x = either d (vector (pos 1) (pos 0) (pos 0)) gs c axes.x; y = either d (vector (pos 0) (pos 1) (pos 0)) gs c axes.y; z = either d (vector (pos 0) (pos 0) (pos 1)) gs c axes.z }

-- a crossing of the conditions that is above them
pub is_corner : (d v : V3) (gs : List V3) (c : Conditions d gs) → IsCrossing c.cs v → IsAbove v c.cs → IsCornerTowards gs d v
is_corner d v gs c cr above =
    let (g, g_in, g_same) = c.only cr.g cr.g_in in
    let (h, h_in, h_same) = c.only cr.h cr.h_in in
    let same = cross_signs cr.g cr.h g h g_same h_same in record {
      g = g;
      h = h;
      g_in = g_in;
      h_in = h_in;
      independent = some_signs (cross cr.g cr.h) (cross g h) same cr.independent;
      is = subst (λ z. IsSame z (primitive (cross g h))) (sym cr.is) (primitive_signs (cross cr.g cr.h) (cross g h) same);
      towards = λ m m_in. record {
        up = λ u. All-contains (λ c. pos 0 ≤ℤ dot c v) c.cs m above (c.up m m_in u);
        down = λ u. opposite_nonpositive_back (dot (negative m) v) (dot m v) (negative_dot m v) (All-contains (λ c. pos 0 ≤ℤ dot c v) c.cs (negative m) above (c.down m m_in u));
      };
    }

pub corner_towards : (gs : List V3) (d : V3) → HoldsAxes gs → d ≢ origin → (v : V3) × IsCornerTowards gs d v
corner_towards gs d axes some =
    let c = conditions d gs in
    let corner = corner_lemma c.cs d (have_axes d gs c axes) some c.above in
    (corner.v, is_corner d corner.v gs c corner.crossing corner.above)
