-- Two of the eight open cells of the axes: their signs and their representatives.
use Rattle.std.proofs.Common.{◌≡◌, ◌≢◌, ◌⊎◌, Bool, true, false, List, [], ◌∷◌, All, Contains, ap, sym, subst, refl, ◌∙◌, inl, inr, ℤ, pos, neg_ℤ, lit<, rules}
use Rattle.std.specs.Prelude.{◌&&◌, ◌||◌, not}
use Rattle.std.proofs.lemmas.Bool.{or_cases}
use Rattle.std.specs.List.{list_all}
use Rattle.std.specs.Ordering.{is_eq}
use Rattle.std.specs.declared.cmp.Ordering.TheVariants.{Less}
use Rattle.staat_vec.proofs.Comparisons.{from_is_eq}
use Rattle.std.proofs.lemmas.List.Elements.{All-contains}
use Rattle.staat_vec.specs.declared.vector.V3.{V3}
use Rattle.staat_vec.specs.declared.vector.Sign.{Sign}
use Rattle.staat_vec.specs.declared.vector.Sign.TheVariants.{Neg, Zero, Pos}
use Rattle.staat_vec.specs.Vectors.{plus, vector_cmp}
use Rattle.staat_vec.proofs.VectorOrder.{vector_exact}
use Rattle.staat_model.specs.declared.tree.Kind.TheVariants.{Point, Edge, Open}
use Rattle.staat_model.specs.Cells.{signs_of, signs_cmp, kind_of, IsBorder, IsEnd, IsEdgeSum, IsBorderEdge, IsRepresentative}
use Rattle.staat_model.specs.Planes.{axes}
use Rattle.staat_model.proofs.Examples.{axis_vertices, by_test, six, v}
use Rattle.staat_model.proofs.EndLemmas.{pair_lists}

abbrev m1 : ℤ
m1 = neg_ℤ (pos 1)

-- ---- borders by a test

abbrev may_border : Sign → Sign → Bool
may_border Zero t = true
may_border Neg Neg = true
may_border Pos Pos = true
may_border g t = false

abbrev borders : List Sign → List Sign → Bool
borders [] [] = true
borders (g ∷ f) (t ∷ s) = may_border g t && borders f s
borders f s = false

one_borders : (g t : Sign) → (g ≡ t) ⊎ (g ≡ Zero) → may_border g t ≡ true
one_borders Zero t h = refl
one_borders Neg Neg h = refl
one_borders Pos Pos h = refl
one_borders g t (inl e) = cc
one_borders g t (inr e) = cc

border_test : (f s : List Sign) → IsBorder f s → borders f s ≡ true
border_test [] [] h = refl
border_test (g ∷ f) (t ∷ s) h = λ i. one_borders g t h.0 i && border_test f s h.1 i
border_test f s h = absurd h

-- ---- edges of the axes

vector_equal : (x u : V3) → is_eq (vector_cmp x u) ≡ true → x ≡ u
vector_equal x u h = vector_exact x u (from_is_eq (vector_cmp x u) h)

-- whether x is one of the two, or not on the border
abbrev no_other : List Sign → V3 → V3 → V3 → Bool
no_other s u w x = not (borders (signs_of axes x) s) || (is_eq (vector_cmp x u) || is_eq (vector_cmp x w))

-- where a test says so of the six vertices, the edge s has these two ends, and is represented by their sum
edge_sum : (s : List Sign) (u w : V3) → vector_cmp u w ≡ Less → Contains six u → Contains six w
    → IsBorder (signs_of axes u) s → IsBorder (signs_of axes w) s → list_all (no_other s u w) six ≡ true
    → IsEdgeSum axes s (plus u w)
edge_sum s u w less u_in w_in u_on w_on test = record {
  u = u;
  v = w;
  ends = pair_lists (IsEnd axes s) u w less (end u u_in u_on) (end w w_in w_on)
      (λ x h. All-contains (λ y. IsBorder (signs_of axes y) s → (y ≡ u) ⊎ (y ≡ w)) six x only (subst (λ (xs : List V3). Contains xs x) axis_vertices h.vertex) h.border);
  is = refl;
}
  where
    end : (x : V3) → Contains six x → IsBorder (signs_of axes x) s → IsEnd axes s x
    end x h on = record { vertex = subst (λ (xs : List V3). Contains xs x) (sym axis_vertices) h; border = on }

    one_of : (x : V3) → no_other s u w x ≡ true → IsBorder (signs_of axes x) s → (x ≡ u) ⊎ (x ≡ w)
    one_of x h on =
        let passes : (is_eq (vector_cmp x u) || is_eq (vector_cmp x w)) ≡ true =
        sym (ap (λ b. not b || (is_eq (vector_cmp x u) || is_eq (vector_cmp x w))) (border_test (signs_of axes x) s on)) ∙ h in
        elim (or_cases _ _ passes) [ inl e ↦ inl (vector_equal x u e) | inr e ↦ inr (vector_equal x w e) ]

    only : All (λ x. IsBorder (signs_of axes x) s → (x ≡ u) ⊎ (x ≡ w)) six
    only = by_test (no_other s u w) (λ x. IsBorder (signs_of axes x) s → (x ≡ u) ⊎ (x ≡ w)) one_of six test

-- ---- the edges on the border of an open cell of the axes whose signs are all one

record Kinds (t : Sign) : Type 0 where
  none : kind_of (t ∷ t ∷ t ∷ []) ≡ Open
  xy : kind_of (Zero ∷ Zero ∷ t ∷ []) ≡ Point
  xz : kind_of (Zero ∷ t ∷ Zero ∷ []) ≡ Point
  yz : kind_of (t ∷ Zero ∷ Zero ∷ []) ≡ Point

abbrev IsOne : List Sign → Sign → Type 0
IsOne s t = (s ≡ Zero ∷ t ∷ t ∷ []) ⊎ ((s ≡ t ∷ Zero ∷ t ∷ []) ⊎ (s ≡ t ∷ t ∷ Zero ∷ []))

one_zero : (t x y z : Sign) → Kinds t → kind_of (x ∷ y ∷ z ∷ []) ≡ Edge → (x ≡ t) ⊎ (x ≡ Zero) → (y ≡ t) ⊎ (y ≡ Zero) → (z ≡ t) ⊎ (z ≡ Zero) → IsOne (x ∷ y ∷ z ∷ []) t
one_zero t x y z kinds k (inr ex) (inl ey) (inl ez) = inl cc
one_zero t x y z kinds k (inl ex) (inr ey) (inl ez) = inr (inl cc)
one_zero t x y z kinds k (inl ex) (inl ey) (inr ez) = inr (inr cc)
one_zero t x y z kinds k (inl ex) (inl ey) (inl ez) = cc
one_zero t x y z kinds k (inl ex) (inr ey) (inr ez) = cc
one_zero t x y z kinds k (inr ex) (inl ey) (inr ez) = cc
one_zero t x y z kinds k (inr ex) (inr ey) (inl ez) = cc
one_zero t x y z kinds k (inr ex) (inr ey) (inr ez) = cc

border_edges : (t : Sign) (y : List Sign) → Kinds t → IsBorder y (t ∷ t ∷ t ∷ []) → kind_of y ≡ Edge → IsOne y t
border_edges t (x ∷ y ∷ z ∷ []) kinds h k = one_zero t x y z kinds k h.0 h.1.0 h.1.1.0
border_edges t y kinds h k = search rules

-- an open cell: the edges on its border are e, f and g in this order, and the first two have these representatives
open_cell : (s e f g : List Sign) (u w : V3) → ((y : List Sign) → IsBorder y s → kind_of y ≡ Edge → (y ≡ e) ⊎ ((y ≡ f) ⊎ (y ≡ g)))
    → signs_cmp e f ≡ Less → signs_cmp e g ≡ Less → signs_cmp f g ≡ Less → f ≢ e
    → IsBorderEdge axes s e → IsBorderEdge axes s f → IsEdgeSum axes e u → IsEdgeSum axes f w → IsRepresentative Open axes s (plus u w)
open_cell s e f g u w edges ef eg fg different e_is f_is u_is w_is = record {
  e = e;
  f = f;
  u = u;
  v = w;
  first = record {
    has = e_is;
    least = λ y h. elim (edges y h.border h.edge) [ inl is ↦ inl is | inr other ↦ inr (elim other [ inl is ↦ ap (signs_cmp e) is ∙ ef | inr is ↦ ap (signs_cmp e) is ∙ eg ]) ];
  };
  second = record {
    has = (f_is, different);
    least = λ y h. elim (edges y h.0.border h.0.edge) [ inl is ↦ absurd (h.1 is) | inr other ↦ elim other [ inl is ↦ inl is | inr is ↦ inr (ap (signs_cmp f) is ∙ fg) ] ];
  };
  u_is = u_is;
  v_is = w_is;
  is = refl;
}

-- ---- the cell in which all three components are positive: its representative is (1,1,2)

up_signs : signs_of axes (v (pos 1) (pos 1) (pos 2)) ≡ Pos ∷ Pos ∷ Pos ∷ []
up_signs = refl

-- the first edge on its border
up_first : IsEdgeSum axes (Zero ∷ Pos ∷ Pos ∷ []) (v (pos 0) (pos 1) (pos 1))
up_first = edge_sum _ (v (pos 0) (pos 0) (pos 1)) (v (pos 0) (pos 1) (pos 0)) refl (0, lit< tt, refl) (3, lit< tt, refl)
    (inl refl, (inr refl, (inl refl, tt))) (inl refl, (inl refl, (inr refl, tt))) refl

-- the second
up_second : IsEdgeSum axes (Pos ∷ Zero ∷ Pos ∷ []) (v (pos 1) (pos 0) (pos 1))
up_second = edge_sum _ (v (pos 0) (pos 0) (pos 1)) (v (pos 1) (pos 0) (pos 0)) refl (0, lit< tt, refl) (4, lit< tt, refl)
    (inr refl, (inl refl, (inl refl, tt))) (inl refl, (inl refl, (inr refl, tt))) refl

up_first_is : IsBorderEdge axes (Pos ∷ Pos ∷ Pos ∷ []) (Zero ∷ Pos ∷ Pos ∷ [])
up_first_is = record { cell = record { d = v (pos 0) (pos 1) (pos 1); nonzero = λ e. let wrong : pos 1 ≡ pos 0 = ap (λ (n : V3). n.y) e in cc; is = refl }; edge = refl; border = (inr refl, (inl refl, (inl refl, tt))) }

up_second_is : IsBorderEdge axes (Pos ∷ Pos ∷ Pos ∷ []) (Pos ∷ Zero ∷ Pos ∷ [])
up_second_is = record { cell = record { d = v (pos 1) (pos 0) (pos 1); nonzero = λ e. let wrong : pos 1 ≡ pos 0 = ap (λ (n : V3). n.x) e in cc; is = refl }; edge = refl; border = (inl refl, (inr refl, (inl refl, tt))) }

up_cell : IsRepresentative Open axes (Pos ∷ Pos ∷ Pos ∷ []) (v (pos 1) (pos 1) (pos 2))
up_cell = open_cell _ _ _ (Pos ∷ Pos ∷ Zero ∷ []) _ _ edges refl refl refl (λ e. cc) up_first_is up_second_is up_first up_second
  where
    edges : (y : List Sign) → IsBorder y (Pos ∷ Pos ∷ Pos ∷ []) → kind_of y ≡ Edge → (y ≡ Zero ∷ Pos ∷ Pos ∷ []) ⊎ ((y ≡ Pos ∷ Zero ∷ Pos ∷ []) ⊎ (y ≡ Pos ∷ Pos ∷ Zero ∷ []))
    edges y = border_edges Pos y (record { none = refl; xy = refl; xz = refl; yz = refl })

-- ---- the cell in which all three components are negative: its representative is (-2,-1,-1)

down_signs : signs_of axes (v (neg_ℤ (pos 2)) m1 m1) ≡ Neg ∷ Neg ∷ Neg ∷ []
down_signs = refl

-- the first edge on its border
down_first : IsEdgeSum axes (Neg ∷ Neg ∷ Zero ∷ []) (v m1 m1 (pos 0))
down_first = edge_sum _ (v m1 (pos 0) (pos 0)) (v (pos 0) m1 (pos 0)) refl (5, lit< tt, refl) (2, lit< tt, refl)
    (inl refl, (inr refl, (inl refl, tt))) (inr refl, (inl refl, (inl refl, tt))) refl

-- the second
down_second : IsEdgeSum axes (Neg ∷ Zero ∷ Neg ∷ []) (v m1 (pos 0) m1)
down_second = edge_sum _ (v m1 (pos 0) (pos 0)) (v (pos 0) (pos 0) m1) refl (5, lit< tt, refl) (1, lit< tt, refl)
    (inl refl, (inl refl, (inr refl, tt))) (inr refl, (inl refl, (inl refl, tt))) refl

down_first_is : IsBorderEdge axes (Neg ∷ Neg ∷ Neg ∷ []) (Neg ∷ Neg ∷ Zero ∷ [])
down_first_is = record { cell = record { d = v m1 m1 (pos 0); nonzero = λ e. let wrong : m1 ≡ pos 0 = ap (λ (n : V3). n.x) e in cc; is = refl }; edge = refl; border = (inl refl, (inl refl, (inr refl, tt))) }

down_second_is : IsBorderEdge axes (Neg ∷ Neg ∷ Neg ∷ []) (Neg ∷ Zero ∷ Neg ∷ [])
down_second_is = record { cell = record { d = v m1 (pos 0) m1; nonzero = λ e. let wrong : m1 ≡ pos 0 = ap (λ (n : V3). n.x) e in cc; is = refl }; edge = refl; border = (inl refl, (inr refl, (inl refl, tt))) }

down_cell : IsRepresentative Open axes (Neg ∷ Neg ∷ Neg ∷ []) (v (neg_ℤ (pos 2)) m1 m1)
down_cell = open_cell _ _ _ (Zero ∷ Neg ∷ Neg ∷ []) _ _ edges refl refl refl (λ e. cc) down_first_is down_second_is down_first down_second
  where
    edges : (y : List Sign) → IsBorder y (Neg ∷ Neg ∷ Neg ∷ []) → kind_of y ≡ Edge → (y ≡ Neg ∷ Neg ∷ Zero ∷ []) ⊎ ((y ≡ Neg ∷ Zero ∷ Neg ∷ []) ⊎ (y ≡ Zero ∷ Neg ∷ Neg ∷ []))
    edges y h k = elim (border_edges Neg y (record { none = refl; xy = refl; xz = refl; yz = refl }) h k) [ inl e ↦ inr (inr e) | inr other ↦ elim other [ inl e ↦ inr (inl e) | inr e ↦ inl e ] ]
