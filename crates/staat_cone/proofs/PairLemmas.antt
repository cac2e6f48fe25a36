-- Facets from pairs of vectors.
use Rattle.std.proofs.Common.{◌≡◌, ◌↔◌, Bool, true, false, IsTrue, ◌⊎◌, inl, inr, sym, ap, ◌∙◌, pos, ◌*ℤ◌, ◌≤ℤ◌, List, [], ◌∷◌, ◌++◌, Contains}
use Rattle.std.proofs.lemmas.List.Elements.{All-contains, All-weaker, Contains-append_left, Contains-push, Contains-push_cases}
use Rattle.staat_vec.specs.declared.vector.V3.{V3}
use Rattle.staat_vec.specs.Vectors.{dot, cross}
use Rattle.staat_vec.specs.Primitives.{IsPrimitiveOf}
use Rattle.staat_vec.proofs.Order.{nonneg_is, nonneg_mul, nonneg_pos, cancel_zero}
use Rattle.staat_vec.proofs.VecRing.{cross_self}
use Rattle.staat_model.specs.Cones.{IsAbove, IsAcrossTwo, IsConeFacet}
use Rattle.staat_model.proofs.Members.{All-from_members}
use Rattle.staat_model.proofs.CornerLemmas.{dot_multiple}
use Rattle.staat_model.proofs.FacetLemmas.{swap_zero}
use Rattle.staat_cone.specs.Pairs.{FromSome, IsThrough}

pub above_multiple : (vs : List V3) (f n : V3) → IsPrimitiveOf f n → IsAbove n vs → IsAbove f vs
above_multiple vs f n p up =
    All-weaker (λ v. pos 0 ≤ℤ dot v n) (λ v. pos 0 ≤ℤ dot v f)
    (λ v q. nonneg_is (dot v f) (pos p.factor *ℤ dot v n) (dot_multiple v f n p.factor p.multiple) (nonneg_mul (pos p.factor) (dot v n) (nonneg_pos p.factor) q)) vs up

pub on_plane : (v f n : V3) → IsPrimitiveOf f n → dot v f ≡ pos 0 → dot v n ≡ pos 0
on_plane v f n p e = cancel_zero p.factor (dot v n) p.positive (sym (dot_multiple v f n p.factor p.multiple) ∙ e)

-- where a list grows by v, a facet is an old one or goes through v
pub facet_grown : (few : List V3) (v n : V3) → IsConeFacet (few ++ v ∷ []) n → IsConeFacet few n ⊎ FromSome (λ g. IsThrough few g v) few n
facet_grown few v n f = go (Contains-push_cases few v t.u t.u_in) (Contains-push_cases few v t.v t.v_in)
  where
    t : IsAcrossTwo (few ++ v ∷ []) n
    t = f.across

    up : IsAbove n few
    up = All-from_members (λ w. pos 0 ≤ℤ dot w n) few (λ w c. All-contains (λ w. pos 0 ≤ℤ dot w n) (few ++ v ∷ []) w f.above (Contains-append_left few (v ∷ []) w c))

    go : Contains few t.u ⊎ (v ≡ t.u) → Contains few t.v ⊎ (v ≡ t.v) → IsConeFacet few n ⊎ FromSome (λ g. IsThrough few g v) few n
    go (inl i) (inl j) = inl (record { primitive = f.primitive; above = up; across = record { u = t.u; v = t.v; u_in = i; v_in = j; independent = t.independent; u_on = t.u_on; v_on = t.v_on } })
    go (inl i) (inr e) = inr (t.u, i, record { primitive = f.primitive; above = up; independent = λ z. t.independent (ap (cross t.u) (sym e) ∙ z); g_on = t.u_on; h_on = ap (λ w. dot w n) e ∙ t.v_on })
    go (inr e) (inl j) = inr (t.v, j, record { primitive = f.primitive; above = up; independent = λ z. t.independent (ap (λ w. cross w t.v) (sym e) ∙ swap_zero v t.v z); g_on = t.v_on; h_on = ap (λ w. dot w n) e ∙ t.u_on })
    go (inr e) (inr g) = absurd (t.independent (ap (λ w. cross w t.v) (sym e) ∙ ap (cross v) (sym g) ∙ cross_self v))

pub facet_on_side : (few : List V3) (v n : V3) → IsConeFacet (few ++ v ∷ []) n → pos 0 ≤ℤ dot v n
facet_on_side few v n f = All-contains (λ w. pos 0 ≤ℤ dot w n) (few ++ v ∷ []) v f.above (Contains-push few v)

pub refused : (r : Bool) (P : Type 0) → IsTrue r ↔ P → r ≡ false → P → ⊥
refused r P h e p = let t : r ≡ true = h.1 p in cc
