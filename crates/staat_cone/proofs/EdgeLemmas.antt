-- Walls of the cone of few vectors by cross products, and the facets on whose rays they lie.
use Rattle.std.proofs.Common.{◌≡◌, ◌≢◌, inl, inr, ◌⊎◌, ⊎_elim, refl, sym, ap, subst, ◌∙◌, List, [], ◌∷◌, ◌++◌}
use Rattle.staat_vec.specs.declared.vector.V3.{V3}
use Rattle.staat_vec.specs.declared.vector.TheConstants.{DIFF, NORMAL}
use Rattle.staat_vec.specs.Vectors.{IsWithin, dot, cross, negative, origin}
use Rattle.staat_vec.specs.Primitives.{IsPrimitiveOf, primitive}
use Rattle.staat_vec.proofs.Bounds.{IsWithin-cross}
use Rattle.staat_vec.proofs.Primitives.{primitive-is}
use Rattle.staat_vec.proofs.VecRing.{dot_comm, dot_cross_left, dot_cross_right, cross_turned}
use Rattle.staat_model.specs.Cones.{IsAbove}
use Rattle.staat_model.specs.Facets.{IsFacet, Touches}
use Rattle.staat_model.specs.Walls.{IsBeyond}
use Rattle.staat_model.specs.Cones.{differences}
use Rattle.staat_model.proofs.CornerLemmas.{above_primitive}
use Rattle.staat_model.proofs.FacetLemmas.{across_crosses, swap_zero}
use Rattle.staat_model.proofs.PieceFacets.{differences_are, above_is_beyond, beyond_is_above}
use Rattle.staat_cone.specs.Pairs.{Adds, AddsEdges, FromSome, IsEdge, IsThrough}
use Rattle.staat_cone.specs.Few.{IsCandidate, IsDifferenceStep}
use Rattle.staat_cone.proofs.PairLemmas.{above_multiple, on_plane}
use Rattle.staat_cone.proofs.PairLists.{Adds-none, Adds-one, Adds-then}

-- n is f and has all of vs on its positive side
abbrev pub IsOnly : List V3 → V3 → V3 → Type 0
IsOnly vs f n = (n ≡ f) × IsAbove n vs

pub edge_added : (vs xs ys : List V3) (f : V3) → IsAbove f vs → ys ≡ xs ++ f ∷ [] → Adds (IsOnly vs f) xs ys
edge_added vs xs ys f up e = subst (Adds (IsOnly vs f) xs) (sym e) (Adds-one (IsOnly vs f) xs f (refl, up) (λ n (same, _). same))

pub edge_not_added : (vs xs : List V3) (f : V3) → (IsAbove f vs → ⊥) → Adds (IsOnly vs f) xs xs
edge_not_added vs xs f fails = Adds-none (IsOnly vs f) xs (λ n (same, up). fails (subst (λ z. IsAbove z vs) same up))

pub edges_added : (vs xs ys zs : List V3) (g h f : V3) → f ≡ cross g h → f ≢ origin → Adds (IsOnly vs f) xs ys → Adds (IsOnly vs (negative f)) ys zs → Adds (IsEdge vs g h) xs zs
edges_added vs xs ys zs g h f e some a b =
    Adds-then (IsOnly vs f) (IsOnly vs (negative f)) (IsEdge vs g h) xs ys zs
    (λ n (same, up). record { is = inl (same ∙ e); some = (λ z. some (sym same ∙ z)); above = up })
    (λ n (same, up). record { is = inr (same ∙ back); some = (λ z. apart (swap_zero g h (sym (same ∙ back) ∙ z))); above = up })
    (λ n t. ⊎_elim (λ i. inl (i ∙ sym e, t.above)) (λ i. inr (i ∙ sym back, t.above)) t.is)
    a b
  where
    apart : cross g h ≢ origin
    apart z = some (e ∙ z)

    back : negative f ≡ cross h g
    back = ap negative e ∙ sym (cross_turned h g)

pub edges_not_added : (vs xs : List V3) (g h f : V3) → f ≡ cross g h → (f ≢ origin → ⊥) → Adds (IsEdge vs g h) xs xs
edges_not_added vs xs g h f e none = Adds-none (IsEdge vs g h) xs (λ n t. none (λ z. t.some (⊎_elim (λ i. i ∙ sym e ∙ z) (λ i. i ∙ swap_zero h g (sym e ∙ z)) t.is)))

-- each facet through g and h lies on the ray of an edge
pub edge_of : (vs : List V3) (g h n : V3) → IsThrough vs g h n → (f : V3) × IsEdge vs g h f × IsPrimitiveOf f n
edge_of vs g h n t =
    ⊎_elim (λ i. on (cross g h) (inl refl) t.independent i) (λ i. on (cross h g) (inr refl) (λ z. t.independent (swap_zero g h z)) i)
    (across_crosses n g h t.primitive t.independent t.g_on t.h_on)
  where
    on : (f : V3) → (f ≡ cross g h) ⊎ (f ≡ cross h g) → f ≢ origin → n ≡ primitive f → (f : V3) × IsEdge vs g h f × IsPrimitiveOf f n
    on f is some i =
        let p : IsPrimitiveOf f n = subst (IsPrimitiveOf f) (sym i) (primitive-is f some) in
        (f, record { is = is; some = some; above = above_multiple vs f n p t.above }, p)

-- an edge through two differences may be a multiple of a facet of the pieces
pub edge_candidate : (p q few : List V3) (g v f : V3) → IsDifferenceStep p q g → IsDifferenceStep p q v → IsEdge few g v f → IsCandidate p q f
edge_candidate p q few g v f is_g is_v t = record {
  some = t.some;
  touches = record {
    u = g;
    v = v;
    u_is = is_g.difference;
    v_is = is_v.difference;
    u_on = ⊎_elim (λ i. dot_comm f g ∙ ap (dot g) i ∙ dot_cross_left g v) (λ i. dot_comm f g ∙ ap (dot g) i ∙ dot_cross_right v g) t.is;
    v_on = ⊎_elim (λ i. dot_comm f v ∙ ap (dot v) i ∙ dot_cross_right g v) (λ i. dot_comm f v ∙ ap (dot v) i ∙ dot_cross_left v g) t.is;
    independent = λ z. t.some (⊎_elim (λ i. i ∙ z) (λ i. i ∙ swap_zero v g z) t.is);
  };
  within = ⊎_elim
      (λ i. subst (IsWithin NORMAL) (sym i) (IsWithin-cross DIFF DIFF g v is_g.within is_v.within))
      (λ i. subst (IsWithin NORMAL) (sym i) (IsWithin-cross DIFF DIFF v g is_v.within is_g.within)) t.is;
}

-- the primitive vector on the ray of a wall that touches the pieces is a facet of them
pub facet_on_ray : (p q : List V3) (n r : V3) → IsPrimitiveOf n r → IsBeyond p q n → Touches p q n → IsFacet p q r
facet_on_ray p q n r ray up t =
    let are = differences_are p q in record {
      primitive = ray.primitive;
      beyond = above_is_beyond p q (differences p q) r are (above_primitive (differences p q) n r ray (beyond_is_above p q (differences p q) n are up));
      touches = record {
        u = t.u;
        v = t.v;
        u_is = t.u_is;
        v_is = t.v_is;
        u_on = dot_comm r t.u ∙ on_plane t.u n r ray (dot_comm t.u n ∙ t.u_on);
        v_on = dot_comm r t.v ∙ on_plane t.v n r ray (dot_comm t.v n ∙ t.v_on);
        independent = t.independent;
      };
    }

-- the edges through v and each member are a multiple of each facet through v
pub all_edges : (vs xs ys : List V3) (v : V3) → Adds (FromSome (λ h. IsEdge vs h v) vs) xs ys → AddsEdges vs v xs ys
all_edges vs xs ys v adds = record {
  kept = adds.kept;
  added = λ n (h, h_in, t). let e = edge_of vs h v n t in (e.0, adds.added e.0 (h, h_in, e.1), e.2);
  only = adds.only;
}
