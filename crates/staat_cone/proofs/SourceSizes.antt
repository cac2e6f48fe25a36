-- How great differences and facets are.
use Rattle.std.proofs.Common.{⊎_elim, sym, subst, ◌∙◌, List}
use Rattle.std.proofs.lemmas.List.Elements.{All-contains}
use Rattle.staat_vec.specs.declared.vector.V3.{V3}
use Rattle.staat_vec.specs.declared.vector.TheConstants.{POINT, DIFF, NORMAL}
use Rattle.staat_vec.specs.Vectors.{IsWithin, cross}
use Rattle.staat_vec.proofs.Bounds.{IsWithin-minus, IsWithin-cross}
use Rattle.staat_vec.proofs.Primitives.{IsWithin-primitive}
use Rattle.staat_vec.proofs.VecRing.{dot_comm}
use Rattle.staat_model.specs.Pieces.{IsPiece}
use Rattle.staat_model.specs.Facets.{IsDifference, IsFacet}
use Rattle.staat_model.proofs.FacetLemmas.{across_crosses}

pub difference_within : (p q : List V3) (v : V3) → IsPiece p → IsPiece q → IsDifference p q v → IsWithin DIFF v
difference_within p q v is_p is_q d =
    subst (IsWithin DIFF) (sym d.is) (IsWithin-minus POINT POINT d.b d.a (All-contains (IsWithin POINT) q d.b is_q.within d.b_in) (All-contains (IsWithin POINT) p d.a is_p.within d.a_in))

pub facet_within : (p q : List V3) (n : V3) → IsPiece p → IsPiece q → IsFacet p q n → IsWithin NORMAL n
facet_within p q n is_p is_q f =
    let t = f.touches in
    let in_u = difference_within p q t.u is_p is_q t.u_is in
    let in_v = difference_within p q t.v is_p is_q t.v_is in
    ⊎_elim (λ e. subst (IsWithin NORMAL) (sym e) (IsWithin-primitive NORMAL (cross t.u t.v) (IsWithin-cross DIFF DIFF t.u t.v in_u in_v)))
    (λ e. subst (IsWithin NORMAL) (sym e) (IsWithin-primitive NORMAL (cross t.v t.u) (IsWithin-cross DIFF DIFF t.v t.u in_v in_u)))
    (across_crosses n t.u t.v f.primitive t.independent (dot_comm t.u n ∙ t.u_on) (dot_comm t.v n ∙ t.v_on))
