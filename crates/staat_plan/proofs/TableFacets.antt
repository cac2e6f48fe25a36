-- The facets that stand in a table are those of pieces with the same points.
use Rattle.std.proofs.Common.{◌≡◌, ◌∙◌, List, sym, subst, rules, true}
use Rattle.std.specs.Prelude.{Some}
use lib.Pointwise.{pointwise, pointwise_decides}
use Rattle.staat_vec.specs.{Lists.Lists, Vectors.vector_cmp, contracts.vector.V3PartialEq.TheImpl.eq-value}
use Rattle.staat_vec.specs.declared.vector.V3.{V3}
use Rattle.staat_vec.proofs.Options.{some_injective}
use Rattle.staat_model.specs.{Assemblies.piece_at, Facets.IsFacet, declared.assembly.Part.Part}
use Rattle.staat_model.specs.declared.certificate.Arc.{Arc}
use Rattle.staat_pairs.specs.Tables.{IsTableArc, Table, WasMadeFrom, facets_of}

pub facets_listed : (parts : List Part) (t : Table) (arc : Arc) (p q list : List V3) → WasMadeFrom parts t → IsTableArc t arc → piece_at parts arc.a arc.i ≡ Some p → piece_at parts arc.b arc.j ≡ Some q → list ≡ facets_of t arc → Lists vector_cmp (IsFacet p q) list
facets_listed parts t arc p q list made across p_is q_is e =
    let h = made.facets arc across in
    let first : h.p ≡ p = some_injective h.p p (sym h.p_is ∙ p_is) in
    let second : h.q ≡ q = some_injective h.q q (sym h.q_is ∙ q_is) in
    subst (Lists vector_cmp (IsFacet p q)) (sym e) (subst (λ (x : List V3). Lists vector_cmp (IsFacet x q) (facets_of t arc)) first (subst (λ (y : List V3). Lists vector_cmp (IsFacet h.p y) (facets_of t arc)) second h.holds))

decides : (x y : V3) → (eq-value.it x y ≡ true → x ≡ y) × (x ≡ y → eq-value.it x y ≡ true)
decides x y = search rules

pub same_points : (xs ys : List V3) → (pointwise eq-value.it xs ys ≡ true → xs ≡ ys) × (xs ≡ ys → pointwise eq-value.it xs ys ≡ true)
same_points = pointwise_decides {E = eq-value.it} decides
