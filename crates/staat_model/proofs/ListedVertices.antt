-- Where each direction of a version has a line, each vertex is listed.
use Rattle.std.proofs.Common.{◌≡◌, ◌≢◌, ◌⊎◌, ℕ, ap, subst, ◌∙◌, inl, inr, ⊎_elim, List, All, Contains}
use Rattle.staat_vec.specs.declared.vector.V3.{V3}
use Rattle.staat_vec.specs.Primitives.{IsCanon}
use Rattle.staat_vec.specs.Vectors.{cross, negative, origin}
use Rattle.staat_vec.proofs.Canons.{IsCanon-canon, canon-either, negative-negative}
use Rattle.staat_vec.proofs.Naturals.{same_or}
use Rattle.staat_vec.proofs.Primitives.{IsPrimitive-some, primitive-is}
use Rattle.staat_model.specs.declared.certificate.Dir.{Dir}
use Rattle.staat_model.specs.Certificates.{HasLine, IsListed}
use Rattle.staat_model.specs.Certify.{IsDirection}
use Rattle.staat_model.specs.Planes.{vertices}
use Rattle.staat_model.proofs.EndLemmas.{from_vertices}
use Rattle.staat_model.proofs.Members.{All-from_members}
use Rattle.staat_model.proofs.PlaneLemmas.{NoneParallel}
use Rattle.staat_model.proofs.VertexLemmas.{in_vertices, same_some}

-- a vertex is not the origin, and its opposite is a vertex
pub vertex_some : (planes : List V3) (v : V3) → NoneParallel planes → Contains (vertices planes) v → v ≢ origin
vertex_some planes v apart c =
    let f = from_vertices planes v apart c in
    let ray = primitive-is (cross f.g f.h) f.independent in
    same_some v _ f.is (IsPrimitive-some _ ray.primitive)

opposite_vertex : (planes : List V3) (v : V3) → NoneParallel planes → Contains (vertices planes) v → Contains (vertices planes) (negative v)
opposite_vertex planes v apart c =
    let f = from_vertices planes v apart c in
    in_vertices planes f.g f.h (negative v) f.g_in f.h_in f.independent (⊎_elim {C = (negative v ≡ _) ⊎ (negative v ≡ negative _)} (λ e. inr (ap negative e)) (λ e. inl (ap negative e ∙ negative-negative _)) f.is)

one_canonical : (v : V3) → v ≢ origin → IsCanon v ⊎ IsCanon (negative v)
one_canonical v some = ⊎_elim (λ e. inl (subst (λ w. IsCanon w) e (IsCanon-canon v some))) (λ e. inr (subst (λ w. IsCanon w) e (IsCanon-canon v some))) (canon-either v)

-- where each direction of the version has a line, each vertex is listed
pub all_listed : (version : ℕ) (planes : List V3) (dirs : List Dir) → NoneParallel planes → ((v : V3) → IsDirection version planes v → HasLine dirs v) → All (IsListed version dirs) (vertices planes)
all_listed version planes dirs apart lines = All-from_members (IsListed version dirs) (vertices planes) (λ v c. ⊎_elim {C = IsListed version dirs v}
    (λ two. ⊎_elim {C = IsListed version dirs v}
    (λ canonical. inl (lines v (record { vertex = c; canonical = λ e. canonical })))
    (λ opposite. inr (two, lines (negative v) (record { vertex = opposite_vertex planes v apart c; canonical = λ e. opposite })))
    (one_canonical v (vertex_some planes v apart c)))
    (λ other. inl (lines v (record { vertex = c; canonical = λ e. absurd (other e) })))
    (same_or version 2))
