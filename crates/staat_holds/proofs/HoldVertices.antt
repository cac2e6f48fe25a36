-- A core holds nodes together exactly where they reach each other at each vertex of its planes.
use Rattle.std.proofs.Common.{◌⊎◌, ◌↔◌, ℕ, List, ◌++◌, inl, inr, ⊎_elim, refl, sym, subst, All, Contains}
use Rattle.std.specs.Prelude.{Option}
use Rattle.std.proofs.lemmas.List.Elements.{All-contains, Contains-append_cases, Contains-append_left, Contains-append_right}
use Rattle.staat_vec.specs.declared.vector.V3.{V3}
use Rattle.staat_vec.specs.Lists.{IsFirst}
use Rattle.staat_vec.specs.Primitives.{primitive}
use Rattle.staat_vec.specs.Vectors.{cross, vector_cmp}
use Rattle.staat_vec.proofs.VectorOrder.{vector_exact, vector_total}
use Rattle.staat_model.specs.declared.assembly.Part.{Part}
use Rattle.staat_model.specs.declared.certificate.Arc.{Arc}
use Rattle.staat_model.specs.Assemblies.{IsPart}
use Rattle.staat_model.specs.Planes.{axes, vertices}
use Rattle.staat_model.proofs.Decisions.{contains_or}
use Rattle.staat_model.proofs.Members.{All-from_members}
use Rattle.staat_model.proofs.VertexLemmas.{in_vertices}
use Rattle.staat_holds.specs.declared.links.Link.{Link}
use Rattle.staat_holds.specs.Holds.{AreHoldPlanes, IsFirstGap, JoinsNodes, IsHoldPlane, LeadsBetween}
use Rattle.staat_holds.specs.Links.{AreLinkPlanes, AreLinks, IsGap, IsJoined}
use Rattle.staat_holds.specs.Reaching.{AllReach}
use Rattle.staat_holds.proofs.GapLemmas.{first_carried, first_not_all, vertices_from}
use Rattle.staat_holds.proofs.HoldLaw.{held_at}
use Rattle.staat_holds.proofs.HoldLemmas.{all_leads, hold_planes}
use Rattle.staat_holds.proofs.LinkDirections.{joined_primitive}
use Rattle.staat_holds.proofs.NormalPlanes.{hold_planes_apart}

plane_of : (parts : List Part) (core : List Arc) (planes : List V3) (n : V3) → AreHoldPlanes parts core planes → Contains planes n → IsHoldPlane parts core n
plane_of parts core planes n are c =
    ⊎_elim {C = IsHoldPlane parts core n} (λ axis. inl axis) (λ other. inr (are.others_are.each n other).0)
    (Contains-append_cases axes are.others n (subst (λ l. Contains l n) are.is c))

of_plane : (parts : List Part) (core : List Arc) (planes : List V3) (n : V3) → AreHoldPlanes parts core planes → IsHoldPlane parts core n → Contains planes n
of_plane parts core planes n are plane = subst (λ l. Contains l n) (sym are.is) (go plane (contains_or vector_cmp vector_total vector_exact axes n))
  where
    go : IsHoldPlane parts core n → Contains axes n ⊎ (Contains axes n → ⊥) → Contains (axes ++ are.others) n
    go p (inl axis) = Contains-append_left axes are.others n axis
    go (inl axis) (inr off) = Contains-append_left axes are.others n axis
    go (inr p) (inr off) = Contains-append_right axes are.others n (are.others_are.all n (p, off))

-- where a first gap is, they are not joined
pub gap_not_joined : (parts : List Part) (nodes : List (Option ℕ)) (count : ℕ) (core : List Arc) (v : V3) → IsFirstGap parts nodes count core v → JoinsNodes parts nodes count core → ⊥
gap_not_joined parts nodes count core v gap joins =
    let planes = gap.planes in
    let are = gap.planes_are in
    let reach : V3 → Type 0 = λ d. AllReach count (LeadsBetween parts nodes core d) in
    first_not_all reach planes_vertices v gap.first (All-from_members reach planes_vertices (λ u c.
    let o = vertices_from planes u (hold_planes_apart parts core planes are) c in
    held_at parts nodes count core o.g o.h u joins (plane_of parts core planes o.g are o.g_in) (plane_of parts core planes o.h are o.h_in) o.apart o.is))
  where
    planes_vertices : List V3
    planes_vertices = vertices gap.planes

module _ (parts : List Part) (each : All IsPart parts) (nodes : List (Option ℕ)) (count : ℕ) (core : List Arc) (links : List Link) (are : AreLinks parts nodes core links) (planes : List V3) (of_links : AreLinkPlanes links planes) where
  are_planes : AreHoldPlanes parts core planes
  are_planes = hold_planes parts each nodes core links are planes of_links

  joined_leads : (v : V3) → IsJoined links count v ↔ AllReach count (LeadsBetween parts nodes core v)
  joined_leads v = all_leads parts each nodes core links are count v

  pub held_joined : JoinsNodes parts nodes count core → All (IsJoined links count) (vertices planes)
  held_joined held = All-from_members (IsJoined links count) (vertices planes) (λ v c.
      let o = vertices_from planes v (hold_planes_apart parts core planes are_planes) c in
      (joined_leads v).1 (held_at parts nodes count core o.g o.h v held (plane_of parts core planes o.g are_planes o.g_in) (plane_of parts core planes o.h are_planes o.h_in) o.apart o.is))

  pub joined_held : All (IsJoined links count) (vertices planes) → JoinsNodes parts nodes count core
  joined_held all g h plane_g plane_h apart =
      let c = in_vertices planes g h (primitive (cross g h)) (of_plane parts core planes g are_planes plane_g) (of_plane parts core planes h are_planes plane_h) apart (inl refl) in
      (joined_leads (cross g h)).0 ((joined_primitive links count (cross g h) apart).1 (All-contains (IsJoined links count) (vertices planes) (primitive (cross g h)) all c))

  pub gap_not_held : (v : V3) → IsFirst (IsGap links count) (vertices planes) v → JoinsNodes parts nodes count core → ⊥
  gap_not_held v first held = first_not_all (IsJoined links count) (vertices planes) v first (held_joined held)

  pub first_gap_is : (v : V3) → IsFirst (IsGap links count) (vertices planes) v → IsFirstGap parts nodes count core v
  first_gap_is v first = record {
    planes = planes;
    planes_are = are_planes;
    first = first_carried (IsGap links count) (λ d. AllReach count (LeadsBetween parts nodes core d) → ⊥)
        (λ d gap all. gap ((joined_leads d).1 all)) (λ d none joined. none ((joined_leads d).0 joined)) (vertices planes) v first;
  }

  pub planes_apart : Rattle.staat_model.proofs.PlaneLemmas.NoneParallel planes
  planes_apart = hold_planes_apart parts core planes are_planes
