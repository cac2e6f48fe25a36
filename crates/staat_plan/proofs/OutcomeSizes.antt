-- The directions of a plan that is found are within the bound, so that its certificate is never too long.
use Rattle.std.proofs.lemmas.List.Elements.{All-append, All-contains, All-map, Contains-append_cases}
use Rattle.std.proofs.Common.{inl, inr, ℕ, ◌≤◌, lit≤, sym, subst, Bool, true, false, List, ◌++◌, length, All, Contains, get_or}
use Rattle.std.specs.FinSet as set
use Rattle.staat_limits.specs.{Versions.IsVersion, declared.limits.TheConstants.TEXT_LIMIT}
use Rattle.staat_vec.specs.{Vectors.IsWithin, declared.vector.TheConstants.{DIRECTION, NORMAL, VERTEX}}
use Rattle.staat_vec.specs.declared.vector.V3.{V3}
use Rattle.staat_vec.proofs.{Bounds.IsWithin-wider, Canons.IsWithin-canon, Unique.IsFirst-in}
use Rattle.staat_model.specs.{Assemblies.IsAssembly, Cells.{AreCellsOf, CellEntry}, Certify.IsCertificateOf}
use Rattle.staat_model.specs.Outcomes.{AreTries, IsOutcome, Serves, Try, both_planned, one_part, planned}
use Rattle.staat_model.specs.{Outcomes.{try_cell, try_vertex}, Planes.{ArePlanes, axes, vertices}, Plans.{IsGood, Plan}}
use Rattle.staat_model.specs.{Sets.below, Texts.text_of, declared.assembly.Part.Part}
use Rattle.staat_model.specs.{declared.certificate.Certificate.Certificate, declared.set.PartSet.PartSet}
use Rattle.staat_model.specs.{declared.tree.Kind.Kind, declared.tree.Kind.TheVariants.{Edge, Open, Point}}
use Rattle.staat_model.proofs.{GraphLemmas.piece_is, Members.All-from_members}
use Rattle.staat_model.proofs.PlaneLemmas.{IsNormal, plane_normal, planes_apart}
use Rattle.staat_cone.proofs.SourceSizes.{facet_within}
use Rattle.staat_pairs.specs.Tables.{AreTablePlanes, IsPlaneNormal}
use Rattle.staat_pairs.proofs.BuildLemmas.{none_parallel, axis_within}
use Rattle.staat_cells.proofs.{TableRules.vertex_small, WholeLists.cell_small}
use Rattle.staat_certify.specs.Plans.{AreWithin}
use Rattle.staat_certify.proofs.{CertificateSizes.plan_text_short, SomeCertificate.some_plan_certificate}
use Rattle.staat_plan.proofs.Right.{right_lemma}

-- ---- the planes of a set of parts are those of a table

module _ (parts : List Part) (is : IsAssembly parts) where
  plane_within : (w : PartSet) (planes : List V3) → ArePlanes parts w planes → (n : V3) → Contains planes n
      → IsWithin NORMAL n
  plane_within w planes are n c =
      elim (Contains-append_cases axes are.others n (subst (λ l. Contains l n) are.is c)) [
        | inl axis ↦ axis_within n axis
        | inr other ↦ (
            let plane = (are.others_are.each n other).0 in
            let holds = plane.holds in
            subst (IsWithin NORMAL) (sym plane.is) (IsWithin-canon NORMAL plane.facet
            (facet_within holds.p holds.q plane.facet (piece_is parts plane.arc.a plane.arc.i holds.p is holds.p_is)
            (piece_is parts plane.arc.b plane.arc.j holds.q is holds.q_is) holds.holds)))
      ]

  pub table_planes : (w : PartSet) (planes : List V3) → ArePlanes parts w planes → AreTablePlanes planes
  table_planes w planes are = record {
    others = are.others;
    is = are.is;
    ascending = are.others_are.ascending;
    each = All-from_members IsPlaneNormal planes (λ n c.
        let normal : IsNormal n = plane_normal parts w planes n are c in
        record {
          primitive = normal.primitive;
          canonical = normal.canonical;
          within = plane_within w planes are n c;
        });
    apart = none_parallel planes (planes_apart parts w planes are);
  }

  -- ---- the directions that are tried

  abbrev Small : Try → Type 0
  Small try = IsWithin DIRECTION try.d

  tries_small : (robust : Bool) (w : PartSet) (tries : List Try) → AreTries robust parts w tries → All Small tries
  tries_small false w tries are = subst (All Small) (sym are.is) (All-map Small try_vertex (vertices are.planes)
      (All-from_members (IsWithin DIRECTION) (vertices are.planes) (λ v v_in. IsWithin-wider VERTEX DIRECTION v (lit≤ tt)
      (vertex_small are.planes v (table_planes w are.planes are.planes_are) v_in))))
  tries_small true w tries are = subst (All Small) (sym are.is) (All-map Small try_cell (are.opens ++ are.edges ++ are.points)
      (All-append P (are.opens ++ are.edges) are.points (All-append P are.opens are.edges (small Open are.opens are.opens_are)
      (small Edge are.edges are.edges_are)) (small Point are.points are.points_are)))
    where
      P : CellEntry → Type 0
      P c = IsWithin DIRECTION c.d

      small : (kind : Kind) (cells : List CellEntry) → AreCellsOf are.planes kind cells → All P cells
      small kind cells of k d lt =
          cell_small are.planes (table_planes w are.planes are.planes_are) kind (get_or cells k d) (of.each k d lt)

  -- ---- the plan that is found

  pub outcome_sized : (robust : Bool) (w : PartSet) (plan : Plan) (marks : List Kind)
      → IsOutcome robust parts w (planned plan marks)
      → AreWithin DIRECTION plan
  outcome_sized robust w plan marks (one_part e) = tt
  outcome_sized robust w plan marks (both_planned {side} {try} {moved} {rest} {d} {ms} {rs} two step one sub e marks_are) = (
    subst (IsWithin DIRECTION) (sym e) (All-contains Small step.tries try (tries_small robust w step.tries step.tries_are)
        (IsFirst-in (λ (t : Try). Serves parts w t.d) step.tries try step.first).0),
    outcome_sized robust side moved ms one,
    outcome_sized robust (set.difference w side) rest rs sub,
  )

  pub outcome_certified : (robust : Bool) (version : ℕ) (plan : Plan) (marks : List Kind) → IsVersion version
      → IsOutcome robust parts (below (length parts)) (planned plan marks)
      → (c : Certificate) × IsCertificateOf parts version (planned plan marks) c
      × (length (text_of c) ≤ TEXT_LIMIT)
  outcome_certified robust version plan marks versions outcome =
      let good : IsGood parts (below (length parts)) plan =
      right_lemma robust parts is (below (length parts)) (planned plan marks) outcome in
      let (c, of) = some_plan_certificate parts is version plan marks (below (length parts)) good in
      let sized = outcome_sized robust (below (length parts)) plan marks outcome in
      (c, of, plan_text_short parts is version versions plan good sized marks c of)
