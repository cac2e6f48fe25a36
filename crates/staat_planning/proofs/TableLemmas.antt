-- The planes of parts keep the rules of a table.
use Rattle.std.proofs.Common.{List, Contains}
use Rattle.std.proofs.lemmas.List.Elements.{All-contains}
use Rattle.staat_vec.specs.declared.vector.V3.{V3}
use Rattle.staat_vec.specs.declared.vector.TheConstants.{NORMAL}
use Rattle.staat_vec.specs.Vectors.{IsWithin}
use Rattle.staat_model.specs.declared.assembly.Part.{Part}
use Rattle.staat_model.specs.declared.set.PartSet.{PartSet}
use Rattle.staat_model.specs.Assemblies.{IsAssembly}
use Rattle.staat_model.specs.Planes.{ArePlanes}
use Rattle.staat_model.proofs.Members.{All-from_members}
use Rattle.staat_model.proofs.PlaneLemmas.{plane_normal, planes_apart}
use Rattle.staat_pairs.specs.Tables.{AreTablePlanes, IsPlaneNormal}
use Rattle.staat_certify.proofs.CertificateLemmas.{planes_within}
use Rattle.staat_pairs.proofs.BuildLemmas.{none_parallel}

pub table_planes : (parts : List Part) (w : PartSet) (planes : List V3) → IsAssembly parts → ArePlanes parts w planes → AreTablePlanes planes
table_planes parts w planes is are = record {
  others = are.others;
  is = are.is;
  ascending = are.others_are.ascending;
  each = All-from_members IsPlaneNormal planes normal;
  apart = none_parallel planes (planes_apart parts w planes are);
}
  where
    normal : (n : V3) → Contains planes n → IsPlaneNormal n
    normal n c =
        let h = plane_normal parts w planes n are c in
        record { primitive = h.primitive; canonical = h.canonical; within = All-contains (IsWithin NORMAL) planes n (planes_within parts w planes is are) c }
