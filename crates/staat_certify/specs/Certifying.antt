-- Outcomes that have certificates, and certificates that prove outcomes.
use Rattle.std.specs.Prelude.{ℕ, ◌≤◌, List, length}
use Rattle.staat_vec.specs.declared.vector.V3.{V3}
use Rattle.staat_vec.specs.declared.vector.TheConstants.{DIRECTION}
use Rattle.staat_model.specs.declared.assembly.Part.{Part}
use Rattle.staat_model.specs.declared.certificate.Certificate.{Certificate}
use Rattle.staat_model.specs.declared.set.PartSet.{PartSet}
use Rattle.staat_model.specs.Certificates.{IsValidPlan, IsValidRefusal}
use Rattle.staat_model.specs.Outcomes.{Finding, planned, stuck}
use Rattle.staat_model.specs.Planes.{ArePlanes}
use Rattle.staat_model.specs.Plans.{IsGood, IsStuck}
use Rattle.staat_model.specs.Sets.{below}
use Rattle.staat_limits.specs.declared.limits.TheConstants.{MOST_PLANES}
use Rattle.staat_certify.specs.Plans.{AreWithin}

-- the parts of w have no more planes than the limit
pub record HasFewPlanes (parts : List Part) (w : PartSet) (limit : ℕ) : Type 0 where
  pub planes : List V3
  pub planes_are : ArePlanes parts w planes
  pub few : length planes ≤ limit

-- a plan that takes all parts apart along directions within the bound, or a set that is stuck and has few planes
abbrev pub CanBeCertified : List Part → Finding → Type 0
CanBeCertified parts (planned plan marks) = IsGood parts (below (length parts)) plan × AreWithin DIRECTION plan
CanBeCertified parts (stuck w) = IsStuck parts w × HasFewPlanes parts w MOST_PLANES

-- the certificate proves that what was found is so: a valid plan, or a valid refusal
abbrev pub IsValidFor : List Part → Finding → Certificate → Type 0
IsValidFor parts (planned plan marks) c = IsValidPlan parts c
IsValidFor parts (stuck w) c = IsValidRefusal parts c
