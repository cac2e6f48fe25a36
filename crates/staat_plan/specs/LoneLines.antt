-- Sets of parts that come apart along one line alone.
use Rattle.std.specs.Prelude.{◌≡◌, ◌⊎◌, List, All, pos}
use Rattle.staat_vec.specs.{Vectors.dot, declared.vector.V3.V3}
use Rattle.staat_model.specs.{Outcomes.Serves, declared.assembly.Part.Part, declared.set.PartSet.PartSet}

-- along no direction on the plane with the normal g some side of w is free of the rest
abbrev pub NoneServesOn : List Part → PartSet → V3 → Type 0
NoneServesOn parts w g = (d : V3) → dot g d ≡ pos 0 → Serves parts w d → ⊥

-- so on each of the planes that v does not lie on
abbrev pub OnlyPlanesThroughServe : List Part → PartSet → List V3 → V3 → Type 0
OnlyPlanesThroughServe parts w planes v = All (λ g. (dot g v ≡ pos 0) ⊎ NoneServesOn parts w g) planes
