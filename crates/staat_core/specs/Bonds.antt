-- Parts that stay together.
use Rattle.std.specs.Prelude.{ℕ, List}
use Rattle.std.specs.FinSet as set
use Rattle.staat_vec.specs.declared.vector.V3.{V3}
use Rattle.staat_model.specs.declared.assembly.Part.{Part}
use Rattle.staat_model.specs.declared.certificate.Arc.{Arc}
use Rattle.staat_model.specs.declared.set.PartSet.{PartSet}
use Rattle.staat_model.specs.Cores.{IsFreeInCore}
use Rattle.staat_model.specs.Sets.{Has}

-- what is free along d of the rest of w, as far as the arcs tell, has both p and q or neither
abbrev pub AreTogether : List Part → List Arc → PartSet → V3 → ℕ → ℕ → Type 0
AreTogether parts arcs w d p q =
    (s : PartSet) → IsFreeInCore parts arcs s (set.difference w s) d
    → (Has s p → Has s q) × (Has s q → Has s p)
