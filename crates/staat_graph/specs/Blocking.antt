-- Graphs that have the arcs of the blocking graph at a direction.
use Rattle.std.specs.Prelude.{ℕ, ◌↔◌, List}
use Rattle.staat_vec.specs.declared.vector.V3.{V3}
use Rattle.staat_model.specs.declared.assembly.Part.{Part}
use Rattle.staat_model.specs.declared.set.PartSet.{PartSet}
use Rattle.staat_model.specs.Meeting.{Meets}
use Rattle.staat_model.specs.Removal.{BlocksBy}
use Rattle.staat_model.specs.Sets.{Has}
use Rattle.staat_graph.specs.Graphs.{HasArc}

-- among the parts of w, an arc stands exactly where the first part blocks the second at d by the relation R
abbrev pub ShowsBlockingBy :
    (List V3 → List V3 → V3 → Type 0) → List Part → V3 → PartSet → List ℕ → Type 0
ShowsBlockingBy R parts d w rows = (a b : ℕ) → Has w a → Has w b → HasArc rows a b ↔ BlocksBy R parts d a b

-- the same where the first part meets the second sooner or later
abbrev pub ShowsBlocking : List Part → V3 → PartSet → List ℕ → Type 0
ShowsBlocking = ShowsBlockingBy Meets
