-- The text of the graph of which parts block which along a direction.
use Rattle.std.specs.Prelude.{◌≡◌, ◌==◌, ◌++◌, ◌∷◌, [], ℕ, pos, Bool, List}
use Rattle.std.specs.Prelude.{map, filter, flat_map, slice_index, codes}
use Rattle.std.specs.List.{range_with_len}
use Rattle.std.specs.Int.{bit_at}
use Rattle.staat_vec.specs.declared.vector.V3.{V3}
use Rattle.staat_model.specs.declared.set.PartSet.{PartSet}
use Rattle.staat_model.specs.Lines.{spaced, vector_numbers}
use Rattle.staat_model.specs.Sets.{below}
use Rattle.staat_graph.specs.Graphs.{AreGroups, HasArc}
use Rattle.staat_text.specs.PlanTexts.{parts_listed}

-- whether bit b of row a is the arc from a to b
abbrev pub has_arc : List ℕ → ℕ → ℕ → Bool
has_arc rows a b = bit_at (slice_index rows a) b == 1

-- the arcs from a to parts below `parts`, ascending
abbrev pub arcs_from : List ℕ → ℕ → ℕ → List (ℕ × ℕ)
arcs_from rows parts a = map (λ b. (a, b)) (filter (has_arc rows a) (range_with_len 0 parts))

-- the arcs among the parts below `parts`, ascending: for each a in order, those from a
abbrev pub arcs_of : List ℕ → ℕ → List (ℕ × ℕ)
arcs_of rows parts = flat_map (arcs_from rows parts) (range_with_len 0 parts)

-- `along X Y Z`
abbrev pub along_line : V3 → List ℕ
along_line d = codes "along" ++ spaced (vector_numbers d)

-- `arc A B`
abbrev pub arc_line : ℕ × ℕ → List ℕ
arc_line arc = codes "arc" ++ spaced (pos arc.0 ∷ pos arc.1 ∷ [])

-- `group P ..`, the parts ascending
abbrev pub group_line : PartSet → List ℕ
group_line group = codes "group" ++ parts_listed group ++ codes "\n"

-- the line of the direction, a line for each arc and a line for each group
abbrev pub graph_text : V3 → List (ℕ × ℕ) → List PartSet → List ℕ
graph_text d arcs groups = along_line d ++ flat_map arc_line arcs ++ flat_map group_line groups

-- the bytes are the text of the graph on the parts below `parts`
pub record IsGraphText (parts : ℕ) (d : V3) (rows text : List ℕ) : Type 0 where
  pub groups : List PartSet
  pub are : AreGroups (HasArc rows) (below parts) groups
  pub is : text ≡ graph_text d (arcs_of rows parts) groups
