-- What is known where one stands at a vertex, and what the search for a witness finds there.
use Rattle.std.specs.Prelude.{◌≡◌, ◌≤◌, ℕ, List, All, map, take}
use Rattle.staat_vec.specs.declared.vector.V3.{V3}
use Rattle.staat_model.specs.declared.assembly.Part.{Part}
use Rattle.staat_model.specs.declared.certificate.Arc.{Arc}
use Rattle.staat_model.specs.Certificates.{outward}
use Rattle.staat_model.specs.Certify.{IsLeastArc}
use Rattle.staat_model.specs.Sets.{IsLeastOf}
use Rattle.staat_graph.specs.declared.trees.Trees.{Trees}
use Rattle.staat_graph.specs.Blocking.{ShowsBlocking}
use Rattle.staat_graph.specs.Graphs.{AreTrees, HasArc}
use Rattle.staat_pairs.specs.Tables.{IsTableArc, Table, WasMadeFrom}
use Rattle.staat_planes.specs.Tables.{IsAhead}
use Rattle.staat_ring.specs.Belonging.{BelongTo}
use Rattle.staat_ring.specs.CountedSigns.{Signed}
use Rattle.staat_ring.specs.WholeCircles.{AreSignsAt}

-- the table was made from the parts and the signs from the table, and these are the signs of all its planes at d
pub record StandsAmong (parts : List Part) (t : Table) (s : Signed) (d : V3) : Type 0 where
  pub from : WasMadeFrom parts t
  pub made : BelongTo t s
  pub signs : AreSignsAt t.planes s d

-- d leads ahead of the facets of some piece of the first part against some piece of the second
abbrev pub AreEndsAhead : Table → V3 → ℕ × ℕ → Type 0
AreEndsAhead t d ends = IsAhead t d ends.0 ends.1

-- the trees are those, from the least part, of a graph that shows who blocks whom along d, and so d leads ahead for
-- each of their pairs
pub record AreTreesAlong (parts : List Part) (t : Table) (d : V3) (trees : Trees) : Type 0 where
  pub root : ℕ
  pub root_is : IsLeastOf t.of root
  pub rows : List ℕ
  pub shows : ShowsBlocking parts d t.of rows
  pub trees_are : AreTrees (HasArc rows) t.of trees
  pub few : trees.count ≤ 32
  pub outs : All (AreEndsAhead t d) (take trees.count trees.outs)
  pub ins : All (AreEndsAhead t d) (take trees.count trees.ins)

-- the arcs, of the table, join these pairs of parts, each with the first pieces with which the one blocks the other
pub record AreEndsAndLeast (parts : List Part) (t : Table) (d : V3) (pairs : List (ℕ × ℕ))
    (arcs : List Arc) : Type 0 where
  pub across : All (IsTableArc t) arcs
  pub ends : map outward arcs ≡ pairs
  pub least : All (IsLeastArc parts d) arcs
