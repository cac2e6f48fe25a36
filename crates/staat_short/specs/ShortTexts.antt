-- The text of a short certificate, and what is read in any bytes.
use Rattle.std.specs.Prelude.{◌≡◌, ℕ, ◌+◌, ◌*◌, ◌≤◌, List, [], ◌∷◌}
use Rattle.std.specs.Prelude.{◌++◌, map, length, flat_map, All}
use Rattle.std.specs.List.Sorted.{IsStrictlySortedBy}
use Rattle.std.specs.Ordering.{nat_cmp}
use Rattle.staat_vec.specs.declared.vector.V3.{V3}
use Rattle.staat_model.specs.Certificates.{arc_cmp}
use Rattle.staat_holds.specs.declared.hold.Hold.{Hold}
use Rattle.staat_short.specs.declared.short.ShortNode.{ShortNode}
use Rattle.staat_short.specs.declared.short.ShortNode.TheVariants.{Leaf, Split, Group}
use Rattle.staat_short.specs.declared.short.ShortAnswer.{ShortAnswer}
use Rattle.staat_short.specs.declared.short.ShortAnswer.TheVariants.{Plan, Stuck, Rest}
use Rattle.staat_short.specs.declared.short.ShortCertificate.{ShortCertificate}
use Rattle.staat_short.specs.declared.line.ShortLine.{ShortLine}
use Rattle.staat_short.specs.declared.line.ShortLine.TheVariants as line
use Rattle.staat_short.specs.ShortLines.{IsShortLine, short_line_text}

-- ---- the lines of a certificate

abbrev pub lines_of_hold : Hold → List ShortLine
lines_of_hold hold = line.Hold ∷ (map line.Part hold.nodes ++ map line.Pair hold.pairs)

abbrev pub lines_of_short_node : ShortNode → List ShortLine
lines_of_short_node (Leaf p) = line.Leaf p ∷ []
lines_of_short_node (Split d) = line.Split d ∷ []
lines_of_short_node (Group holds) = line.Group ∷ flat_map lines_of_hold holds

abbrev pub lines_of_answer : ShortAnswer → List ShortLine
lines_of_answer (Plan nodes) = line.Plan ∷ flat_map lines_of_short_node nodes
lines_of_answer (Stuck holds) = line.Stuck ∷ flat_map lines_of_hold holds
lines_of_answer (Rest nodes) = line.Rest ∷ flat_map lines_of_short_node nodes

abbrev pub short_lines : ShortCertificate → List ShortLine
short_lines c = line.Title ∷ line.Parts c.parts ∷ (lines_of_answer c.answer ++ line.End ∷ [])

-- the bytes of a certificate
abbrev pub short_text : ShortCertificate → List ℕ
short_text c = flat_map short_line_text (short_lines c)

-- ---- orders

-- the nodes ascend, and so do the pairs
pub record IsHoldInOrder (hold : Hold) : Type 0 where
  pub nodes : IsStrictlySortedBy nat_cmp hold.nodes
  pub pairs : IsStrictlySortedBy arc_cmp hold.pairs

-- one hold or more
pub record AreHoldsInOrder (holds : List Hold) : Type 0 where
  pub some : 1 ≤ length holds
  pub each : All IsHoldInOrder holds

abbrev pub IsShortNodeInOrder : ShortNode → Type 0
IsShortNodeInOrder (Leaf p) = Unit {0}
IsShortNodeInOrder (Split d) = Unit {0}
IsShortNodeInOrder (Group holds) = AreHoldsInOrder holds

-- a plan that may end in groups
pub data GroupedPlan : Type 0 where
  part_alone : (part : ℕ) → GroupedPlan
  grouped : (holds : List Hold) → GroupedPlan
  taken_apart : (d : V3) → (moved rest : GroupedPlan) → GroupedPlan

-- its nodes in preorder
abbrev pub short_nodes_of : GroupedPlan → List ShortNode
short_nodes_of (part_alone p) = Leaf p ∷ []
short_nodes_of (grouped holds) = Group holds ∷ []
short_nodes_of (taken_apart d moved rest) = Split d ∷ (short_nodes_of moved ++ short_nodes_of rest)

-- one whole tree in preorder, with at most 2 * parts - 1 nodes
pub record IsRestInOrder (parts : ℕ) (nodes : List ShortNode) : Type 0 where
  pub tree : GroupedPlan
  pub is : nodes ≡ short_nodes_of tree
  pub most : length nodes + 1 ≤ 2 * parts
  pub each : All IsShortNodeInOrder nodes

-- a node that is no group
abbrev pub IsUngrouped : ShortNode → Type 0
IsUngrouped (Leaf p) = Unit {0}
IsUngrouped (Split d) = Unit {0}
IsUngrouped (Group holds) = ⊥

-- a plan has no groups
abbrev pub IsAnswerInOrder : ℕ → ShortAnswer → Type 0
IsAnswerInOrder parts (Plan nodes) = IsRestInOrder parts nodes × All IsUngrouped nodes
IsAnswerInOrder parts (Stuck holds) = AreHoldsInOrder holds
IsAnswerInOrder parts (Rest nodes) = IsRestInOrder parts nodes

-- the numbers of each line are within their bounds, and the lists in their orders
pub record IsShortInOrder (c : ShortCertificate) : Type 0 where
  pub lines : All IsShortLine (short_lines c)
  pub answer : IsAnswerInOrder c.parts c.answer

-- ---- reading

-- the bytes are the text of the certificate
pub record IsShortTextOf (bytes : List ℕ) (c : ShortCertificate) : Type 0 where
  pub form : IsShortInOrder c
  pub is : bytes ≡ short_text c
