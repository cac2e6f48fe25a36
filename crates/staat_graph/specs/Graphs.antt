-- Graphs whose nodes are part numbers: walks, the groups of parts that reach each other, and trees.
use Rattle.std.specs.Prelude.{◌≡◌, ℕ, ◌+◌, ◌<◌, ◌≤◌, ◌↔◌, List, [], ◌∷◌, Contains}
use Rattle.std.specs.Prelude.{map, take, slice_index}
use Rattle.std.specs.Int.{bit_at}
use Rattle.std.specs.FinSet as set
use Rattle.staat_model.specs.declared.set.PartSet.{PartSet}
use Rattle.staat_model.specs.Sets.{Has, IsSubset, IsNonempty, IsLeastOf, single}
use Rattle.staat_model.specs.Bridges.{Back, IsTree, swapped}
use Rattle.staat_graph.specs.declared.trees.Trees.{Trees}

-- bit b of row a is the arc from a to b
abbrev pub HasArc : List ℕ → ℕ → ℕ → Type 0
HasArc rows a b = bit_at (slice_index rows a) b ≡ 1

-- the second graph has the arcs of the first the other way round
abbrev pub AreReversed : List ℕ → List ℕ → Type 0
AreReversed rows back = (a b : ℕ) → HasArc back a b ↔ HasArc rows b a

-- ---- walks

-- a walk along arcs, of which no part lies outside w
pub data Walks (R : ℕ → ℕ → Type 0) (w : PartSet) : ℕ → ℕ → Type 0 where
  here : {a : ℕ} → Has w a → Walks R w a a
  along : {a c : ℕ} → (b : ℕ) → Has w a → R a b → Walks R w b c → Walks R w a c

-- s has exactly the parts to which a walk inside w leads from a part
pub record IsReach (R : ℕ → ℕ → Type 0) (w : PartSet) (from : ℕ) (s : PartSet) : Type 0 where
  pub walks : (q : ℕ) → Has s q → Walks R w from q
  pub all : (q : ℕ) → Walks R w from q → Has s q

-- no arc leads from s to a part of w outside s
abbrev pub IsShut : (ℕ → ℕ → Type 0) → PartSet → PartSet → Type 0
IsShut R w s = (a b : ℕ) → Has s a → Has w b → R a b → Has s b

-- ---- groups

-- two parts reach each other
abbrev pub AreMutual : (ℕ → ℕ → Type 0) → PartSet → ℕ → ℕ → Type 0
AreMutual R w a b = Walks R w a b × Walks R w b a

-- a class of parts that reach each other
pub record IsGroup (R : ℕ → ℕ → Type 0) (w s : PartSet) : Type 0 where
  pub nonempty : IsNonempty s
  pub within : IsSubset s w
  pub linked : (a b : ℕ) → Has s a → Has s b → Walks R w a b
  pub whole : (a b : ℕ) → Has s a → AreMutual R w a b → Has s b

-- the least part of each set comes before those of the later ones
abbrev pub InOrder : List PartSet → Type 0
InOrder [] = Unit {0}
InOrder (s ∷ rest) =
    ((t : PartSet) (p q : ℕ) → Contains rest t → IsLeastOf s p → IsLeastOf t q → p < q) × InOrder rest

-- all the groups, in order of their least part
pub record AreGroups (R : ℕ → ℕ → Type 0) (w : PartSet) (groups : List PartSet) : Type 0 where
  pub each : (s : PartSet) → Contains groups s → IsGroup R w s
  pub all : (s : PartSet) → IsGroup R w s → Contains groups s
  pub in_order : InOrder groups

-- every part reaches every other: there is one group
abbrev pub IsStrong : (ℕ → ℕ → Type 0) → PartSet → Type 0
IsStrong R w = (a b : ℕ) → Has w a → Has w b → Walks R w a b

-- a group that no arc leaves for the rest of w
pub record IsSink (R : ℕ → ℕ → Type 0) (w s : PartSet) : Type 0 where
  pub group : IsGroup R w s
  pub shut : IsShut R w s

-- of such groups the one that holds the least part
pub record IsFirstSink (R : ℕ → ℕ → Type 0) (w s : PartSet) : Type 0 where
  pub sink : IsSink R w s
  pub least : ℕ
  pub has : Has s least
  pub first : (t : PartSet) (q : ℕ) → IsSink R w t → Has t q → least ≤ q

-- ---- trees

-- w is strong, and from its least part one list of arcs leads to each other part, and one leads back: each arc is the
-- next one that reaches a new part
pub record AreTrees (R : ℕ → ℕ → Type 0) (w : PartSet) (trees : Trees) : Type 0 where
  pub strong : IsStrong R w
  pub count : trees.count + 1 ≡ set.len w
  pub outs : (root : ℕ) → IsLeastOf w root → IsTree R w (single root) (take trees.count trees.outs)
  pub ins : (root : ℕ) → IsLeastOf w root →
      IsTree (Back R) w (single root) (map swapped (take trees.count trees.ins))
