-- Why a certificate is not valid: the first rule that it breaks, in the order of the rules.
use Rattle.std.specs.Prelude.{◌≡◌, ◌≢◌, ◌⊎◌, ℕ, ◌+◌, ◌<◌, ◌≤◌}
use Rattle.std.specs.Prelude.{List, [], ◌∷◌, ◌++◌}
use Rattle.std.specs.Prelude.{map, length, All, Contains, sum_by}
use Rattle.std.specs.FinSet as set
use Rattle.std.specs.Ordering.{nat_cmp}
use Rattle.staat_vec.specs.declared.vector.V3.{V3}
use Rattle.staat_vec.specs.Vectors.{origin}
use Rattle.staat_model.specs.declared.assembly.Part.{Part}
use Rattle.staat_model.specs.declared.set.PartSet.{PartSet}
use Rattle.staat_model.specs.declared.certificate.Arc.{Arc}
use Rattle.staat_model.specs.declared.certificate.Sep.{Sep}
use Rattle.staat_model.specs.declared.certificate.Dir.{Dir}
use Rattle.staat_model.specs.declared.certificate.Node.{Node}
use Rattle.staat_model.specs.declared.certificate.Node.TheVariants.{Leaf, Split}
use Rattle.staat_model.specs.declared.certificate.Witness.{Witness}
use Rattle.staat_model.specs.declared.certificate.Body.{Body}
use Rattle.staat_model.specs.declared.certificate.Body.TheVariants as body
use Rattle.staat_model.specs.declared.certificate.Certificate.{Certificate}
use Rattle.staat_model.specs.declared.verdict.Verdict.{Verdict}
use Rattle.staat_model.specs.declared.verdict.Verdict.TheVariants.{ValidPlan, ValidRefusal, Not}
use Rattle.staat_model.specs.declared.verdict.Reason.{Reason}
use Rattle.staat_model.specs.declared.verdict.Reason.TheVariants.{WrongParts, BadLeaves, ZeroDirection, BadSeparator}
use Rattle.staat_model.specs.declared.verdict.Reason.TheVariants.{MissingSeparator, BadStuckSet, BadArc, BadTree}
use Rattle.staat_model.specs.declared.verdict.Reason.TheVariants.{MissingDirection}
use Rattle.staat_model.specs.Certificates.{WalledPlan, walled_leaf, walled_split, nodes_of, walled_parts, arc_cmp}
use Rattle.staat_model.specs.Certificates.{IsAcross, IsWall, SplitHolds, IsLeafAt, AreAllLeaves}
use Rattle.staat_model.specs.Certificates.{IsStuckSet}
use Rattle.staat_model.specs.Certificates.{IsWitness, IsBlocked, IsListed, IsValidPlan, IsValidRefusal}
use Rattle.staat_vec.specs.Lists.{FailsFirst, IsFirst, IsLeast}
use Rattle.staat_model.specs.Planes.{ArePlanes, vertices}
use Rattle.staat_model.specs.Sets.{Has}

-- the line of a certificate's text on which its first node, or its first witness, stands
abbrev pub first_line : ℕ
first_line = 4

-- ---- plans

-- the leaf at node k has a part that does not exist, or that an earlier leaf has
pub record IsBadLeaf (n : ℕ) (nodes : List Node) (k : ℕ) : Type 0 where
  pub part : ℕ
  pub leaf_is : IsLeafAt nodes k part
  pub bad : (n ≤ part) ⊎ ((m : ℕ) × (m < k) × IsLeafAt nodes m part)

-- some part has no leaf
pub record HasMissingLeaf (n : ℕ) (nodes : List Node) : Type 0 where
  pub part : ℕ
  pub exists : part < n
  pub missing : (k : ℕ) → IsLeafAt nodes k part → ⊥

-- the first bad leaf, or, where there is none and a part is missing, the number of nodes
pub data IsLeafFault (n : ℕ) (nodes : List Node) (node : ℕ) : Type 0 where
  bad_leaf : IsLeast nat_cmp (IsBadLeaf n nodes) node → IsLeafFault n nodes node
  missing_leaf : ((k : ℕ) → IsBadLeaf n nodes k → ⊥) → HasMissingLeaf n nodes → node ≡ length nodes
      → IsLeafFault n nodes node

-- a split as it is listed: the number of its node, its line, its two sides, and what the node says
pub record SplitEntry : Type 0 where
  pub node : ℕ
  pub line : ℕ
  pub moved : PartSet
  pub rest : PartSet
  pub d : V3
  pub seps : List Sep

-- the first rule that a split breaks
pub data IsSplitReason (parts : List Part) (split : SplitEntry) (reason : Reason) : Type 0 where
  zero_direction : split.d ≡ origin → reason ≡ ZeroDirection split.node → IsSplitReason parts split reason
  bad_separator : (m : ℕ) → split.d ≢ origin
      → FailsFirst (IsWall parts split.moved split.rest split.d) split.seps m
      → reason ≡ BadSeparator (split.line + 1 + m) → IsSplitReason parts split reason
  missing_separator : (arc : Arc) → split.d ≢ origin
      → All (IsWall parts split.moved split.rest split.d) split.seps
      → IsLeast arc_cmp (λ other. IsAcross parts split.moved split.rest other
      × (Contains (map (λ sep. sep.arc) split.seps) other → ⊥)) arc
      → reason ≡ MissingSeparator arc.a arc.i arc.b arc.j → IsSplitReason parts split reason

-- how many lines a node takes
abbrev pub node_size : Node → ℕ
node_size (Leaf p) = 1
node_size (Split d seps) = 1 + length seps

-- the splits of a plan in preorder, where its first node has these numbers: behind a split come those of the side that
-- moves, and then those of the rest
abbrev pub splits_of : WalledPlan → (node line : ℕ) → List SplitEntry
splits_of (walled_leaf p) node line = []
splits_of (walled_split d seps moved rest) node line =
    record { node = node; line = line; moved = walled_parts moved; rest = walled_parts rest; d = d; seps = seps }
    ∷ (splits_of moved (node + 1) (line + 1 + length seps)
    ++ splits_of rest (node + 1 + length (nodes_of moved))
    (line + 1 + length seps + sum_by node_size (nodes_of moved)))

-- the split keeps its rules
abbrev pub EntryHolds : List Part → SplitEntry → Type 0
EntryHolds parts split = SplitHolds parts split.moved split.rest split.d split.seps

-- the reason is that of the first split in preorder that breaks a rule
pub record IsTreeReason (parts : List Part) (tree : WalledPlan) (reason : Reason) : Type 0 where
  pub place : ℕ
  pub first : FailsFirst (EntryHolds parts) (splits_of tree 0 first_line) place
  pub reason_is : IsSplitReason parts first.x reason

-- the rules of a plan: the number of parts, then the leaves, then the splits
pub data IsPlanReason (parts : List Part) (stated : ℕ) (nodes : List Node) (reason : Reason) : Type 0 where
  wrong_parts : stated ≢ length parts → reason ≡ WrongParts stated → IsPlanReason parts stated nodes reason
  bad_leaves : (node : ℕ) → stated ≡ length parts → IsLeafFault (length parts) nodes node
      → reason ≡ BadLeaves node
      → IsPlanReason parts stated nodes reason
  bad_split : (tree : WalledPlan) → stated ≡ length parts → AreAllLeaves (length parts) nodes
      → nodes ≡ nodes_of tree
      → IsTreeReason parts tree reason → IsPlanReason parts stated nodes reason

-- ---- refusals

-- fewer than two parts, or one that the assembly does not have
abbrev pub IsNoStuckSet : List Part → PartSet → Type 0
IsNoStuckSet parts w = (set.len w < 2) ⊎ ((p : ℕ) × Has w p × (length parts ≤ p))

-- how many lines a witness takes
abbrev pub witness_size : Witness → ℕ
witness_size w = 1 + length w.outs + length w.ins

-- the rules of a refusal: the number of parts, then the set, then the witnesses, then the arcs, then the directions
pub data IsRefusalReason (parts : List Part) (version stated : ℕ) (w : PartSet) (witnesses : List Witness)
    (dirs : List Dir) (reason : Reason) : Type 0 where
  wrong_parts : stated ≢ length parts → reason ≡ WrongParts stated
      → IsRefusalReason parts version stated w witnesses dirs reason
  bad_stuck_set : stated ≡ length parts → IsNoStuckSet parts w → reason ≡ BadStuckSet
      → IsRefusalReason parts version stated w witnesses dirs reason
  bad_tree : (k : ℕ) → stated ≡ length parts → IsStuckSet parts w
      → FailsFirst (IsWitness parts w) witnesses k
      → reason ≡ BadTree k → IsRefusalReason parts version stated w witnesses dirs reason
  bad_arc : (m : ℕ) → stated ≡ length parts → IsStuckSet parts w → All (IsWitness parts w) witnesses
      → FailsFirst (IsBlocked parts witnesses) dirs m
      → reason ≡ BadArc (first_line + sum_by witness_size witnesses + m)
      → IsRefusalReason parts version stated w witnesses dirs reason
  missing_direction : (planes : List V3) → (d : V3) → stated ≡ length parts → IsStuckSet parts w
      → All (IsWitness parts w) witnesses → All (IsBlocked parts witnesses) dirs → ArePlanes parts w planes
      → IsFirst (λ v. IsListed version dirs v → ⊥) (vertices planes) d → reason ≡ MissingDirection d
      → IsRefusalReason parts version stated w witnesses dirs reason

-- ---- certificates

abbrev pub IsBodyReason : List Part → (version stated : ℕ) → Body → Reason → Type 0
IsBodyReason parts version stated (body.Plan nodes) reason = IsPlanReason parts stated nodes reason
IsBodyReason parts version stated (body.Stuck w witnesses dirs) reason =
    IsRefusalReason parts version stated w witnesses dirs reason

-- the certificate is not valid for the assembly, and this is the first rule that it breaks
abbrev pub IsReason : List Part → Certificate → Reason → Type 0
IsReason parts c reason = IsBodyReason parts c.version c.parts c.body reason

-- what is said of the certificate for the assembly
abbrev pub IsVerdict : List Part → Certificate → Verdict → Type 0
IsVerdict parts c ValidPlan = IsValidPlan parts c
IsVerdict parts c ValidRefusal = IsValidRefusal parts c
IsVerdict parts c (Not reason) = IsReason parts c reason
