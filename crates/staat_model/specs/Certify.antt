-- The certificate of an outcome.
use Rattle.std.specs.Prelude.{◌≡◌, ℕ, suc, ◌<◌, pos, ◌≤ℤ◌, List, map, length, All, Contains}
use Rattle.std.specs.Prelude.{slice_get, Some}
use Rattle.staat_vec.specs.declared.vector.V3.{V3}
use Rattle.staat_vec.specs.Vectors.{dot, vector_cmp}
use Rattle.staat_vec.specs.Primitives.{IsCanon}
use Rattle.staat_model.specs.declared.assembly.Part.{Part}
use Rattle.staat_model.specs.declared.set.PartSet.{PartSet}
use Rattle.staat_model.specs.declared.certificate.Arc.{Arc}
use Rattle.staat_model.specs.declared.certificate.Sep.{Sep}
use Rattle.staat_model.specs.declared.certificate.Dir.{Dir}
use Rattle.staat_model.specs.declared.certificate.Node.{Node}
use Rattle.staat_model.specs.declared.certificate.Witness.{Witness}
use Rattle.staat_model.specs.declared.certificate.Body.{Body}
use Rattle.staat_model.specs.declared.certificate.Body.TheVariants as body
use Rattle.staat_model.specs.declared.certificate.Certificate.{Certificate}
use Rattle.staat_model.specs.Assemblies.{HoldsAt}
use Rattle.staat_model.specs.Bridges.{Back, IsTree}
use Rattle.staat_model.specs.Certificates.{WalledPlan, walled_leaf, walled_split, nodes_of, unwalled, walled_parts}
use Rattle.staat_model.specs.Certificates.{arc_cmp, outward, inward, IsAcross}
use Rattle.staat_model.specs.Facets.{IsFacet}
use Rattle.staat_vec.specs.Lists.{IsLeast, Lists}
use Rattle.staat_model.specs.Outcomes.{Finding, planned, stuck}
use Rattle.staat_model.specs.Planes.{ArePlanes, vertices}
use Rattle.staat_model.specs.Plans.{Plan}
use Rattle.staat_model.specs.Removal.{Blocks, MeetsAlong}
use Rattle.staat_model.specs.Sets.{IsLeastOf, single}

-- ---- plans

-- n is a facet of the arc's two pieces that d does not lead ahead of
pub record IsFacetAway (parts : List Part) (d : V3) (arc : Arc) (n : V3) : Type 0 where
  pub facet : HoldsAt parts arc (λ p q. IsFacet p q n)
  pub away : dot n d ≤ℤ pos 0

-- for each two pieces across one wall, the least facet that serves, in the order of the arcs
pub record AreLeastWalls (parts : List Part) (s r : PartSet) (d : V3) (seps : List Sep) : Type 0 where
  pub arcs : Lists arc_cmp (IsAcross parts s r) (map (λ sep. sep.arc) seps)
  pub least : All (λ sep. IsLeast vector_cmp (IsFacetAway parts d sep.arc) sep.n) seps

abbrev pub HasLeastWalls : List Part → WalledPlan → Type 0
HasLeastWalls parts (walled_leaf p) = Unit {0}
HasLeastWalls parts (walled_split d seps moved rest) =
    AreLeastWalls parts (walled_parts moved) (walled_parts rest) d seps
    × HasLeastWalls parts moved
    × HasLeastWalls parts rest

-- the nodes are those of the plan, with the least walls
pub record ArePlanNodes (parts : List Part) (plan : Plan) (nodes : List Node) : Type 0 where
  pub tree : WalledPlan
  pub nodes_are : nodes ≡ nodes_of tree
  pub plan_is : unwalled tree ≡ plan
  pub walls : HasLeastWalls parts tree

-- ---- refusals

-- the pieces of the arc are the first with which its first part blocks its second
abbrev pub IsLeastArc : List Part → V3 → Arc → Type 0
IsLeastArc parts d arc =
    IsLeast arc_cmp (λ other. (other.a ≡ arc.a) × (other.b ≡ arc.b) × MeetsAlong parts d other) arc

-- the witness that each part of w blocks its way to each other: the tree outwards from the least part, and that back
pub record IsWitnessAt (parts : List Part) (w : PartSet) (d : V3) (witness : Witness) : Type 0 where
  pub root : ℕ
  pub root_is : IsLeastOf w root
  pub outs : IsTree (Blocks parts d) w (single root) (map outward witness.outs)
  pub ins : IsTree (Back (Blocks parts d)) w (single root) (map inward witness.ins)
  pub outs_least : All (IsLeastArc parts d) witness.outs
  pub ins_least : All (IsLeastArc parts d) witness.ins

-- the numbers below n are all used, and each but 0 for the first time after the one below it
pub record NumbersByFirstUse (n : ℕ) (uses : List ℕ) : Type 0 where
  pub below : All (λ k. k < n) uses
  pub used : (k : ℕ) → k < n → Contains uses k
  pub in_order : (k m : ℕ) → slice_get uses m ≡ Some (suc k)
      → (j : ℕ) × (j < m) × (slice_get uses j ≡ Some k)

-- the line's witness is the one for its direction
pub record NamesWitness (parts : List Part) (w : PartSet) (witnesses : List Witness) (dir : Dir) : Type 0 where
  pub witness : Witness
  pub witness_is : slice_get witnesses dir.witness ≡ Some witness
  pub is : IsWitnessAt parts w dir.d witness

-- d is a vertex of the planes and, in version 2, the one of two opposite vertices that stands for both
pub record IsDirection (version : ℕ) (planes : List V3) (d : V3) : Type 0 where
  pub vertex : Contains (vertices planes) d
  pub canonical : version ≡ 2 → IsCanon d

-- each direction once, ascending, with its witness; equal witnesses once, numbered by first use
pub record IsRefusalOf (parts : List Part) (version : ℕ) (w : PartSet) (witnesses : List Witness) (dirs : List Dir)
    : Type 0 where
  pub planes : List V3
  pub planes_are : ArePlanes parts w planes
  pub directions : Lists vector_cmp (IsDirection version planes) (map (λ dir. dir.d) dirs)
  pub each : All (NamesWitness parts w witnesses) dirs
  pub distinct : (k m : ℕ) (x : Witness) → slice_get witnesses k ≡ Some x → slice_get witnesses m ≡ Some x
      → k ≡ m
  pub by_first_use : NumbersByFirstUse (length witnesses) (map (λ dir. dir.witness) dirs)

-- ---- certificates

abbrev pub IsBodyOf : List Part → ℕ → Finding → Body → Type 0
IsBodyOf parts version (planned plan marks) (body.Plan nodes) = ArePlanNodes parts plan nodes
IsBodyOf parts version (planned plan marks) (body.Stuck w witnesses dirs) = ⊥
IsBodyOf parts version (stuck w) (body.Plan nodes) = ⊥
IsBodyOf parts version (stuck w) (body.Stuck v witnesses dirs) = (v ≡ w)
    × IsRefusalOf parts version w witnesses dirs

-- the certificate, of this version, of what was found for the assembly
pub record IsCertificateOf (parts : List Part) (version : ℕ) (finding : Finding) (c : Certificate) : Type 0 where
  pub version_is : c.version ≡ version
  pub count : c.parts ≡ length parts
  pub body : IsBodyOf parts version finding c.body
