-- Which parts can be taken away along a direction: the directional blocking graph of Wilson and Latombe (1994).
-- What is said for any relation R of two pieces and a direction ends in `By`; the words without it are for `Meets`.
use Rattle.std.specs.Prelude.{◌≢◌, ℕ, List}
use Rattle.staat_vec.specs.declared.vector.V3.{V3}
use Rattle.staat_vec.specs.Vectors.{origin}
use Rattle.staat_model.specs.declared.assembly.Part.{Part}
use Rattle.staat_model.specs.declared.set.PartSet.{PartSet}
use Rattle.staat_model.specs.declared.certificate.Arc.{Arc}
use Rattle.staat_model.specs.Assemblies.{HoldsAt}
use Rattle.staat_model.specs.Meeting.{Meets}
use Rattle.staat_model.specs.Sets.{Has}

-- R holds of the two pieces of the arc and d
abbrev pub HoldsAlong : (List V3 → List V3 → V3 → Type 0) → List Part → V3 → Arc → Type 0
HoldsAlong R parts d arc = HoldsAt parts arc (λ p q. R p q d)

-- d is not zero, and R holds along d of no piece of a part of s and a piece of a part of r
pub record IsFreeBy (R : List V3 → List V3 → V3 → Type 0) (parts : List Part) (s r : PartSet) (d : V3)
    : Type 0 where
  pub moves : d ≢ origin
  pub clear : (arc : Arc) → Has s arc.a → Has r arc.b → HoldsAlong R parts d arc → ⊥

-- a and b are different parts, and R holds along d of some piece of a and some piece of b
pub record BlocksBy (R : List V3 → List V3 → V3 → Type 0) (parts : List Part) (d : V3) (a b : ℕ) : Type 0 where
  pub i : ℕ
  pub j : ℕ
  pub different : a ≢ b
  pub meets : HoldsAlong R parts d (record { a = a; i = i; b = b; j = j })

-- the first piece of the arc meets the second along d
abbrev pub MeetsAlong : List Part → V3 → Arc → Type 0
MeetsAlong = HoldsAlong Meets

-- the parts of s can be moved along d to infinity past those of r: no piece of the one ever meets one of the other
abbrev pub IsFree : List Part → (s r : PartSet) → V3 → Type 0
IsFree = IsFreeBy Meets

-- an arc of the blocking graph at d: some piece of part a meets along d some piece of another part b
abbrev pub Blocks : List Part → V3 → (a b : ℕ) → Type 0
Blocks = BlocksBy Meets
