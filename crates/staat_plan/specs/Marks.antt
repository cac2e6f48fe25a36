-- What the marks of a robust plan say.
use Rattle.std.specs.Prelude.{◌≡◌, ◌≢◌, ℕ, List, [], ◌∷◌, ◌++◌, All, Contains, pos}
use Rattle.std.specs.FinSet as set
use Rattle.staat_vec.specs.{Primitives.IsPrimitiveOf, Vectors.dot, declared.vector.V3.V3}
use Rattle.staat_model.specs.{Outcomes.{Finding, Serves, Try, planned, stuck}, Planes.{ArePlanes, vertices}}
use Rattle.staat_model.specs.{Plans.{Plan, leaf, parts_of, split}, declared.assembly.Part.Part}
use Rattle.staat_model.specs.{declared.set.PartSet.PartSet, declared.tree.Kind.Kind}
use Rattle.staat_model.specs.declared.tree.Kind.TheVariants.{Edge, Open, Point}

-- the direction lies off all planes of w
abbrev pub IsOffPlanes : List Part → PartSet → V3 → Type 0
IsOffPlanes parts w d = (planes : List V3) → ArePlanes parts w planes → All (λ n. dot n d ≢ pos 0) planes

-- no direction off all planes of w serves w
abbrev pub OnlyPlanesServe : List Part → PartSet → Type 0
OnlyPlanesServe parts w =
    (planes : List V3) (d : V3) → ArePlanes parts w planes → All (λ n. dot n d ≢ pos 0) planes
    → Serves parts w d → ⊥

-- each direction that serves w is a positive multiple of a vertex of its planes
abbrev pub OnlyVerticesServe : List Part → PartSet → Type 0
OnlyVerticesServe parts w = (planes : List V3) (d : V3) → ArePlanes parts w planes → Serves parts w d
    → (v : V3) × Contains (vertices planes) v × IsPrimitiveOf d v

-- what the mark of a step of w along d says
abbrev pub MarkHolds : List Part → PartSet → V3 → Kind → Type 0
MarkHolds parts w d Open = IsOffPlanes parts w d
MarkHolds parts w d Edge = OnlyPlanesServe parts w
MarkHolds parts w d Point = OnlyPlanesServe parts w × OnlyVerticesServe parts w

-- the direction has one mark alone, and it holds of a step of w
pub record HasOneMark (parts : List Part) (w : PartSet) (try : Try) : Type 0 where
  pub mark : Kind
  pub is : try.mark ≡ mark ∷ []
  pub holds : MarkHolds parts w try.d mark

-- one mark for each split of the plan, in preorder, and each of them holds
pub data MarksHold (parts : List Part) : Plan → List Kind → Type 0 where
  at_leaf : {p : ℕ} → MarksHold parts (leaf p) []
  at_split : {d : V3} {moved rest : Plan} {mark : Kind} {ms rs marks : List Kind}
      → MarkHolds parts (set.union (parts_of moved) (parts_of rest)) d mark → MarksHold parts moved ms
      → MarksHold parts rest rs → marks ≡ mark ∷ ms ++ rs → MarksHold parts (split d moved rest) marks

-- the marks of the plan that is found hold, if one is
abbrev pub AreMarksRight : List Part → Finding → Type 0
AreMarksRight parts (planned plan marks) = MarksHold parts plan marks
AreMarksRight parts (stuck a) = Unit {0}
