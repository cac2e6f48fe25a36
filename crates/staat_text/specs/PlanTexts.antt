-- The text of a plan, or of a set that is stuck.
use Rattle.std.specs.Prelude.{◌≡◌, ◌++◌, ◌∷◌, [], ℕ, ◌+◌, ◌<◌, ℤ, pos, Bool, List}
use Rattle.std.specs.Prelude.{drop, flat_map, codes, decimal}
use Rattle.std.specs.Fmt.{signed_decimal}
use Rattle.staat_vec.specs.declared.vector.V3.{V3}
use Rattle.staat_model.specs.declared.assembly.Part.{Part}
use Rattle.staat_limits.specs.declared.limits.TheConstants.{MOST_PRODUCT_PARTS}
use Rattle.staat_model.specs.declared.set.PartSet.{PartSet}
use Rattle.staat_model.specs.declared.tree.Kind.{Kind}
use Rattle.staat_model.specs.declared.tree.Kind.TheVariants.{Point, Edge, Open}
use Rattle.staat_model.specs.Lines.{members_from, spaced, vector_numbers}
use Rattle.staat_model.specs.Outcomes.{Finding, IsOutcome, planned, stuck}
use Rattle.staat_model.specs.Plans.{Plan, leaf, parts_of, split}
use Rattle.staat_model.specs.Sets.{AreApart, Has}

-- a part number after a space
abbrev pub number_text : ℕ → List ℕ
number_text p = codes " " ++ decimal p

-- the numbers, each after a space
abbrev pub numbers_text : List ℕ → List ℕ
numbers_text numbers = flat_map number_text numbers

-- the numbers of the parts of a product that are in a set, ascending
unfoldable pub part_numbers : PartSet → List ℕ
part_numbers w = members_from 0 MOST_PRODUCT_PARTS w

-- the parts of a set, ascending, each after a space
abbrev pub parts_listed : PartSet → List ℕ
parts_listed w = numbers_text (part_numbers w)

-- each number after a space, and then a text
abbrev pub numbers_before : List ℤ → List ℕ → List ℕ
numbers_before [] text = text
numbers_before (z ∷ zs) text = 32 ∷ (signed_decimal z ++ numbers_before zs text)

-- the direction between the two sides
abbrev pub direction_text : V3 → List ℕ
direction_text d = codes " along" ++ numbers_before (vector_numbers d) (codes " away from")

-- the mark of a robust step
abbrev pub kind_text : Kind → List ℕ
kind_text Open = codes " by open"
kind_text Edge = codes " by edge"
kind_text Point = codes " by point"

-- the first of the marks, if there is one
abbrev pub mark_text : List Kind → List ℕ
mark_text [] = []
mark_text (kind ∷ kinds) = kind_text kind

-- `move P .. along X Y Z away from Q ..`, and the mark
abbrev pub move_line : PartSet → V3 → PartSet → List Kind → List ℕ
move_line moved d rest marks =
    codes "move" ++ parts_listed moved ++ direction_text d ++ parts_listed rest ++ mark_text marks ++ codes "\n"

-- the number of steps
abbrev pub steps_of : Plan → ℕ
steps_of (leaf p) = 0
steps_of (split d moved rest) = 1 + steps_of moved + steps_of rest

-- a line for each step in preorder, where the marks from the first step on are given
abbrev pub move_lines : Plan → List Kind → List ℕ
move_lines (leaf p) marks = []
move_lines (split d moved rest) marks =
    move_line (parts_of moved) d (parts_of rest) marks
    ++ move_lines moved (drop 1 marks)
    ++ move_lines rest (drop (1 + steps_of moved) marks)

-- a line for each step and the number of steps, or the parts that are stuck
abbrev pub plan_text : Finding → List ℕ
plan_text (planned plan marks) = move_lines plan marks ++ codes "moves" ++ spaced (pos (steps_of plan) ∷ [])
plan_text (stuck w) = codes "stuck" ++ parts_listed w ++ codes "\n"

-- the leaves of the plan are different parts
abbrev pub AreLeavesApart : Plan → Type 0
AreLeavesApart (leaf p) = Unit {0}
AreLeavesApart (split d moved rest) =
    AreApart (parts_of moved) (parts_of rest) × AreLeavesApart moved × AreLeavesApart rest

-- they are, and they are parts that a product can have
pub record HasLeaves (plan : Plan) : Type 0 where
  pub small : (p : ℕ) → Has (parts_of plan) p → p < MOST_PRODUCT_PARTS
  pub apart : AreLeavesApart plan

abbrev pub CanBeShown : Finding → Type 0
CanBeShown (planned plan marks) = HasLeaves plan
CanBeShown (stuck w) = Unit {0}

-- the bytes are the text of the outcome of w
pub record IsPlanText (robust : Bool) (parts : List Part) (w : PartSet) (text : List ℕ) : Type 0 where
  pub found : Finding
  pub outcome : IsOutcome robust parts w found
  pub is : text ≡ plan_text found
