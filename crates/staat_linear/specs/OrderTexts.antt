-- The text of an order, or of a set that is locked.
use Rattle.std.specs.Prelude.{ℕ, List, ◌++◌, codes, decimal, flat_map}
use Rattle.staat_model.specs.declared.set.PartSet.{PartSet}
use Rattle.staat_model.specs.Lines.{spaced, vector_numbers}
use Rattle.staat_text.specs.PlanTexts.{parts_listed}
use Rattle.staat_linear.specs.declared.order.Leave.{Leave}
use Rattle.staat_linear.specs.declared.order.Order.{Order}
use Rattle.staat_linear.specs.declared.order.Order.TheVariants.{Whole, Locked}

-- `take P along X Y Z`
abbrev pub take_line : Leave → List ℕ
take_line leave = codes "take " ++ (decimal leave.part ++ (codes " along" ++ spaced (vector_numbers leave.d)))

-- `last P`
abbrev pub last_line : ℕ → List ℕ
last_line last = codes "last " ++ (decimal last ++ codes "\n")

-- `locked P ..`
abbrev pub locked_line : PartSet → List ℕ
locked_line w = codes "locked" ++ parts_listed w ++ codes "\n"

-- a line for each part that leaves and one for the last, or the parts that are locked
abbrev pub order_text : Order → List ℕ
order_text (Whole leaves last) = flat_map take_line leaves ++ last_line last
order_text (Locked w) = locked_line w
