-- The order in which all parts are taken away, one at a time, or the parts that are locked, and how either is written.
use Rattle.std.specs.Prelude.{◌≡◌, ℕ, List, Ok}
use Rattle.staat_model.specs.declared.assembly.Part.{Part}
use Rattle.staat_linear.specs.declared.order.Order.{Order}
use Rattle.staat_linear.specs.declared.order.Order.TheVariants.{Whole, Locked}
use Rattle.staat_linear.specs.Orders.{IsChosen, IsGoodOrder, IsLocked}
use Rattle.staat_linear.specs.OrderTexts.{order_text}
use Rattle.staat_input.specs.declared.answer.Answer.{Answer}
use Rattle.staat_input.specs.Work.{Found, Files, Then}
use Rattle.staat_input.specs.Counting.{all_parts, AreCounted}
use Rattle.staat_model.specs.declared.set.PartSet.{PartSet}
use Rattle.staat_model.specs.Sets.{IsSubset}
use Rattle.staat_words.specs.declared.request.LinearRequest.{LinearRequest}
use Rattle.staat_linear.specs.declared.order.Leave.{Leave}
use Rattle.staat_input.specs.Assembling.{IsSoundOf, AreSoundParts}

-- 0 for an order and 1 for a set that is locked
abbrev pub order_status : Order → ℕ
order_status (Whole leaves last) = 0
order_status (Locked w) = 1

-- the answer for an order
abbrev pub order_answer : Order → Answer
order_answer order = record { status = order_status order; text = order_text order }

-- The last step for an order: the chosen order of all parts, written.
pub record IsOrdered (parts : List Part) (found : Found Answer) : Type 0 where
  pub order : Order
  pub chosen : IsChosen parts (all_parts parts) order
  pub is : found ≡ Ok (order_answer order)

-- what it finds for sound parts: their planes are counted, and then they are ordered
abbrev pub IsCountedOrder : ℕ → List Part → Found Answer → Type 0
IsCountedOrder limit parts found = Then (AreCounted parts limit) (λ planes. IsOrdered parts) found

-- what the work on `linear` finds
abbrev pub LinearWork : LinearRequest → Files → Found Answer → Type 0
LinearWork request files found =
    Then (IsSoundOf files request.asked) (λ parts. Then (AreCounted parts request.planes)
    (λ planes. IsOrdered parts)) found

-- the text is that of an order that takes all parts apart, one at a time
pub record SaysOrder (files : Files) (request : LinearRequest) (text : List ℕ) : Type 0 where
  pub parts : List Part
  pub sound : AreSoundParts files request.asked parts
  pub leaves : List Leave
  pub last : ℕ
  pub good : IsGoodOrder parts (all_parts parts) leaves last
  pub says : text ≡ order_text (Whole leaves last)

-- the text names parts that are locked, so that no order takes all parts apart
pub record SaysLocked (files : Files) (request : LinearRequest) (text : List ℕ) : Type 0 where
  pub parts : List Part
  pub sound : AreSoundParts files request.asked parts
  pub set : PartSet
  pub within : IsSubset set (all_parts parts)
  pub locked : IsLocked parts set
  pub none : (leaves : List Leave) (last : ℕ) → IsGoodOrder parts (all_parts parts) leaves last → ⊥
  pub says : text ≡ order_text (Locked set)
