-- What statuses 0 and 1 of `linear` and `local` mean.
use Rattle.std.proofs.Common.{◌≡◌, ◌<◌, ◌≤◌, ℕ, List, Option, Some, None, refl, ap, ◌∙◌, subst, arith, inl, inr}
use Rattle.std.specs.Prelude.{Ok, nat_lt, if◌then◌else◌}
use Rattle.std.specs.FinSet as set
use Rattle.std.proofs.lemmas.Bool.Decides.{nat_tests}
use Rattle.staat_model.specs.declared.assembly.Part.{Part}
use Rattle.staat_input.specs.declared.answer.Answer.{Answer}
use Rattle.staat_input.specs.Work.{Files}
use Rattle.staat_input.specs.Counting.{all_parts}
use Rattle.staat_words.specs.declared.request.LinearRequest.{LinearRequest}
use Rattle.staat_linear.specs.declared.order.Order.{Order}
use Rattle.staat_linear.specs.declared.order.Order.TheVariants.{Whole, Locked}
use Rattle.staat_linear.specs.Orders.{IsChosen}
use Rattle.staat_linear.specs.OrderTexts.{order_text}
use Rattle.staat_linear.proofs.Choosing.{chosen_settles}
use Rattle.staat_linear.proofs.Locked.{locked_lemma}
use Rattle.staat_orders.specs.Ordering.{IsOrdered, order_answer, order_status, SaysLocked, SaysOrder, LinearWork}
use Rattle.staat_words.specs.declared.request.LocalRequest.{LocalRequest}
use Rattle.staat_local.specs.declared.side.Loose.{Loose}
use Rattle.staat_local.specs.Beginnings.{IsFoundIn, IsTight}
use Rattle.staat_local.proofs.Beginning.{none_loosens}
use Rattle.staat_local.proofs.Holding.{tight_is_stuck_lemma}
use Rattle.staat_orders.specs.Beginning.{IsBegun, local_answer, local_status, SaysBeginning, SaysTight, LocalWork}
use Rattle.staat_input.specs.Assembling.{AreSoundParts}
use Rattle.staat_input.proofs.SoundParts.{counted_answer, said}
use Rattle.staat_words.specs.Requests.{IsLinearRequest, IsLocalRequest}

-- the status of a set of parts no side of which begins to move
no_status : (n : ℕ) → 2 ≤ n → ◌≡◌ {A = ℕ} (if nat_lt n 2 then 0 else 1) 0 → ⊥
no_status n two zero = grind (arith, nat_tests)

no_status_one : (n : ℕ) → n < 2 → ◌≡◌ {A = ℕ} (if nat_lt n 2 then 0 else 1) 1 → ⊥
no_status_one n few one = grind (arith, nat_tests)

-- an order that is said takes all parts apart, and a set that is said to be locked is
order_is_said : (files : Files) (request : LinearRequest) (parts : List Part) (o : Order) → AreSoundParts files request.asked parts → IsChosen parts (all_parts parts) o → order_status o ≡ 0 → SaysOrder files request (order_text o)
order_is_said files request parts (Whole leaves last) are chosen zero =
    record { parts = parts; sound = are; leaves = leaves; last = last; good = chosen_settles parts (all_parts parts) (Whole leaves last) are.assembly chosen; says = refl }
order_is_said files request parts (Locked w) are chosen zero = absurd (omega (arith, zero))

locked_is_said : (files : Files) (request : LinearRequest) (parts : List Part) (o : Order) → AreSoundParts files request.asked parts → IsChosen parts (all_parts parts) o → order_status o ≡ 1 → SaysLocked files request (order_text o)
locked_is_said files request parts (Whole leaves last) are chosen one = absurd (omega (arith, one))
locked_is_said files request parts (Locked w) are chosen one =
    let settled = chosen_settles parts (all_parts parts) (Locked w) are.assembly chosen in
    record { parts = parts; sound = are; set = w; within = settled.0; locked = settled.1; none = λ leaves last good. locked_lemma parts w (all_parts parts) leaves last settled.1 settled.0 good.order good.free; says = refl }

-- with status 0 some side begins to move, or there is one part
beginning_is_said : (files : Files) (request : LocalRequest) (parts : List Part) (begins : Option Loose) → AreSoundParts files request.asked parts → IsFoundIn parts (all_parts parts) begins → local_status (all_parts parts) begins ≡ 0 → SaysBeginning files request (local_answer (all_parts parts) begins).text
beginning_is_said files request parts begins are found zero = record { parts = parts; sound = are; begins = begins; is_found = found; not_tight = λ tight. loosened begins found zero tight; says = refl }
  where
    loosened : (begins : Option Loose) → IsFoundIn parts (all_parts parts) begins → local_status (all_parts parts) begins ≡ 0 → IsTight parts (all_parts parts) → ⊥
    loosened (Some loose) (two, is) zero tight = none_loosens parts (all_parts parts) loose is tight
    loosened None is zero tight = let two = tight.two in no_status (set.len (all_parts parts)) two zero

-- with status 1 none does
tight_is_said : (files : Files) (request : LocalRequest) (parts : List Part) (begins : Option Loose) → AreSoundParts files request.asked parts → IsFoundIn parts (all_parts parts) begins → local_status (all_parts parts) begins ≡ 1 → SaysTight files request (local_answer (all_parts parts) begins).text
tight_is_said files request parts (Some loose) are found one = absurd (omega (arith, one))
tight_is_said files request parts None are (inl few) one = absurd (no_status_one (set.len (all_parts parts)) few one)
tight_is_said files request parts None are (inr tight) one = record { parts = parts; sound = are; is_tight = tight; is_stuck = tight_is_stuck_lemma parts (all_parts parts) tight; says = refl }

pub linear_is_right : (request : LinearRequest) (files : Files) (a : Answer) → IsLinearRequest request → LinearWork request files (Ok a) → a.status ≡ 0 → SaysOrder files request a.text
linear_is_right request files a bounds work zero =
    let (parts, are, p) = counted_answer files request.asked request.planes IsOrdered a bounds.0 work in
    said (SaysOrder files request) (order_answer p.order) a p.is (λ same. order_is_said files request parts p.order are p.chosen (same ∙ zero))

pub linear_is_denied : (request : LinearRequest) (files : Files) (a : Answer) → IsLinearRequest request → LinearWork request files (Ok a) → a.status ≡ 1 → SaysLocked files request a.text
linear_is_denied request files a bounds work one =
    let (parts, are, p) = counted_answer files request.asked request.planes IsOrdered a bounds.0 work in
    said (SaysLocked files request) (order_answer p.order) a p.is (λ same. locked_is_said files request parts p.order are p.chosen (same ∙ one))

pub local_is_right : (request : LocalRequest) (files : Files) (a : Answer) → IsLocalRequest request → LocalWork request files (Ok a) → a.status ≡ 0 → SaysBeginning files request a.text
local_is_right request files a bounds work zero =
    let (parts, are, p) = counted_answer files request.asked request.planes IsBegun a bounds.0 work in
    said (SaysBeginning files request) (local_answer (all_parts parts) p.begins) a p.is (λ same. beginning_is_said files request parts p.begins are p.is_found (same ∙ zero))

pub local_is_denied : (request : LocalRequest) (files : Files) (a : Answer) → IsLocalRequest request → LocalWork request files (Ok a) → a.status ≡ 1 → SaysTight files request a.text
local_is_denied request files a bounds work one =
    let (parts, are, p) = counted_answer files request.asked request.planes IsBegun a bounds.0 work in
    said (SaysTight files request) (local_answer (all_parts parts) p.begins) a p.is (λ same. tight_is_said files request parts p.begins are p.is_found (same ∙ one))
