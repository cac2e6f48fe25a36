-- The answer for two pieces.
use Rattle.std.proofs.Common.{◌≡◌, List, Ok, Err, ap₂, subst, sym}
use Rattle.std.specs.Prelude.{IfErr, IfOk, Result, codes}
use Rattle.staat_vec.specs.declared.vector.V3.{V3}
use Rattle.staat_model.specs.Walls.{IsShown}
use Rattle.staat_input.specs.declared.answer.Answer.{Answer}
use Rattle.staat_directions.specs.Pairs.{IsJudged, free, not_shown}
use Rattle.staat_fault.specs.declared.fault.Fault.{Fault}
use Rattle.staat_fault.specs.declared.fault.Fault.TheVariants.{OutOfMemory}
use Rattle.staat_input.specs.Causes.{HasCause, ShelfSide}
use Rattle.staat_input.specs.Work.{Follows, answer}

pub judged_free : (p q : List V3) (d n : V3) (r : Result Answer Fault) → IsShown p q d n → IfOk r (λ a. a.status ≡ 0) → IfOk r (λ a. a.text ≡ codes "free\n") → IfErr r (λ f. f ≡ OutOfMemory) → Follows (IsJudged p q d n) r
judged_free p q d n (Ok a) shown s t none = free shown (ap₂ (λ x y. Ok (answer x y)) s t)
judged_free p q d n (Err f) shown s t none = subst (λ g. Follows (IsJudged p q d n) (Err g)) (sym none) tt

pub judged_not_shown : (p q : List V3) (d n : V3) (r : Result Answer Fault) → (IsShown p q d n → ⊥) → IfOk r (λ a. a.status ≡ 1) → IfOk r (λ a. a.text ≡ codes "not shown\n") → IfErr r (λ f. f ≡ OutOfMemory) → Follows (IsJudged p q d n) r
judged_not_shown p q d n (Ok a) not s t none = not_shown not (ap₂ (λ x y. Ok (answer x y)) s t)
judged_not_shown p q d n (Err f) not s t none = subst (λ g. Follows (IsJudged p q d n) (Err g)) (sym none) tt

pub no_memory : (shelf : ShelfSide) (r : Result Answer Fault) → IfErr r (λ f. f ≡ OutOfMemory) → IfErr r (HasCause shelf)
no_memory shelf (Ok a) none = tt
no_memory shelf (Err f) none = subst (HasCause shelf) (sym none) tt

pub ruleset judged = (judged_free, judged_not_shown, no_memory)
