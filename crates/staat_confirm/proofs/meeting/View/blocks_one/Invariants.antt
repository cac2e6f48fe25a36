use Rattle.std.proofs.Common.{◌≡◌, ℕ, ◌<◌, get_or}
use Rattle.staat_model.specs.Removal.{Blocks}
use Rattle.staat_confirm.proofs.meeting.View.blocks_one.Given as goal

abbrev pub invariant-loop-b : goal.invariant-loop-b
invariant-loop-b g l = (k b : ℕ) → k < l.b-index → get_or l.rest k b ≡ b → Blocks l.self.product.now l.self.along.now.d l.a b → ⊥
