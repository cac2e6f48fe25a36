use Rattle.std.proofs.Common.{refl, sym, ◌∙◌}
use Rattle.staat_vec.proofs.Signs.{zero_sign}
use Rattle.staat_ring.proofs.order.is_zero.Goals as goal

pub returns-in-Zero : goal.returns-in-Zero
returns-in-Zero c = λ z is. (λ t. zero_sign z (sym is ∙ c.in-Zero.is), λ e. refl)
