use Rattle.std.proofs.Common.{⊎_elim, ◌<◌, inl, inr, refl, sym, ◌∙◌}
use Rattle.std.proofs.lemmas.Bool.{ltb-true}
use Rattle.staat_vec.proofs.Integers.{zero_not_positive}
use Rattle.staat_vec.proofs.Naturals.{lt_test}
use Rattle.staat_vec.proofs.Signs.{sign_negative, sign_positive, zero_sign}
use Rattle.staat_ring.specs.Order.{order_det}
use Rattle.staat_ring.proofs.HalfTurn.{not_precedes}
use Rattle.staat_ring.proofs.order.is_before.Goals as goal

pub returns-in-Pos : goal.returns-in-Pos
returns-in-Pos c = λ planes g is. (λ t. inl (sign_positive (order_det planes g c.args.e c.args.f) (sym is ∙ c.in-Pos.is)), λ p. refl)

pub returns-in-Zero : goal.returns-in-Zero
returns-in-Zero c = λ planes g is.
    let z = zero_sign (order_det planes g c.args.e c.args.f) (sym is ∙ c.in-Zero.is) in
    (λ t. inr (z, ltb-true c.args.e.plane c.args.f.plane t), λ p. lt_test c.args.e.plane c.args.f.plane (⊎_elim {C = c.args.e.plane < c.args.f.plane} (λ h. absurd (zero_not_positive (order_det planes g c.args.e c.args.f) z h)) (λ h. h.1) p))

pub returns-in-Neg : goal.returns-in-Neg
returns-in-Neg c = λ planes g is.
    let n = sign_negative (order_det planes g c.args.e c.args.f) (sym is ∙ c.in-Neg.is) in
    (λ t. cc, λ p. absurd (not_precedes planes g c.args.e c.args.f n p))
