use Rattle.std.proofs.Common.{◌↔◌, ◌∙◌, ap, refl, subst}
use Rattle.std.specs.Prelude.{IsTrue}
use Rattle.staat_vec.specs.Vectors.{negative}
use Rattle.staat_model.specs.Meeting.{Meets}
use Rattle.staat_motion.proofs.Kept.{turned_facets_tell}
use Rattle.staat_motion.proofs.along.Along.meets_with_turned.Goals as goal

pub returns-then-apart : goal.returns-then-apart
returns-then-apart c parts made has = ((λ t. absurd cc), (λ m. absurd (c.if-apart.ensures.never parts made refl m)))

pub returns : goal.returns
returns c parts made has =
    let is = c.neg-back.ensures.value ∙ ap negative c.direction.ensures.is in
    turned_facets_tell parts c.args.arc c.args.self.now.d c.args.facets.now c.blocks-2.result made.parts_are
    (λ p q is_p is_q are. subst (λ e. IsTrue c.blocks-2.result ↔ Meets p q e) is (c.blocks-2.ensures.meets p q is_p is_q are)) has
