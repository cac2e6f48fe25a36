use Rattle.std.proofs.Common.{◌≡◌, Bool, [], ◌∷◌, false, refl, true}
use mathlib.Core.Bool.{beq}
use Rattle.staat_vec.specs.declared.vector.V3.{V3}
use Rattle.staat_vec.specs.Vectors.{det}
use Rattle.staat_vec.proofs.Ring.{ring}
use Rattle.staat_vec.proofs.VecRing.{detE, negativeE, v0, v1, v2, values}
use Rattle.staat_ring.specs.Rings.{facet_by}
use Rattle.staat_planes.specs.PairOrder.{plane_at}
use Rattle.staat_ring.proofs.order.planes_in_turn.Goals as goal

both_turned : (g a b : V3) (s t : Bool) → beq s t ≡ true → det g a b ≡ det g (facet_by s a) (facet_by t b)
both_turned g a b false false e = refl
both_turned g a b true true e = ring (values (g ∷ a ∷ b ∷ []) []) (detE v0 v1 v2) (detE v0 (negativeE v1) (negativeE v2)) tt
both_turned g a b s t e = absurd cc

one_turned : (g a b : V3) (s t : Bool) → beq s t ≡ false → det g b a ≡ det g (facet_by s a) (facet_by t b)
one_turned g a b false true e = ring (values (g ∷ a ∷ b ∷ []) []) (detE v0 v2 v1) (detE v0 v1 (negativeE v2)) tt
one_turned g a b true false e = ring (values (g ∷ a ∷ b ∷ []) []) (detE v0 v2 v1) (detE v0 (negativeE v1) v2) tt
one_turned g a b s t e = absurd cc

pub returns-then-e-f-clause-order : goal.returns-then-e-f-clause-order
returns-then-e-f-clause-order c = λ planes g. both_turned g (plane_at planes c.args.e.plane) (plane_at planes c.args.f.plane) c.args.e.turned c.args.f.turned c.if-e-f.true

pub returns-else-e-f-clause-order : goal.returns-else-e-f-clause-order
returns-else-e-f-clause-order c = λ planes g. one_turned g (plane_at planes c.args.e.plane) (plane_at planes c.args.f.plane) c.args.e.turned c.args.f.turned c.if-e-f.false
