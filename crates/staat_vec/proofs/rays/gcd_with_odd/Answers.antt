use Rattle.std.proofs.Common.{sym, subst, arith}
use Rattle.std.specs.Int.{IsGcd}
use Rattle.std.proofs.lemmas.Nat.Gcd.{IsGcd-from_zero}
use Rattle.staat_vec.proofs.OddParts.{IsGcd-one, step_to_lesser, step_from_greater}
use Rattle.staat_vec.proofs.rays.gcd_with_odd.Goals as goal

pub loop-y-preserved-then-x-z : goal.loop-y-preserved-then-x-z
loop-y-preserved-then-x-z c = (
  c.loop-y.invariant.0,
  λ g h. c.loop-y.invariant.1 g (subst (λ y. IsGcd c.loop-y.x y g) (sym c.odd_part-z.ensures.whole) (step_to_lesser c.loop-y.x c.odd_part-z.result g _ c.loop-y.invariant.0 (omega arith) h)),
)

pub loop-y-preserved : goal.loop-y-preserved
loop-y-preserved c = (
  c.odd_part-z.ensures.odd,
  λ g h. c.loop-y.invariant.1 g (subst (λ y. IsGcd c.loop-y.x y g) (sym c.odd_part-z.ensures.whole) (step_from_greater c.loop-y.x c.odd_part-z.result g _ c.loop-y.invariant.0 (omega arith) h)),
)

pub returns-else-x-ne1 : goal.returns-else-x-ne1
returns-else-x-ne1 c = c.loop-y.invariant.1 _ (subst (λ x. IsGcd x c.loop-y.y x) (omega arith) (IsGcd-one c.loop-y.y))

pub returns-after-loop-y : goal.returns-after-loop-y
returns-after-loop-y c = c.loop-y.invariant.1 _ (IsGcd-from_zero _ _ (omega arith))
