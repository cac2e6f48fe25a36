use Rattle.std.proofs.Common.{ℕ, ◌≡◌, ◌%◌, ◌+◌}
use Rattle.std.specs.Int.{IsGcd}
use Rattle.staat_vec.proofs.rays.gcd_with_odd.Given as goal

abbrev pub invariant-loop-y : goal.invariant-loop-y
invariant-loop-y l = (l.x % 2 ≡ 1) × ((g : ℕ) → IsGcd l.x l.y g → IsGcd l.fn.odd l.fn.other g)

abbrev pub decreases-loop-y : goal.decreases-loop-y
decreases-loop-y l = l.x + l.y
