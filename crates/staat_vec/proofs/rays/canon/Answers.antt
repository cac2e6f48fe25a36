use Rattle.std.proofs.Common.{◌≡◌, ◌≢◌, ◌∙◌, true, false, arith, sym, ℤ, pos, neg_ℤ, ◌<ℤ◌, FitsSigned, subst, to_z, of_z}
use Rattle.std.specs.Int.{w128}
use Rattle.std.proofs.lemmas.Int.{ints, to_z-of_z}
use lib.Signed.{lt_z}
use Rattle.staat_vec.specs.Primitives.{first_nonzero}
use Rattle.staat_vec.proofs.Canons.{canon-same, canon-opposite, first_nonzero-negative, first_nonzero-zero}
use Rattle.staat_vec.proofs.rays.canon.Goals as goal

above : (r z : ℤ) → FitsSigned w128 r → lt_z (pos 0) (to_z w128 (of_z w128 r)) ≡ true → r ≡ z → pos 0 <ℤ z
above r z fits test e = let h = rw (to_z-of_z w128 r fits) at test in omega (arith, ints)

not_above : (r z : ℤ) → FitsSigned w128 r → lt_z (pos 0) (to_z w128 (of_z w128 r)) ≡ false → r ≡ z → z ≢ pos 0 → pos 0 <ℤ neg_ℤ z
not_above r z fits test e some = let h = rw (to_z-of_z w128 r fits) at test in omega (arith, ints)

pub returns-then-first_nonzero-gt0-clause-first : goal.returns-then-first_nonzero-gt0-clause-first
returns-then-first_nonzero-gt0-clause-first c =
    let first = c.first_nonzero in
    above first.result (first_nonzero c.args.v) (record { sfits = first.type_inv }) c.if-first_nonzero-gt0.true first.ensures

pub returns-then-first_nonzero-gt0-clause-value : goal.returns-then-first_nonzero-gt0-clause-value
returns-then-first_nonzero-gt0-clause-value c =
    sym (canon-same c.args.v (returns-then-first_nonzero-gt0-clause-first c))

-- the first component of the negative is positive
pub returns-else-first_nonzero-gt0-clause-first : goal.returns-else-first_nonzero-gt0-clause-first
returns-else-first_nonzero-gt0-clause-first c =
    let v = c.args.v in
    let first = c.first_nonzero in
    let some : first_nonzero v ≢ pos 0 = λ e. c.requires.some (first_nonzero-zero v e) in
    let below = not_above first.result (first_nonzero v) (record { sfits = first.type_inv }) c.if-first_nonzero-gt0.false first.ensures some in
    rw (c.neg.ensures.value, first_nonzero-negative v) below

pub returns-else-first_nonzero-gt0-clause-value : goal.returns-else-first_nonzero-gt0-clause-value
returns-else-first_nonzero-gt0-clause-value c =
    let e = c.neg.ensures.value in
    e ∙ sym (canon-opposite c.args.v (subst (λ w. pos 0 <ℤ first_nonzero w) e (returns-else-first_nonzero-gt0-clause-first c)))
