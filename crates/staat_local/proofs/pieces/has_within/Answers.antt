use Rattle.std.proofs.Common.{◌∙◌, ◌≤ℤ◌, ℤ, IsTrue, arith, of_z, subst, sym, to_z}
use Rattle.std.specs.Int.{w128}
use Rattle.std.specs.Int.Signed.{le_z}
use Rattle.std.proofs.lemmas.Bool.{false≢true}
use Rattle.std.proofs.lemmas.Int.{ints, to_z-of_z}
use Rattle.staat_local.proofs.Points.{none_more}
use Rattle.staat_local.proofs.pieces.has_within.Goals as goal

at_most : (a b : ℤ) → a ≤ℤ b → IsTrue (le_z a b)
at_most a b h = grind (arith, ints, h)

pub loop-p-preserved : goal.loop-p-preserved
loop-p-preserved c =
    let far = to_z w128 (of_z w128 c.args.far) in
    let read = to_z-of_z w128 c.dot.result (record { sfits = c.dot.type_inv }) ∙ c.dot.ensures.value in
    none_more c.args.n c.args.points.now c.loop-p.p-index c.loop-p-test.true far c.loop-p.invariant (λ h. false≢true (sym c.if-dot-far.false ∙ at_most _ far (subst (λ z. z ≤ℤ far) (sym read) h)))
