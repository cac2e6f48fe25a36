use Rattle.std.proofs.Common.{◌≡◌, ◌∙◌, ◌+◌, ◌<◌, ◌≤ℤ◌, ℕ, Any, get_or, subst, sym}
use Rattle.std.specs.Int.{w128}
use Rattle.std.proofs.lemmas.Int.{to_z-of_z}
use Rattle.staat_vec.specs.declared.vector.V3.{V3}
use Rattle.staat_vec.specs.Vectors.{dot}
use Rattle.staat_local.proofs.Points.{at_more, reach_more}
use Rattle.staat_local.proofs.pieces.reach.Goals as goal

pub loop-p-preserved : goal.loop-p-preserved
loop-p-preserved c =
    let new = c.greater-far in
    let written = sym (to_z-of_z w128 new.result (record { sfits = new.type_inv })) in
    let is = to_z-of_z w128 c.dot.result (record { sfits = c.dot.type_inv }) ∙ c.dot.ensures.value in
    record {
      at = subst (λ z. Any (λ p. dot p c.args.n ≡ z) c.args.points.now) written
          (at_more c.args.n c.args.points.now c.loop-p.p-index c.loop-p-test.true _ _ new.result c.loop-p.invariant.at is new.ensures.either);
      most = subst (λ z. (k : ℕ) (v : V3) → k < c.loop-p.p-index + 1 → dot (get_or c.args.points.now k v) c.args.n ≤ℤ z) written
          (reach_more c.args.n c.args.points.now c.loop-p.p-index c.loop-p-test.true _ _ new.result c.loop-p.invariant.most is new.ensures.first new.ensures.second);
    }
