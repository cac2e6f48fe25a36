use Rattle.std.proofs.Common.{◌≡◌, ℕ, ◌<◌, ◌≤ℤ◌, Any, get_or}
use Rattle.staat_vec.specs.declared.vector.V3.{V3}
use Rattle.staat_vec.specs.Vectors.{dot}
use Rattle.staat_local.proofs.pieces.reach.Given as goal

abbrev pub invariant-loop-p : goal.invariant-loop-p
invariant-loop-p l = record {
  at : Any (λ p. dot p l.n ≡ l.far) l.points;
  most : (k : ℕ) (v : V3) → k < l.p-index → dot (get_or l.points k v) l.n ≤ℤ l.far;
}
