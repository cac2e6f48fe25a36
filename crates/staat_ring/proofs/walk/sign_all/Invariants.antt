use Rattle.std.proofs.Common.{◌≡◌, ℕ, ◌+◌, ◌<◌, ◌≤◌, length}
use Rattle.staat_vec.specs.declared.vector.V3.{V3}
use Rattle.staat_vec.specs.Vectors.{dot, sign}
use Rattle.staat_model.specs.Circles.{IsLinked}
use Rattle.staat_ring.specs.Rings.{linked_of}
use Rattle.staat_ring.specs.CountedSigns.{state_at}
use Rattle.staat_ring.specs.Stepping.{count_below}
use Rattle.staat_ring.specs.Belonging.{BelongTo}
use Rattle.staat_ring.proofs.walk.sign_all.Given as goal

abbrev pub invariant-loop-k : goal.invariant-loop-k
invariant-loop-k g l = record {
  all : l.k-end ≡ length l.table.planes;
  made : BelongTo l.table l.signs;
  done : (j : ℕ) (n : V3) → j < l.k → IsLinked l.table.planes (linked_of l.rings.rings) j n → (state_at l.signs.states j).sign ≡ sign (dot n l.d);
  few : l.steps ≤ l.initial.steps + count_below l.k (linked_of l.rings.rings);
}
