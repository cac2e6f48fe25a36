use Rattle.std.proofs.Common.{ℕ, ◌<◌, ◌≤ℤ◌, get_or}
use Rattle.staat_vec.specs.declared.vector.V3.{V3}
use Rattle.staat_vec.specs.Vectors.{dot}
use Rattle.staat_motion.specs.Spans.{IsReachOf}
use Rattle.staat_motion.proofs.spans.span_of.Given as goal

abbrev pub invariant-loop-p : goal.invariant-loop-p
invariant-loop-p l = record {
  low_in : IsReachOf l.fn.n l.points l.span.low;
  high_in : IsReachOf l.fn.n l.points l.span.high;
  least : (k : ℕ) (d : V3) → k < l.p-index → l.span.low ≤ℤ dot l.fn.n (get_or l.points k d);
  greatest : (k : ℕ) (d : V3) → k < l.p-index → dot l.fn.n (get_or l.points k d) ≤ℤ l.span.high;
}
