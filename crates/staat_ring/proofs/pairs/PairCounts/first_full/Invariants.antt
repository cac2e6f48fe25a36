use Rattle.std.proofs.Common.{ℕ, ◌+◌, ◌<◌, IsTrue}
use Rattle.staat_ring.specs.Pairs.{is_full, pair_at}
use Rattle.staat_ring.proofs.pairs.PairCounts.first_full.Given as goal

abbrev pub invariant-loop-j : goal.invariant-loop-j
invariant-loop-j l = (k : ℕ) → k < l.j → IsTrue (is_full (pair_at l.self (l.from + k))) → ⊥
