use Rattle.std.proofs.Common.{subst, sym, List, ℕ}
use Rattle.staat_vec.proofs.Truth.{false_true_clash}
use Rattle.staat_graph.specs.Graphs.{IsStrong}
use Rattle.staat_ring.specs.BlockCounts.{HasBlock}
use Rattle.staat_ring.proofs.Strength.{reached_of, reaching_of, strong_of}
use Rattle.staat_ring.proofs.block_counts.BlockCounts.is_strong.Goals as goal

pub returns-then-within : goal.returns-then-within
returns-then-within c = (
  λ e. subst (λ (xs : List ℕ). IsStrong (HasBlock xs) c.args.w) c.self.view_is
      (strong_of c.self.inside.counts.items c.self.inside.graph.rows c.self.inside.back.rows c.args.w c.reach.result c.reach-then-within.result c.least-p.result c.self.invariant c.bits-bits.ensures.small c.least-p.ensures.least.has
      c.reach.ensures c.reach-then-within.ensures (c.within.ensures.0 c.if-within.true) (c.within-then-within.ensures.0 e)),
  λ strong. c.within-then-within.ensures.1
      (reaching_of c.self.inside.counts.items c.self.inside.graph.rows c.self.inside.back.rows c.args.w c.reach.result c.reach-then-within.result c.least-p.result c.self.invariant c.bits-bits.ensures.small c.least-p.ensures.least.has
      c.reach-then-within.ensures (subst (λ (xs : List ℕ). IsStrong (HasBlock xs) c.args.w) (sym c.self.view_is) strong)),
)

pub returns-else-within : goal.returns-else-within
returns-else-within c = (
  λ e. absurd (false_true_clash c.within.result c.if-within.false e),
  λ strong. c.within.ensures.1
      (reached_of c.self.inside.counts.items c.self.inside.graph.rows c.self.inside.back.rows c.args.w c.reach.result c.reach.result c.least-p.result c.self.invariant c.bits-bits.ensures.small c.least-p.ensures.least.has
      c.reach.ensures (subst (λ (xs : List ℕ). IsStrong (HasBlock xs) c.args.w) (sym c.self.view_is) strong)),
)
