use Rattle.std.proofs.Common.{◌↔◌, ◌⊎◌, ℕ, List, [], All, arith, subst, sym, take}
use Rattle.std.proofs.lemmas.List.Elements.{All-get_or, All-nil, All-push}
use Rattle.staat_vec.specs.declared.vector.Sign.{Sign}
use Rattle.staat_cells.specs.declared.joined_batches.JoinedBatch.{JoinedBatch}
use Rattle.staat_cells.specs.Batches.{IsBatchArc, IsJoinedArc, IsJoinedBatch, IsBatch}
use Rattle.staat_cells.specs.CellGraphs.{IsArcAt, IsListedArc}
use Rattle.staat_cells.proofs.Growing.{any_pushed, grown_first, grown_same, grown_take}
use Rattle.staat_planes.proofs.Gaining.{adds_nothing}
use Rattle.std.proofs.lemmas.List.{take_all}
use Rattle.staat_cells.proofs.joined_batches.joined_batches.Goals as goal

pub loop-batch-init : goal.loop-batch-init
loop-batch-init c = record {
  rules = subst (All IsJoinedBatch) (sym c.in_ok-found.ensures.items) (All-nil IsJoinedBatch);
  arcs = subst (λ (l : List JoinedBatch). (signs : List Sign) (a b : ℕ) → IsArcAt l signs a b
      ↔ (IsArcAt [] signs a b ⊎ IsListedArc (take 0 c.args.batches.now) signs a b))
      (sym c.in_ok-found.ensures.items) (λ signs a b. adds_nothing (λ none. let lt = none.2 in omega (arith, lt)));
}

pub joined_batch-requires : goal.joined_batch-requires
joined_batch-requires c =
    let own : IsBatch c.batch-item.result = subst IsBatch (sym c.batch-item.is)
    (All-get_or IsBatch c.args.batches.now c.loop-batch.batch-index c.batch-item.result c.loop-batch-test.true c.requires) in
    own.parts

pub loop-batch-preserved : goal.loop-batch-preserved
loop-batch-preserved c = record {
  rules = subst (All IsJoinedBatch) (sym c.in_ok-push.ensures.items)
      (All-push IsJoinedBatch c.loop-batch.found.items _ c.loop-batch.invariant.rules c.in_ok-joined_batch.ensures.rules);
  arcs = λ signs a b. grown_take (λ batch. IsBatchArc batch signs a b) c.args.batches.now c.loop-batch.batch-index c.batch-item.result
      c.loop-batch-test.true c.batch-item.is (c.loop-batch.invariant.arcs signs a b)
      (grown_same (any_pushed (λ batch. IsJoinedArc batch signs a b) c.loop-batch.found.items c.push.new.self.items _ c.in_ok-push.ensures.items)
      (c.in_ok-joined_batch.ensures.arcs signs a b));
}

pub returns : goal.returns
returns c = record {
  rules = c.loop-batch.invariant.rules;
  arcs = λ signs a b. subst (λ l. IsArcAt c.loop-batch.found.items signs a b ↔ IsListedArc l signs a b)
      (take_all c.loop-batch.batch-index c.args.batches.now c.loop-batch-test.false)
      (grown_first (c.loop-batch.invariant.arcs signs a b) (λ none. let lt = none.2 in omega (arith, lt)));
}
