use Rattle.std.proofs.Common.{ℕ, arith, sym, subst, List}
use Rattle.std.specs.Prelude.{replicate}
use Rattle.std.proofs.lemmas.List.{length-replicate}
use Rattle.staat_ring.specs.BlockCounts.{ShowsCounts, parts_at}
use Rattle.staat_vec.proofs.ListLaws.{slice_index-zeros}
use Rattle.staat_graph.proofs.Arcs.{empty_graph}
use Rattle.staat_ring.proofs.block_counts.BlockCounts.new.Goals as goal

pub invariant_of-result : goal.invariant_of-result
invariant_of-result c = subst (λ (counts : List ℕ). ShowsCounts counts (replicate 32 0) (replicate 32 0)) (sym (c.in_ok-counts.ensures.items_if_clones_equal (λ y e. e))) (record {
  length_is = length-replicate {A = ℕ} 1024 0;
  rows_are = λ a b la lb. ((λ h. absurd (empty_graph a b h)), (λ h. absurd (let z = slice_index-zeros 1024 (parts_at a b) in omega (arith, z, h))));
  back_are = λ a b. ((λ h. absurd (empty_graph a b h)), (λ h. absurd (empty_graph b a h)));
})
