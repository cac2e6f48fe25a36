use Rattle.std.proofs.lemmas.List.Filters.{dedup_is}
use Rattle.std.proofs.lemmas.List.Kept.{Contains-dedup, Contains-from_dedup, IsStrictlySortedBy-dedup}
use Rattle.std.proofs.lemmas.List.Sorted.{Contains-permutation, IsPermutation-sym}
use Rattle.staat_cells.proofs.IncidenceOrder.{test, incidence_total, ties, test_equivalence, test_exact}
use Rattle.staat_cells.proofs.order.in_order.Goals as goal

pub returns : goal.returns
returns c =
    let is = dedup_is _ _ _ c.dedup.ensures.filtered in
    let moved = c.sort_unstable.ensures.permutation in record {
      ascending = rw is (IsStrictlySortedBy-dedup incidence_total ties _ c.sort_unstable.ensures.sorted);
      each = λ x h. Contains-permutation _ _ x (IsPermutation-sym _ _ moved) (Contains-from_dedup test _ x (rw is at h));
      all = λ x h. rw is (Contains-dedup test_equivalence test_exact _ x (Contains-permutation _ _ x moved h));
    }
