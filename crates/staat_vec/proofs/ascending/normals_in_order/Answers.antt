use Rattle.std.proofs.lemmas.List.Filters.{dedup_is}
use Rattle.std.proofs.lemmas.List.Kept.{Contains-dedup, Contains-from_dedup, IsStrictlySortedBy-dedup}
use Rattle.std.proofs.lemmas.List.Sorted.{Contains-permutation, IsPermutation-sym}
use Rattle.staat_vec.proofs.VectorOrder.{vector_eq, vector_equiv, vector_same, vector_ties, vector_total}
use Rattle.staat_vec.proofs.ascending.normals_in_order.Goals as goal

pub returns : goal.returns
returns c =
    let is = dedup_is _ _ _ c.dedup.ensures.filtered in
    let moved = c.sort_unstable.ensures.permutation in record {
      ascending = rw is (IsStrictlySortedBy-dedup vector_total vector_ties _ c.sort_unstable.ensures.sorted);
      each = λ x h. Contains-permutation _ _ x (IsPermutation-sym _ _ moved) (Contains-from_dedup vector_eq _ x (rw is at h));
      all = λ x h. rw is (Contains-dedup vector_equiv vector_same _ x (Contains-permutation _ _ x moved h));
    }
