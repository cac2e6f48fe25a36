use Rattle.std.proofs.lemmas.List.Filters.{dedup_is}
use Rattle.std.proofs.lemmas.List.Kept.{Contains-dedup_nat, Contains-from_dedup}
use Rattle.std.proofs.lemmas.List.Sorted.{Contains-permutation, IsPermutation-sym}
use Rattle.staat_check.proofs.conditions.each_once.Goals as goal

pub returns : goal.returns
returns c = λ k.
    let is = dedup_is _ _ _ c.dedup.ensures.filtered in
    let moved = c.sort_unstable.ensures.permutation in
    let same = c.from_vec.ensures in (
      λ h. Contains-permutation _ _ k (IsPermutation-sym _ _ moved) (Contains-from_dedup _ _ k (rw is at (rw same at h))),
      λ h. rw same (rw is (Contains-dedup_nat _ k (Contains-permutation _ _ k moved h))),
    )
