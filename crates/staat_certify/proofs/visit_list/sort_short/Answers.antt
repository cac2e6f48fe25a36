use Rattle.std.proofs.Common.{rules}
use Rattle.std.proofs.lemmas.Fn.{dedup_same}
use Rattle.std.proofs.lemmas.List.Sorted.{answers_always}
use Rattle.staat_certify.proofs.VisitLemmas.{same_direction, visits_sorted}
use Rattle.staat_certify.proofs.visit_list.sort_short.Goals as goal

pub returns : goal.returns
returns c =
    visits_sorted _ _ _ c.sort_unstable_by_key.ensures.permutation
    (c.sort_unstable_by_key.ensures.sorted (λ v. v.d) (answers_always _ _ _ (λ f a r g h. search rules)))
    (dedup_same _ same_direction _ (λ x y b f' x' y' k. search rules) _ _ c.dedup_by_key.ensures.filtered)
