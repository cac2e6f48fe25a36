-- A set with a member or more is not empty.
use Rattle.std.proofs.Common.{◌≡◌, ⊎_elim, ◌≤◌, arith, ap, ◌∙◌}
use Rattle.std.specs.FinSet as set
use Rattle.std.specs.Ordering.{nat_cmp}
use Rattle.staat_model.specs.declared.set.PartSet.{PartSet}
use Rattle.staat_model.specs.Sets.{IsNonempty}
use Rattle.staat_model.proofs.RestrictLemmas.{nonempty_or}
use Rattle.staat_model.proofs.SetMembers.{has-empty}
use Rattle.staat_model.proofs.SetWords.{same_members}

pub some_member : (w : PartSet) → 1 ≤ set.len w → IsNonempty w
some_member w some = ⊎_elim (λ h. h)
    (λ none. let e : set.len w ≡ 0 = ap set.len (same_members w set.empty (λ q h. absurd (none q h)) (λ q h. absurd (has-empty q h))) ∙ set.len-empty nat_cmp in absurd (omega (arith, e, some)))
    (nonempty_or w)
