-- Sets with the same members are one.
use Rattle.std.proofs.Common.{◌≡◌}
use Rattle.std.specs.FinSet as set
use Rattle.std.specs.Cmp.{nat_cmp_total}
use Rattle.staat_model.specs.declared.set.PartSet.{PartSet}
use Rattle.staat_model.specs.Sets.{IsSubset}
use Rattle.staat_vec.proofs.Truth.{same_truth}

pub same_members : (s t : PartSet) → IsSubset s t → IsSubset t s → s ≡ t
same_members s t f g = set.same_set nat_cmp_total set.nat_cmp-IsAntisymmetric s t (λ q. same_truth (set.contains s q) (set.contains t q) (f q) (g q))
