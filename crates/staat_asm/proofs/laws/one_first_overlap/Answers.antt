use Rattle.staat_vec.proofs.Unique.{IsLeast-unique}
use Rattle.staat_model.specs.Certificates.{arc_cmp}
use Rattle.staat_model.proofs.Orders.{arc_exact, arc_total}
use Rattle.staat_asm.specs.Overlaps.{IsOverlap}
use Rattle.staat_asm.proofs.laws.one_first_overlap.Goals as goal

pub returns : goal.returns
returns c = λ parts one other p q. IsLeast-unique arc_cmp arc_total arc_exact (IsOverlap parts) one other p q
