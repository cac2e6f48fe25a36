use Rattle.staat_model.specs.Certificates.{IsAcross}
use Rattle.staat_check.proofs.MissingLemmas.{AllBelow}
use Rattle.staat_check.proofs.split.Parting.first_missing.Given as goal

abbrev pub invariant-loop-a : goal.invariant-loop-a
invariant-loop-a l = AllBelow (IsAcross l.self.assembly.now l.self.side l.self.rest) l.self.seps.now (λ arc. arc.a) l.a
