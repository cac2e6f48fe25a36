use Rattle.staat_model.specs.Certificates.{IsAcrossFrom}
use Rattle.staat_check.proofs.MissingLemmas.{AllBelow}
use Rattle.staat_check.proofs.split.Parting.missing_from.Given as goal

abbrev pub invariant-loop-i : goal.invariant-loop-i
invariant-loop-i l = AllBelow (IsAcrossFrom l.self.assembly.now l.self.side l.self.rest l.a) l.self.seps.now (λ arc. arc.i) l.i
