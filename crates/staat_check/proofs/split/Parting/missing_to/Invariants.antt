use Rattle.staat_model.specs.Certificates.{IsAcrossTo}
use Rattle.staat_check.proofs.MissingLemmas.{AllBelow}
use Rattle.staat_check.proofs.split.Parting.missing_to.Given as goal

abbrev pub invariant-loop-j : goal.invariant-loop-j
invariant-loop-j l = AllBelow (IsAcrossTo l.self.assembly.now l.self.side l.self.rest l.a l.i l.b) l.self.seps.now (λ arc. arc.j) l.j
