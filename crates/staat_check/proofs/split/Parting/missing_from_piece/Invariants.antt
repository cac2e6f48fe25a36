use Rattle.staat_model.specs.Certificates.{IsAcrossFromPiece}
use Rattle.staat_check.proofs.MissingLemmas.{AllBelow}
use Rattle.staat_check.proofs.split.Parting.missing_from_piece.Given as goal

abbrev pub invariant-loop-b : goal.invariant-loop-b
invariant-loop-b l = AllBelow (IsAcrossFromPiece l.self.assembly.now l.self.side l.self.rest l.a l.i) l.self.seps.now (λ arc. arc.b) l.b
