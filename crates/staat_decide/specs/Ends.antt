-- Pieces by their numbers.
use Rattle.staat_model.specs.declared.certificate.Arc.{Arc}
use Rattle.staat_decide.specs.declared.every.End.{End}

-- the one piece against the other
abbrev pub arc_between : End → End → Arc
arc_between p q = record { a = p.part; i = p.piece; b = q.part; j = q.piece }
