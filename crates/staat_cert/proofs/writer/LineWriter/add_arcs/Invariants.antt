use Rattle.std.proofs.Common.{◌++◌, flat_map, take}
use Rattle.staat_model.specs.Lines.{arc_numbers, spaced}
use Rattle.staat_cert.specs.Writing.{AddsBytes}
use Rattle.staat_cert.proofs.writer.LineWriter.add_arcs.Given as goal

abbrev pub invariant-arcs : goal.invariant-arcs
invariant-arcs l = AddsBytes l.initial.self l.self (flat_map (λ arc. l.word ++ spaced (arc_numbers arc)) (take l.arc-index l.arcs))
