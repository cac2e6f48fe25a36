use Rattle.std.proofs.Common.{flat_map, take}
use Rattle.staat_cert.specs.Writing.{AddsBytes}
use Rattle.staat_short.specs.declared.line.ShortLine.TheVariants as line
use Rattle.staat_short.specs.ShortLines.{short_line_text}
use Rattle.staat_short.proofs.writing.add_parts.Given as goal

abbrev pub invariant-parts : goal.invariant-parts
invariant-parts l = AddsBytes l.initial.w l.w (flat_map (λ p. short_line_text (line.Part p)) (take l.p-index l.parts))
