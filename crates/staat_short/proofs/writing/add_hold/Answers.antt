use Rattle.std.proofs.Common.{◌∷◌, ◌++◌, [], map}
use Rattle.std.proofs.lemmas.Result.{IfOk-weaker}
use Rattle.staat_cert.proofs.AddLemmas.{each_added}
use Rattle.staat_short.specs.declared.line.ShortLine.TheVariants as line
use Rattle.staat_short.specs.ShortLines.{short_line_text}
use Rattle.staat_short.proofs.AddLemmas.{adds_both}
use Rattle.staat_short.proofs.writing.add_hold.Goals as goal

pub returns : goal.returns
returns c =
    let h = c.args.hold.now in
    IfOk-weaker c.add_arcs.result _ _ (λ x adds.
    adds_both c.args.w.now c.add_line.new.w c.add_arcs.new.self (line.Hold ∷ []) (map line.Part h.nodes ++ map line.Pair h.pairs) c.in_ok-add_line.ensures
    (adds_both c.add_line.new.w c.add_parts.new.w c.add_arcs.new.self (map line.Part h.nodes) (map line.Pair h.pairs) (rw c.as_slice.ensures at c.in_ok-add_parts.ensures)
    (each_added short_line_text line.Pair c.add_parts.new.w c.add_arcs.new.self h.pairs (rw (c.as_slice-2.ensures, c.as_slice-3.ensures) at adds))))
    c.add_arcs.ensures
