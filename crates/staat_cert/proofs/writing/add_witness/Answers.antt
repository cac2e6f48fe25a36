use Rattle.std.proofs.Common.{◌∷◌, ◌++◌, [], map}
use Rattle.std.proofs.lemmas.Result.{IfOk-from_err, IfOk-weaker}
use Rattle.staat_model.specs.declared.line.Line.TheVariants as line
use Rattle.staat_model.specs.Lines.{line_text}
use Rattle.staat_cert.proofs.AddLemmas.{adds_both, each_added}
use Rattle.staat_cert.proofs.writing.add_witness.Goals as goal

pub returns-in_err-add_line : goal.returns-in_err-add_line
returns-in_err-add_line c = IfOk-from_err c.from_residual.result _ c.from_residual.ensures.0

pub returns-in_err-add_arcs : goal.returns-in_err-add_arcs
returns-in_err-add_arcs c =
    IfOk-from_err c.from_residual-in_err-add_arcs.result _ c.from_residual-in_err-add_arcs.ensures.0

pub returns : goal.returns
returns c =
    let w = c.args.witness.now in
    let outs = each_added line_text line.Out c.add_line.new.w c.add_arcs.new.self w.outs (rw (c.as_slice.ensures, c.as_slice-2.ensures) at c.in_ok-add_arcs.ensures) in
    IfOk-weaker c.add_arcs-2.result _ _ (λ x adds.
    adds_both c.args.w.now c.add_line.new.w c.add_arcs-2.new.self (line.Witness c.args.k ∷ []) (map line.Out w.outs ++ map line.In w.ins) c.in_ok-add_line.ensures
    (adds_both c.add_line.new.w c.add_arcs.new.self c.add_arcs-2.new.self (map line.Out w.outs) (map line.In w.ins) outs
    (each_added line_text line.In c.add_arcs.new.self c.add_arcs-2.new.self w.ins (rw (c.as_slice-3.ensures, c.as_slice-4.ensures) at adds)))) c.add_arcs-2.ensures
