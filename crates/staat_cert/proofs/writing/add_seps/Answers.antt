use Rattle.std.proofs.lemmas.List.{take_all}
use Rattle.staat_model.specs.declared.line.Line.TheVariants as line
use Rattle.staat_model.specs.Lines.{line_text}
use Rattle.staat_cert.proofs.AddLemmas.{each_added}
use Rattle.staat_cert.proofs.writing.add_seps.Goals as goal

pub returns : goal.returns
returns c =
    each_added line_text line.Sep c.args.w.now c.seps.w c.args.seps.now (rw (take_all c.seps.sep-index c.args.seps.now c.seps-test.false) at c.seps.invariant)
