use Rattle.std.proofs.lemmas.List.{take_all}
use Rattle.staat_model.specs.declared.line.Line.TheVariants as line
use Rattle.staat_model.specs.Lines.{line_text}
use Rattle.staat_cert.proofs.AddLemmas.{each_added}
use Rattle.staat_cert.proofs.writing.add_dirs.Goals as goal

pub returns : goal.returns
returns c =
    each_added line_text line.Dir c.args.w.now c.dirs.w c.args.dirs.now (rw (take_all c.dirs.dir-index c.args.dirs.now c.dirs-test.false) at c.dirs.invariant)
