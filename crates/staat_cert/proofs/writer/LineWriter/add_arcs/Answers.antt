use Rattle.std.proofs.lemmas.List.{take_all}
use Rattle.staat_cert.proofs.writer.LineWriter.add_arcs.Goals as goal

pub returns : goal.returns
returns c = rw (take_all c.arcs.arc-index c.args.arcs.now c.arcs-test.false) at c.arcs.invariant
