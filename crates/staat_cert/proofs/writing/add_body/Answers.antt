use Rattle.std.proofs.Common.{◌∷◌, ◌++◌, [], map}
use Rattle.std.proofs.lemmas.Result.{IfOk-weaker}
use Rattle.staat_model.specs.declared.line.Line.TheVariants as line
use Rattle.staat_model.specs.Texts.{lines_of_witnesses}
use Rattle.staat_cert.proofs.AddLemmas.{adds_both}
use Rattle.staat_cert.proofs.writing.add_body.Goals as goal

pub returns-in_ok-add_witnesses-in-Stuck : goal.returns-in_ok-add_witnesses-in-Stuck
returns-in_ok-add_witnesses-in-Stuck c =
    let witnesses = lines_of_witnesses 0 c.in-Stuck.witnesses in
    let dirs = map line.Dir c.in-Stuck.dirs in
    rw c.in-Stuck.is (IfOk-weaker c.add_dirs.result _ _ (λ x adds.
    adds_both c.args.w.now c.add_line-in-Stuck.new.w c.add_dirs.new.w (line.Stuck c.in-Stuck.set ∷ []) (witnesses ++ dirs) c.in_ok-add_line-in-Stuck.ensures
    (adds_both c.add_line-in-Stuck.new.w c.add_witnesses.new.w c.add_dirs.new.w witnesses dirs (rw c.as_slice-in-Stuck.ensures at c.in_ok-add_witnesses-in-Stuck.ensures)
    (rw c.as_slice-in-Stuck-2.ensures at adds))) c.add_dirs.ensures)
