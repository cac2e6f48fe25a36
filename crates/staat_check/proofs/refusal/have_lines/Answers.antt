use Rattle.std.proofs.Common.{arith, ◌≤◌, subst, sym, All, length, take}
use Rattle.std.proofs.lemmas.Bool.Decides.{nat_tests}
use Rattle.staat_model.specs.Certificates.{HasLine}
use Rattle.staat_check.proofs.RefusalRules.{next_line}
use Rattle.staat_check.proofs.refusal.have_lines.Goals.{then-found-directions+then-is_same, else-found-directions}
use Rattle.staat_check.proofs.refusal.have_lines.Goals as goal
use Rattle.staat_vec.proofs.ListLaws.{All-taken}

pub loop-dir-preserved : goal.loop-dir-preserved
loop-dir-preserved c = elim c.if-found-directions.branch [
  | then-found-directions+then-is_same w ↦ subst (λ n. (n ≤ length c.args.directions.now) × All (HasLine c.args.dirs.now) (take n c.args.directions.now)) (sym w.found-is)
      (omega (arith, w.if-found-directions.true), next_line c.args.directions.now c.args.dirs.now c.loop-dir.found c.loop-dir.dir-index _ _ w.if-found-directions.true c.loop-dir-test.true (w.is_same.ensures.0 w.if-is_same.true) c.loop-dir.invariant.1)
  | else-found-directions w ↦ subst (λ n. (n ≤ length c.args.directions.now) × All (HasLine c.args.dirs.now) (take n c.args.directions.now)) (sym w.found-is) c.loop-dir.invariant
]

pub returns : goal.returns
returns c = λ yes. All-taken (HasLine c.args.dirs.now) c.args.directions.now c.loop-dir.found (grind (arith, nat_tests, yes)) c.loop-dir.invariant.1
