use Rattle.std.proofs.Common.{List, length, subst}
use Rattle.staat_model.specs.declared.assembly.Part.{Part}
use Rattle.staat_limits.specs.declared.limits.TheConstants.{MOST_PIECES}
use Rattle.staat_input.specs.declared.limits.TheConstants.Limits.{ASSEMBLY}
use Rattle.staat_input.specs.Assembling.{IsTested}
use Rattle.staat_input.specs.Drawing.{AreSmall, IsDrawn}
use Rattle.staat_input.specs.Work.{Follows}
use Rattle.staat_input.proofs.InputLemmas.{no_value, no_value_on, value_on}
use Rattle.staat_input.proofs.SoundLemmas.{failed_read, tested_same, tests_read}
use Rattle.staat_input.proofs.sound.read_sketched.Goals as goal

pub returns-in_err-parts : goal.returns-in_err-parts
returns-in_err-parts g c =
    let found = c.from_residual.result in
    let is = c.from_residual.ensures.1 in
    let takes = failed_read ASSEMBLY c.args.asked.now found c.in_err-parts.ensures.takes is in
    record {
      holds = takes.holds;
      count = takes.count;
      opens = takes.opens;
      found = takes.found;
      drawn = λ files fit empty. no_value_on _ _ found is;
      small = λ empty. no_value _ _ found is;
      cause = takes.cause;
      named = takes.named;
    }

pub returns : goal.returns
returns g c =
    let found = c.tested.result in
    let parts = c.in_ok-parts.parts in
    let tested = subst (λ (p : List Part). Follows (IsTested p) found) c.seal.ensures c.tested.ensures.found in
    let takes = tests_read ASSEMBLY c.args.asked.now parts found c.in_ok-parts.ensures.takes tested c.tested.ensures.cause in
    record {
      holds = takes.holds;
      count = takes.count;
      opens = takes.opens;
      found = takes.found;
      drawn = λ files fit empty. value_on (IsDrawn files c.args.asked.now c.args.sketch.now.keep c.read_within.new.sketch) found
          (c.in_ok-parts.ensures.drawn files fit empty);
      small = λ empty. tested_same (λ parts. AreSmall (length parts) MOST_PIECES c.read_within.new.sketch.solids.items)
          parts found tested (c.in_ok-parts.ensures.small empty);
      cause = takes.cause;
      named = takes.named;
    }
