use Rattle.std.proofs.Common.{List, subst}
use Rattle.staat_model.specs.declared.assembly.Part.{Part}
use Rattle.staat_input.specs.Work.{Follows}
use Rattle.staat_input.specs.declared.limits.TheConstants.Limits.{PRODUCT}
use Rattle.staat_input.specs.Assembling.{IsTested}
use Rattle.staat_input.proofs.SoundLemmas.{failed_read, tests_read}
use Rattle.staat_input.proofs.sound.read_product.Goals as goal

pub returns-in_err-parts : goal.returns-in_err-parts
returns-in_err-parts g c =
    failed_read PRODUCT c.args.asked.now c.from_residual.result c.in_err-parts.ensures.takes c.from_residual.ensures.1

pub returns : goal.returns
returns g c =
    tests_read PRODUCT c.args.asked.now c.in_ok-parts.parts c.tested_product.result c.in_ok-parts.ensures.takes
    (subst (λ (p : List Part). Follows (IsTested p) c.tested_product.result) c.seal.ensures c.tested_product.ensures.found)
    c.tested_product.ensures.cause
