use Rattle.std.proofs.Common.{Err, sym, subst}
use Rattle.staat_input.specs.Work.{Follows}
use Rattle.staat_input.specs.Assembling.{IsTested}
use Rattle.staat_input.proofs.SoundLemmas.{tested_overlap}
use Rattle.staat_input.proofs.sound.tested_product.Goals as goal

pub returns-in-Err-clause-found : goal.returns-in-Err-clause-found
returns-in-Err-clause-found c = subst (λ f. Follows (IsTested c.args.product) (Err f)) (sym c.asm_fault.ensures) (tested_overlap c.args.product c.build_product.result c.in-Err.refusal c.in-Err.is c.build_product.ensures.overlap)
