use Rattle.std.proofs.Common.{Bool, subst, sym}
use Rattle.staat_input.specs.Taking.{IsWorkedOut}
use Rattle.staat_deciding.specs.Deciding.{IsDecidedAs}
use Rattle.staat_deciding.proofs.decide.answer_as.Goals as goal

pub returns-then-rest : goal.returns-then-rest
returns-then-rest c =
    subst (λ (b : Bool). IsWorkedOut (IsDecidedAs b c.args.certificate c.args.product.now) c.decided_down.result)
    (sym c.if-rest.true) c.decided_down.ensures

pub returns-else-rest : goal.returns-else-rest
returns-else-rest c =
    subst (λ (b : Bool). IsWorkedOut (IsDecidedAs b c.args.certificate c.args.product.now) c.decided.result)
    (sym c.if-rest.false) c.decided.ensures
