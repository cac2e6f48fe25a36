use Rattle.staat_core.specs.declared.joins.Moving.TheVariants.{AnySide}
use Rattle.staat_core.specs.Listed.{pairs_in_use}
use Rattle.staat_core.proofs.TableHolding.{core_holds}
use Rattle.staat_local.proofs.Tightness.{held_loosens_not}
use Rattle.staat_local.proofs.step.ContactsTrial.core.Goals as goal

pub returns-clause-held : goal.returns-clause-held
returns-clause-held c parts d made are holds loosens =
    let core = c.marked_core.result in
    held_loosens_not parts c.args.table.now c.args.self.now.marks.now (pairs_in_use core.list) made are c.marked_core.ensures.marked c.args.w d
    (core_holds parts core AnySide c.args.w d c.marked_core.ensures.sides loosens.free.moves holds) loosens
