use Rattle.std.proofs.Common.{◌<◌, All, length, subst, sym}
use Rattle.staat_decide.proofs.Picked.{asked_is, numbers_small}
use Rattle.staat_decide.proofs.likely.asked_along.Goals as goal

pub rows_with-requires-clause-members : goal.rows_with-requires-clause-members
rows_with-requires-clause-members g c =
    subst (All (λ p. p < length c.args.scene.now.parts.now)) (sym c.requires.all) (numbers_small (length c.args.scene.now.parts.now))

pub returns-clause-asked : goal.returns-clause-asked
returns-clause-asked g c =
    asked_is c.args.scene.now.parts.now c.args.d c.in_ok-along.along.d c.args.all.now c.in_ok-rows.rows.items c.from_vec.result
    c.requires.size c.requires.moves c.in_ok-along.ensures.direction c.requires.all c.from_vec.ensures c.in_ok-rows.ensures.rows
