use Rattle.std.proofs.Common.{◌∙◌, arith, ap}
use Rattle.std.specs.Prelude.{Some}
use Rattle.staat_confirm.proofs.splits.first_direction.Goals as goal
use Rattle.staat_vec.proofs.ListLaws.{place_is}

pub returns-in-Split : goal.returns-in-Split
returns-in-Split c = c.requires.sizes 0 c.in-Split.d (place_is c.args.nodes.now 0 c.index-nodes-0.result (let some = c.requires.some in omega (arith, some)) c.index-nodes-0.is ∙ ap Some c.in-Split.is)
