use Rattle.staat_holds.specs.Partials.{partial_of}
use Rattle.staat_deciding.specs.RestTexts.{steps_in}
use Rattle.staat_deciding.proofs.rest_text.+push_steps.Given as goal

abbrev pub decreases-push_steps : goal.decreases-push_steps
decreases-push_steps l = steps_in (partial_of l.tree.now)
