use Rattle.staat_holds.specs.Partials.{partial_of}
use Rattle.staat_deciding.specs.RestTexts.{steps_in}
use Rattle.staat_deciding.proofs.rest_text.+push_ends.Given as goal

abbrev pub decreases-push_ends : goal.decreases-push_ends
decreases-push_ends l = steps_in (partial_of l.tree.now)
