use Rattle.staat_holds.specs.Partials.{partial_of}
use Rattle.staat_deciding.specs.RestTexts.{steps_in}
use Rattle.staat_deciding.proofs.rest_text.+push_stuck.Given as goal

abbrev pub decreases-push_stuck : goal.decreases-push_stuck
decreases-push_stuck l = steps_in (partial_of l.tree.now)
