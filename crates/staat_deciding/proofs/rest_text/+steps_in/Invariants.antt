use Rattle.staat_holds.specs.Partials.{partial_of}
use Rattle.staat_deciding.specs.RestTexts.{steps_in}
use Rattle.staat_deciding.proofs.rest_text.+steps_in.Given as goal

abbrev pub decreases-steps_in : goal.decreases-steps_in
decreases-steps_in l = steps_in (partial_of l.tree.now)
