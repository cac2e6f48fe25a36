use Rattle.staat_holds.specs.Partials.{partial_of}
use Rattle.staat_deciding.specs.RestTexts.{steps_in}
use Rattle.staat_deciding.proofs.rest_text.+has_groups.Given as goal

abbrev pub decreases-has_groups : goal.decreases-has_groups
decreases-has_groups l = steps_in (partial_of l.tree.now)
