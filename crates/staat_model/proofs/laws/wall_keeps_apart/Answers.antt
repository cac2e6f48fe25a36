use Rattle.staat_model.proofs.WallLaws as walls
use Rattle.staat_model.proofs.laws.wall_keeps_apart.Goals as goal

pub returns : goal.returns
returns c = λ p q d n piece shown meets. walls.wall_keeps_apart p q d n piece.solid shown meets
