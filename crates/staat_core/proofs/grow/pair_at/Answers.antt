use Rattle.std.proofs.lemmas.List.Elements.{Contains-get_or}
use Rattle.staat_core.proofs.grow.pair_at.Goals as goal

pub returns-then-place-pairs : goal.returns-then-place-pairs
returns-then-place-pairs c = Contains-get_or c.args.pairs.now c.args.place (record { a = 0; i = 0; b = 0; j = 0 }) c.if-place-pairs.true
