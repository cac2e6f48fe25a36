use Rattle.std.proofs.Common.{◌≡◌, below_more, get_or, sym}
use Rattle.staat_holds.proofs.NodeNames.{no_place, place_is}
use Rattle.staat_holds.proofs.names.place_of.Goals as goal

pub returns-then-name-nodes : goal.returns-then-name-nodes
returns-then-name-nodes c = sym (place_is c.args.nodes.now c.loop-k.k c.args.name c.loop-k-test.true c.loop-k.invariant c.if-name-nodes.true)

pub loop-k-preserved : goal.loop-k-preserved
loop-k-preserved c = below_more (λ m. c.args.name ≡ get_or c.args.nodes.now m 0 → ⊥) c.loop-k.k c.loop-k.invariant c.if-name-nodes.false

pub returns : goal.returns
returns c = sym (no_place c.args.nodes.now c.loop-k.k c.args.name c.loop-k-test.false c.loop-k.invariant)
