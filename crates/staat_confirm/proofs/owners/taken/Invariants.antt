use Rattle.staat_confirm.specs.Owners.{AreOwners}
use Rattle.staat_confirm.proofs.owners.taken.Given as goal

abbrev pub invariant-loop-k : goal.invariant-loop-k
invariant-loop-k l = AreOwners l.parts l.nodes l.k l.owners.items
