use Rattle.staat_edge.proofs.Found.{known_on, failed_there}
use Rattle.staat_edge.proofs.memory_shelf.MemoryShelfShelf.read.Goals as goal

pub invariant_of-self-2-clause-known : goal.invariant_of-self-2-clause-known
invariant_of-self-2-clause-known c = known_on _ _ _ _ _ c.in-Some.is c.args.self.now.known

pub returns-then-is_due-clause-failed : goal.returns-then-is_due-clause-failed
returns-then-is_due-clause-failed c = failed_there _ _ _ _ _ c.in-Some.is c.args.self.now.known
