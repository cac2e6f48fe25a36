use Rattle.staat_certify.specs.Walls.{AreWallsBefore}
use Rattle.staat_certify.proofs.walls.Parting.push_split.Given as goal

abbrev pub invariant-loop-a : goal.invariant-loop-a
invariant-loop-a g l = AreWallsBefore l.self.assembly.now l.self.side l.self.rest l.self.d l.a 0 0 0 l.seps.items

abbrev pub invariant-loop-i : goal.invariant-loop-i
invariant-loop-i g l = AreWallsBefore l.self.assembly.now l.self.side l.self.rest l.self.d l.a l.i 0 0 l.seps.items

abbrev pub invariant-loop-b : goal.invariant-loop-b
invariant-loop-b g l = AreWallsBefore l.self.assembly.now l.self.side l.self.rest l.self.d l.a l.i l.b 0 l.seps.items

abbrev pub invariant-loop-j : goal.invariant-loop-j
invariant-loop-j g l = AreWallsBefore l.self.assembly.now l.self.side l.self.rest l.self.d l.a l.i l.b l.j l.seps.items
