use Rattle.std.proofs.Common.{drop}
use Rattle.staat_model.specs.Planes.{crossings}
use Rattle.staat_pairs.specs.Directions.{ListsBehind}
use Rattle.staat_pairs.proofs.vertices.push_crossings.Given as goal

abbrev pub invariant-loop-h : goal.invariant-loop-h
invariant-loop-h l = ListsBehind l.version (crossings l.g l.hs) (crossings l.g (drop l.h-index l.hs)) l.initial.taken.items l.taken.items
