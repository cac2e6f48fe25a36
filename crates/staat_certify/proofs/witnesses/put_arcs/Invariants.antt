use Rattle.std.proofs.Common.{◌≡◌, ◌++◌, map, take}
use Rattle.staat_pairs.specs.Tables.{slot}
use Rattle.staat_certify.specs.Witnesses.{AreEndsAndLeast}
use Rattle.staat_certify.proofs.witnesses.put_arcs.Given as goal

abbrev pub invariant-loop-ends : goal.invariant-loop-ends
invariant-loop-ends l = record {
  arcs : AreEndsAndLeast l.at.sound.now l.at.table.now l.at.d (take l.ends-index l.pairs) l.arcs.items;
  key : l.key.items ≡ l.fn.key.items ++ map (slot l.at.table.now.pieces) l.arcs.items;
}
