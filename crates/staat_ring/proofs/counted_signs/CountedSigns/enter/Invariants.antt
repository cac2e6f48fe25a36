use Rattle.std.proofs.Common.{◌≡◌, length}
use Rattle.staat_ring.specs.Belonging.{BelongTo}
use Rattle.staat_ring.proofs.SignAll.{Done}
use Rattle.staat_ring.proofs.WholeCircles.{all}
use Rattle.staat_ring.proofs.counted_signs.CountedSigns.enter.Given as goal

abbrev pub invariant-loop-j : goal.invariant-loop-j
invariant-loop-j l = record {
  end : l.j-end ≡ length l.table.planes;
  made : BelongTo l.table l.self;
  done : Done l.table.planes (all l.table.planes) l.course l.self l.j;
}
