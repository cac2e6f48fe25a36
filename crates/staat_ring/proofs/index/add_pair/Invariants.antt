use Rattle.std.proofs.Common.{◌≡◌, length}
use Rattle.staat_pairs.specs.Tables.{facets_of}
use Rattle.staat_ring.proofs.PairNumbers.{IsPartly}
use Rattle.staat_ring.proofs.index.add_pair.Given as goal

abbrev pub invariant-loop-m : goal.invariant-loop-m
invariant-loop-m l = record {
  all : l.count ≡ length (facets_of l.table l.arc);
  partly : IsPartly l.table.planes (facets_of l.table l.arc) l.initial.signs l.signs l.q l.m;
}
