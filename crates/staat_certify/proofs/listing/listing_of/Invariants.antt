use Rattle.std.proofs.Common.{take}
use Rattle.staat_certify.specs.Visits.{visited_directions}
use Rattle.staat_certify.specs.WitnessListings.{AreNames}
use Rattle.staat_certify.proofs.ListedLemmas.{HasLines}
use Rattle.staat_certify.proofs.listing.listing_of.Given as goal

abbrev pub invariant-loop-k : goal.invariant-loop-k
invariant-loop-k l = record {
  lines : HasLines l.sound l.table.of l.listing.witnesses.items l.listing.dirs.items (visited_directions (take l.k l.found.visited));
  names : AreNames l.witnesses l.listing.witnesses.items l.listing.names.items;
}
