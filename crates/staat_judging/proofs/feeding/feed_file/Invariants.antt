use Rattle.std.proofs.Common.{◌+◌, ◌-◌, ◌≡◌, ◌≤◌, Some}
use Rattle.staat_edge.specs.Files.{Lacks, content_of, told_name}
use Rattle.staat_limits.specs.declared.limits.TheConstants.{TEXT_LIMIT}
use Rattle.staat_judging.proofs.FeedingLemmas.{IsFedSoFar}
use Rattle.staat_judging.proofs.feeding.feed_file.Given as goal

abbrev pub invariant-pieces : goal.invariant-pieces
invariant-pieces g l = record {
  room : l.taken ≤ TEXT_LIMIT + 65536;
  holds : (g.H.Shelf.told l.shelf).holds ≡ (g.H.Shelf.told l.fn.shelf).holds;
  count : (g.H.Shelf.told l.fn.shelf).faults ≤ (g.H.Shelf.told l.shelf).faults;
  failed : (g.H.Shelf.told l.shelf).failed ≡ (g.H.Shelf.told l.fn.shelf).failed;
  name : (g.H.Shelf.told l.shelf).opened ≡ told_name (g.H.Shelf.told l.fn.shelf).holds l.name;
  place : (g.H.Shelf.told l.shelf).place ≡ Some l.taken;
  has : Lacks (g.H.Shelf.told l.fn.shelf).holds l.name → ⊥;
  fed : IsFedSoFar (content_of (g.H.Shelf.told l.fn.shelf).holds l.name) (g.H.Shelf.left l.shelf) l.name
      (g.H.Shelf.told l.fn.shelf).given (g.H.Shelf.told l.shelf).given (g.R.TextReader.was_fed l.reader) l.taken;
}

abbrev pub decreases-pieces : goal.decreases-pieces
decreases-pieces g l = TEXT_LIMIT + 65536 - l.taken
