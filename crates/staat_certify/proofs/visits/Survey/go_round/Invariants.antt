use Rattle.std.proofs.Common.{◌≡◌, true}
use Rattle.staat_ring.specs.Belonging.{BelongTo}
use Rattle.staat_certify.specs.Visits.{HasGone, IsToldAhead, IsVisitedTo}
use Rattle.staat_certify.proofs.visits.Survey.go_round.Given as goal

abbrev pub invariant-loop-k : goal.invariant-loop-k
invariant-loop-k l = record {
  made : BelongTo l.self.table.now l.signs;
  gone : HasGone l.self.sound.now l.self.table.now l.self.version l.found l.circle l.k;
  near : l.near ≡ true → IsVisitedTo l.self.sound.now l.self.table.now l.circle l.signs l.found.witnesses.items l.told l.k;
  ahead : IsToldAhead l.self.table.now.planes l.circle l.ahead l.k;
}
