use Rattle.staat_ring.specs.Belonging.{BelongTo}
use Rattle.staat_certify.specs.Visits.{HasFound}
use Rattle.staat_certify.proofs.visits.Survey.go_round_all.Given as goal

abbrev pub invariant-loop-c : goal.invariant-loop-c
invariant-loop-c l = record {
  made : BelongTo l.self.table.now l.signs;
  found : HasFound l.self.sound.now l.self.table.now l.self.version l.found l.c;
}
