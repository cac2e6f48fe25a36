use Rattle.std.proofs.Common.{refl}
use Rattle.std.proofs.lemmas.List.Elements.{All-more}
use Rattle.std.proofs.lemmas.Bool.{false≢true}
use Rattle.staat_model.specs.Certificates.{IsWall}
use Rattle.staat_check.proofs.ReadLemmas.{first_fails}
use Rattle.staat_check.proofs.split.Parting.first_bad_wall.Goals as goal
use Rattle.std.proofs.lemmas.Option.{slice_get-get_or}
use Rattle.staat_vec.proofs.ListLaws.{All-taken}

pub returns-then-not-is_wall-clause-answer : goal.returns-then-not-is_wall-clause-answer
returns-then-not-is_wall-clause-answer c = first_fails (IsWall c.args.self.now.assembly.now c.args.self.now.side c.args.self.now.rest c.args.self.now.d) c.args.self.now.seps.now c.loop-m.m _ (slice_get-get_or c.args.self.now.seps.now c.loop-m.m _ c.loop-m-test.true) c.loop-m.invariant (λ h. false≢true (c.if-not-is_wall.ensures.1 h))

pub loop-m-preserved : goal.loop-m-preserved
loop-m-preserved c = All-more (IsWall c.args.self.now.assembly.now c.args.self.now.side c.args.self.now.rest c.args.self.now.d) c.args.self.now.seps.now c.loop-m.m _ c.loop-m-test.true c.loop-m.invariant (c.if-not-is_wall.ensures.0 refl)

pub returns-clause-answer : goal.returns-clause-answer
returns-clause-answer c = All-taken (IsWall c.args.self.now.assembly.now c.args.self.now.side c.args.self.now.rest c.args.self.now.d) c.args.self.now.seps.now c.loop-m.m c.loop-m-test.false c.loop-m.invariant
