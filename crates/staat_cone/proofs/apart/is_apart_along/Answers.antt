use Rattle.std.proofs.Common.{refl}
use Rattle.std.proofs.lemmas.Bool.{false≢true}
use Rattle.std.proofs.lemmas.List.Elements.{All-more}
use Rattle.staat_vec.specs.Vectors.{origin}
use Rattle.staat_cone.specs.AxisWalls.{IsWallBetween}
use Rattle.staat_vec.proofs.LoopAnswers.{none_has, one_has}
use Rattle.staat_cone.proofs.apart.is_apart_along.Goals as goal

pub returns-then-separates : goal.returns-then-separates
returns-then-separates c = one_has (IsWallBetween c.args.p.now c.args.q.now) c.args.normals.now c.loop-n.n-index origin c.loop-n-test.true (c.if-separates.ensures.0 refl)

pub loop-n-preserved : goal.loop-n-preserved
loop-n-preserved c = All-more (λ n. IsWallBetween c.args.p.now c.args.q.now n → ⊥) c.args.normals.now c.loop-n.n-index origin c.loop-n-test.true c.loop-n.invariant
    (λ wall. false≢true (c.if-separates.ensures.1 wall))

pub returns : goal.returns
returns c = none_has (IsWallBetween c.args.p.now c.args.q.now) c.args.normals.now c.loop-n.n-index c.loop-n-test.false c.loop-n.invariant
