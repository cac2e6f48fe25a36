use Rattle.std.proofs.Common.{get_or}
use Rattle.std.proofs.lemmas.Bool.{false≢true}
use Rattle.std.proofs.lemmas.List.Elements.{All-more}
use Rattle.staat_vec.specs.Vectors.{origin}
use Rattle.staat_vec.proofs.LoopAnswers.{none_has}
use Rattle.staat_cone.specs.Scans.{IsApart}
use Rattle.staat_cone.proofs.PairLemmas.{refused}
use Rattle.staat_cone.proofs.around.first_candidate.Goals as goal

pub loop-x-preserved : goal.loop-x-preserved
loop-x-preserved c =
    let vs = c.args.vs.now in
    let i = c.loop-x.x-index in
    All-more (λ x. IsApart c.args.v x → ⊥) vs i origin c.loop-x-test.true c.loop-x.invariant (refused c.is_apart.result (IsApart c.args.v (get_or vs i origin)) c.is_apart.ensures c.if-is_apart.false)

pub returns-clause-none : goal.returns-clause-none
returns-clause-none c any = false≢true ((none_has (IsApart c.args.v) c.args.vs.now c.loop-x.x-index c.loop-x-test.false c.loop-x.invariant).1 any)
