use Rattle.std.proofs.Common.{◌≤ℤ◌, pos, w64}
use Rattle.std.proofs.lemmas.List.Elements.{All-more}
use Rattle.std.proofs.lemmas.Option.{slice_get-get_or}
use Rattle.staat_vec.specs.Vectors.{dot, origin}
use Rattle.staat_cone.proofs.AheadLemmas.{is_level, not_behind}
use Rattle.staat_vec.proofs.LoopAnswers.{all_kept, not_all}
use Rattle.staat_cone.proofs.walls.is_above.Goals as goal

pub returns-then-along-lt0 : goal.returns-then-along-lt0
returns-then-along-lt0 c = not_all (λ v. pos 0 ≤ℤ dot v c.args.n) c.args.vs.now c.loop-v.v-index _ (slice_get-get_or c.args.vs.now c.loop-v.v-index origin c.loop-v-test.true)
    (not_behind w64 c.along.result _ (record { sfits = c.along.type_inv }) c.along.ensures c.if-along-lt0.true)

pub loop-v-preserved : goal.loop-v-preserved
loop-v-preserved c = All-more (λ v. pos 0 ≤ℤ dot v c.args.n) c.args.vs.now c.loop-v.v-index origin c.loop-v-test.true c.loop-v.invariant
    (is_level w64 c.along.result _ (record { sfits = c.along.type_inv }) c.along.ensures c.if-along-lt0.false)

pub returns : goal.returns
returns c = all_kept (λ v. pos 0 ≤ℤ dot v c.args.n) c.args.vs.now c.loop-v.v-index c.loop-v-test.false c.loop-v.invariant
