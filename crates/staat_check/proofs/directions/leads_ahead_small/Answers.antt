use Rattle.std.proofs.Common.{◌∙◌, ap, subst, sym}
use Rattle.std.proofs.lemmas.List.Elements.{All-more}
use Rattle.std.proofs.lemmas.Option.{slice_get-get_or}
use Rattle.std.specs.Int.{w64}
use Rattle.staat_vec.specs.declared.words.TheConstants.{SMALL}
use Rattle.staat_vec.specs.Vectors.{IsWithin, dot}
use Rattle.staat_check.specs.Conditions.{LeadsAheadOf}
use Rattle.staat_cone.proofs.AheadLemmas.{is_ahead, not_ahead}
use Rattle.staat_vec.proofs.LoopAnswers.{not_all}
use Rattle.staat_check.proofs.ConditionLemmas.{product_is}
use Rattle.staat_check.proofs.directions.leads_ahead_small.Goals as goal

pub small_dot-requires-clause-d : goal.small_dot-requires-clause-d
small_dot-requires-clause-d c =
    subst (IsWithin SMALL) (sym (c.vector.ensures.is ∙ c.index-normals-k.is)) (c.requires.normals _ c.index-normals-k.result (c.requires.numbers c.loop-k.k-index 0 c.loop-k-test.true))

pub returns-then-small_dot-le0 : goal.returns-then-small_dot-le0
returns-then-small_dot-le0 c = not_all (LeadsAheadOf c.args.normals.now c.args.d) c.args.numbers.now c.loop-k.k-index _ (slice_get-get_or c.args.numbers.now c.loop-k.k-index 0 c.loop-k-test.true)
    (not_ahead w64 c.small_dot.result _ (record { sfits = c.small_dot.type_inv }) (product_is c.args.normals.now c.args.d c.small_dot.result _ c.index-normals-k.result (c.requires.numbers c.loop-k.k-index 0 c.loop-k-test.true) c.index-normals-k.is (c.small_dot.ensures.turned ∙ ap (λ n. dot n c.args.d) c.vector.ensures.is)) c.if-small_dot-le0.true)

pub loop-k-preserved : goal.loop-k-preserved
loop-k-preserved c = All-more (LeadsAheadOf c.args.normals.now c.args.d) c.args.numbers.now c.loop-k.k-index 0 c.loop-k-test.true c.loop-k.invariant
    (is_ahead w64 c.small_dot.result _ (record { sfits = c.small_dot.type_inv }) (product_is c.args.normals.now c.args.d c.small_dot.result _ c.index-normals-k.result (c.requires.numbers c.loop-k.k-index 0 c.loop-k-test.true) c.index-normals-k.is (c.small_dot.ensures.turned ∙ ap (λ n. dot n c.args.d) c.vector.ensures.is)) c.if-small_dot-le0.false)
