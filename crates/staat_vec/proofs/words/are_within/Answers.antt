use Rattle.std.proofs.Common.{◌∙◌, ap, refl, subst, sym}
use Rattle.std.specs.Prelude.{Some}
use Rattle.std.proofs.lemmas.Bool.{false≢true}
use Rattle.std.proofs.lemmas.List.Elements.{All-more}
use Rattle.std.proofs.lemmas.Option.{slice_get-get_or}
use Rattle.staat_vec.specs.Vectors.{IsWithin}
use Rattle.staat_vec.proofs.LoopAnswers.{all_kept, not_all}
use Rattle.staat_vec.proofs.words.are_within.Goals as goal

pub returns-then-not-is_within : goal.returns-then-not-is_within
returns-then-not-is_within c =
    let n = c.n-item.result in
    not_all (IsWithin c.args.bound) c.args.normals.now c.loop-n.n-index n (slice_get-get_or c.args.normals.now c.loop-n.n-index n c.loop-n-test.true ∙ sym (ap Some c.n-item.is))
    (λ h. false≢true (c.if-not-is_within.ensures.1 (subst (IsWithin c.args.bound) (sym c.vector.ensures.is) h)))

pub loop-n-preserved : goal.loop-n-preserved
loop-n-preserved c =
    All-more (IsWithin c.args.bound) c.args.normals.now c.loop-n.n-index c.n-item.result c.loop-n-test.true c.loop-n.invariant
    (subst (IsWithin c.args.bound) (c.vector.ensures.is ∙ c.n-item.is) (c.if-not-is_within.ensures.0 refl))

pub returns : goal.returns
returns c = all_kept (IsWithin c.args.bound) c.args.normals.now c.loop-n.n-index c.loop-n-test.false c.loop-n.invariant
