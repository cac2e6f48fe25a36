use Rattle.std.proofs.Common.{◌≡◌, ◌∙◌, pos, below_more, subst, sym, arith}
use Rattle.std.proofs.lemmas.Bool.{false≢true}
use Rattle.std.proofs.lemmas.List.{get_or_default}
use Rattle.std.proofs.lemmas.List.Elements.{Contains-get_or}
use Rattle.staat_vec.specs.declared.vector.V3.{V3}
use Rattle.staat_vec.specs.Vectors.{dot, minus, origin}
use Rattle.staat_model.proofs.solid.off_plane.Goals as goal

pub is_on_plane-requires-clause-p : goal.is_on_plane-requires-clause-p
is_on_plane-requires-clause-p c = c.requires.points c.loop-p.p-index _ c.loop-p-test.true

pub returns-then-not-is_on_plane : goal.returns-then-not-is_on_plane
returns-then-not-is_on_plane c = (Contains-get_or c.args.points.now c.loop-p.p-index _ c.loop-p-test.true, λ e. false≢true (sym c.if-not-is_on_plane.true ∙ c.is_on_plane.ensures.1 e))

pub loop-p-preserved : goal.loop-p-preserved
loop-p-preserved c =
    let i = c.loop-p.p-index in
    let here = c.is_on_plane.ensures.0 c.if-not-is_on_plane.false in λ k d.
    below_more _ i (λ n. c.loop-p.invariant n d)
    (subst (λ (p : V3). dot c.args.n (minus p c.args.a) ≡ pos 0) (get_or_default c.args.points.now i origin d c.loop-p-test.true) here) k

pub returns : goal.returns
returns c = λ k d h. c.loop-p.invariant k d (omega arith)
