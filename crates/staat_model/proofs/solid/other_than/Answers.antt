use Rattle.std.proofs.Common.{◌∙◌, below_more, sym, arith}
use Rattle.std.proofs.lemmas.Bool.{false≢true}
use Rattle.std.proofs.lemmas.List.{get_or_default}
use Rattle.std.proofs.lemmas.List.Elements.{Contains-get_or}
use Rattle.staat_vec.specs.Vectors.{origin}
use Rattle.staat_model.proofs.solid.other_than.Goals as goal

pub returns-then-not-is_same : goal.returns-then-not-is_same
returns-then-not-is_same c = (Contains-get_or c.args.points.now c.loop-p.p-index _ c.loop-p-test.true, λ e. false≢true (sym c.if-not-is_same.true ∙ c.is_same.ensures.1 e))

pub loop-p-preserved : goal.loop-p-preserved
loop-p-preserved c =
    let i = c.loop-p.p-index in
    let here = c.is_same.ensures.0 c.if-not-is_same.false in λ k d.
    below_more _ i (λ n. c.loop-p.invariant n d) (get_or_default c.args.points.now i d origin c.loop-p-test.true ∙ here) k

pub returns : goal.returns
returns c = λ k d h. c.loop-p.invariant k d (omega arith)
