use Rattle.std.proofs.Common.{◌≡◌, ◌∙◌, sym, refl, subst, below_more, get_or, arith}
use Rattle.std.proofs.lemmas.Bool.{false≢true}
use Rattle.std.proofs.lemmas.List.{get_or_default}
use Rattle.staat_vec.specs.declared.vector.V3.{V3}
use Rattle.staat_vec.specs.Vectors.{cross, minus, origin}
use Rattle.staat_model.proofs.solid.normal_off_line.Goals as goal

pub normal_of-n-requires-clause-p : goal.normal_of-n-requires-clause-p
normal_of-n-requires-clause-p c = c.requires.points c.loop-p.p-index _ c.loop-p-test.true

pub returns-then-not-is_same-clause-line : goal.returns-then-not-is_same-clause-line
returns-then-not-is_same-clause-line c = (
  λ e. false≢true (sym c.if-not-is_same.true ∙ c.is_same.ensures.1 e),
  (c.loop-p.p-index, get_or c.args.points.now c.loop-p.p-index origin, c.loop-p-test.true, get_or_default c.args.points.now c.loop-p.p-index _ origin c.loop-p-test.true, c.normal_of-n.ensures.value),
)

pub loop-p-preserved : goal.loop-p-preserved
loop-p-preserved c = λ k d. below_more _ c.loop-p.p-index (λ n. c.loop-p.invariant n d) (subst (λ (p : V3). cross c.args.along (minus p c.args.a) ≡ origin) (get_or_default c.args.points.now c.loop-p.p-index origin d c.loop-p-test.true) (sym c.normal_of-n.ensures.value ∙ c.if-not-is_same.ensures.0 refl)) k

pub returns-clause-line : goal.returns-clause-line
returns-clause-line c = λ k d h. c.loop-p.invariant k d (omega arith)
