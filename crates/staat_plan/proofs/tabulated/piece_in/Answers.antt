use Rattle.std.proofs.Common.{◌≡◌, inl, inr, ◌∙◌, ap, arith, sym, subst, true≢false}
use Rattle.std.specs.Prelude.{Some}
use Rattle.staat_vec.proofs.{Naturals.lt_one_more_cases, Options.some_injective}
use Rattle.staat_model.specs.Assemblies.{piece_at}
use Rattle.staat_model.proofs.PlanLemmas.{piece_within}
use Rattle.staat_plan.proofs.TableFacets.{same_points}
use Rattle.staat_plan.proofs.tabulated.piece_in.Goals as goal

pub returns-then-eq : goal.returns-then-eq
returns-then-eq c = c.piece.ensures ∙ ap Some (sym c.points.ensures.points ∙ (same_points c.points.result.now c.args.points.now).0 (sym c.eq.ensures ∙ c.if-eq.true))

pub loop-i-preserved : goal.loop-i-preserved
loop-i-preserved c = λ k lt at. elim (lt_one_more_cases k c.loop-i.i lt) [
  | inl before ↦ c.loop-i.invariant k before at
  | inr here ↦
      let other = some_injective c.piece.result.now c.args.points.now (sym c.piece.ensures ∙ subst (λ m. piece_at c.args.assembly.now c.args.a m ≡ Some c.args.points.now) here at) in
      true≢false (sym ((same_points c.points.result.now c.args.points.now).1 (c.points.ensures.points ∙ other)) ∙ sym c.eq.ensures ∙ c.if-eq.false)
]

pub returns : goal.returns
returns c = λ i at.
    let within = piece_within c.args.assembly.now c.args.a i c.args.points.now at in
    c.loop-i.invariant i (omega (arith, within, c.loop-i-test.false, c.pieces-i-end.ensures.count)) at
