use Rattle.std.proofs.Common.{◌≡◌, ◌∙◌, arith, Bool, List, [], IsTrue, get_or, subst, sym}
use Rattle.std.proofs.lemmas.Bool.{false≢true}
use Rattle.staat_decide.specs.Labels.{LeadsBack}
use Rattle.staat_decide.proofs.order.rows_keep.Goals as goal
use Rattle.staat_vec.proofs.ListLaws.{any_default}

pub returns-then-not-row_keeps : goal.returns-then-not-row_keeps
returns-then-not-row_keeps c =
    let labels = c.args.labels.now in
    let i = c.loop-i.i in
    let row : get_or c.args.rows.now i [] ≡ c.as_slice.result.now =
    any_default c.args.rows.now i [] c.index-rows-i.result (omega (arith, c.loop-i-test.true, c.requires.rows)) ∙ sym c.index-rows-i.is ∙ sym c.as_slice.ensures in (
      (λ f. absurd (false≢true f)),
      (λ all.
          let told : IsTrue c.row_keeps.result = c.row_keeps.ensures.1 (subst (λ (r : List Bool). LeadsBack r labels (get_or labels i 0)) row (all i c.loop-i-test.true)) in
          subst IsTrue c.if-not-row_keeps.true told),
    )
