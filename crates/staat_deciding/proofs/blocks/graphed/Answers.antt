use Rattle.std.proofs.Common.{◌<◌, ◌∙◌, All, List, ap, arith, length, refl, subst, sym}
use Rattle.staat_model.specs.declared.assembly.Part.{Part}
use Rattle.staat_decide.proofs.Picked.{numbers_small}
use Rattle.staat_input.proofs.AnswerLemmas.{memory_out}
use Rattle.staat_deciding.proofs.BlockingRows.{count_kept, rows_graphed, square_kept}
use Rattle.staat_deciding.proofs.blocks.graphed.Goals as goal

pub rows_of-requires-clause-members : goal.rows_of-requires-clause-members
rows_of-requires-clause-members c =
    subst (All (λ p. p < length c.as_slice-parts.result.now)) (sym (c.as_slice.ensures.value ∙ c.in_ok-all.ensures)) (numbers_small (length c.as_slice-parts.result.now))

pub rows_text-requires-clause-square : goal.rows_text-requires-clause-square
rows_text-requires-clause-square c =
    square_kept c.as_slice-parts.result.now _ c.as_slice.result.now c.in_ok-rows.rows.items c.as_slice-2.result.now
    (c.as_slice.ensures.value ∙ c.in_ok-all.ensures) c.in_ok-rows.ensures c.as_slice-2.ensures.value

pub rows_text-requires-clause-few : goal.rows_text-requires-clause-few
rows_text-requires-clause-few c =
    let count =
    count_kept c.as_slice-parts.result.now _ c.as_slice.result.now c.in_ok-rows.rows.items c.as_slice-2.result.now
    (c.as_slice.ensures.value ∙ c.in_ok-all.ensures) c.in_ok-rows.ensures c.as_slice-2.ensures.value in
    let same = ap (λ (parts : List Part). length parts) c.as_slice-parts.ensures.parts in
    let most = c.as_slice-parts.ensures.product.at_most in
    omega (arith, count, same, most)

pub returns : goal.returns
returns c = record {
  status = omega arith;
  found = rows_graphed c.args.product.now c.as_slice-parts.result.now c.args.along c.in_ok-motion.motion.d c.as_slice.result.now c.in_ok-rows.rows.items c.as_slice-2.result.now _
      (c.as_slice-parts.ensures.parts ∙ c.product.ensures.product) c.in_ok-motion.ensures.direction (c.as_slice.ensures.value ∙ c.in_ok-all.ensures)
      c.in_ok-rows.ensures c.as_slice-2.ensures.value c.in_ok-text.ensures refl;
  cause = λ shelf. tt;
}

pub returns-in_err-bodies : goal.returns-in_err-bodies
returns-in_err-bodies c = memory_out c.from_residual.ensures.1

pub returns-in_err-motion : goal.returns-in_err-motion
returns-in_err-motion c = memory_out c.from_residual-in_err-motion.ensures.1

pub returns-in_err-all : goal.returns-in_err-all
returns-in_err-all c = memory_out c.from_residual-in_err-all.ensures.1

pub returns-in_err-rows : goal.returns-in_err-rows
returns-in_err-rows c = memory_out c.from_residual-in_err-rows.ensures.1

pub returns-in_err-text : goal.returns-in_err-text
returns-in_err-text c = memory_out c.from_residual-in_err-text.ensures.1
