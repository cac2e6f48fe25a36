use Rattle.std.proofs.Common.{◌≡◌, ◌∙◌, ◌++◌, ◌∷◌, [], ap, rules}
use Rattle.std.specs.Int.{w128}
use Rattle.std.specs.Fmt.{signed_decimal}
use Rattle.std.proofs.lemmas.Int.{to_z-of_z}
use Rattle.std.proofs.lemmas.Result.{IfOk-weaker}
use Rattle.staat_model.specs.Lines.{vector_numbers}
use Rattle.staat_text.specs.PlanTexts.{numbers_before}
use Rattle.staat_text.proofs.CellLines.{three_pushed}
use Rattle.staat_text.proofs.cells.push_vector.Goals as goal

pub returns : goal.returns
returns c =
    let d = c.args.d in
    let old = c.args.line.now.items in
    let one = c.push_spaced.new.line.items in
    let two = c.push_spaced-2.new.line.items in
    let new = c.push_spaced-3.new.line.items in
    IfOk-weaker c.push_spaced-3.result _ (λ _. new ≡ old ++ numbers_before (vector_numbers d) [])
    (λ _ last.
    three_pushed d old one two new
    (c.in_ok-push_spaced.ensures ∙ ap (λ t. old ++ 32 ∷ signed_decimal t) (to_z-of_z w128 d.x (search rules)))
    (c.in_ok-push_spaced-2.ensures ∙ ap (λ t. one ++ 32 ∷ signed_decimal t) (to_z-of_z w128 d.y (search rules)))
    (last ∙ ap (λ t. two ++ 32 ∷ signed_decimal t) (to_z-of_z w128 d.z (search rules))))
    c.push_spaced-3.ensures
