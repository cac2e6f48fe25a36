use Rattle.std.proofs.Common.{◌∙◌, ap, length, sym, subst, Err}
use Rattle.staat_text.specs.CellTexts.{IsCellsAnswer}
use Rattle.staat_directions.specs.CellTables.{AreTabled}
use Rattle.staat_input.specs.Work.{Follows}
use Rattle.staat_directions.proofs.CellsLemmas.{tabled_refused, tabled_text}
use Rattle.staat_directions.proofs.cells.tabled.Goals as goal

pub returns-in-Ok-clause-tabled : goal.returns-in-Ok-clause-tabled
returns-in-Ok-clause-tabled c =
    let count = c.parts-parts.ensures.count ∙ ap length c.assembly.ensures.assembly in
    let answer = subst (IsCellsAnswer c.args.sound.now c.parts-parts.result) c.in-Ok.is (c.cells_text.ensures.all c.in_ok-cells.ensures.cells c.args.sound.now c.requires.made) in
    tabled_text c.args.sound.now c.parts-parts.result c.in-Ok.text count answer

pub returns-clause-tabled : goal.returns-clause-tabled
returns-clause-tabled c =
    let count = c.parts-parts.ensures.count ∙ ap length c.assembly.ensures.assembly in
    let answer = subst (IsCellsAnswer c.args.sound.now c.parts-parts.result) c.in-Err.is (c.cells_text.ensures.all c.in_ok-cells.ensures.cells c.args.sound.now c.requires.made) in
    subst (λ f. Follows (AreTabled c.args.sound.now) (Err f)) (sym c.text_fault.ensures)
    (tabled_refused c.args.sound.now c.parts-parts.result c.in-Err.refusal count answer)
