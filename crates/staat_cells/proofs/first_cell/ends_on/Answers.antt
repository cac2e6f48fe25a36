use Rattle.std.proofs.Common.{Contains, ◌∙◌, ◌++◌, ◌∷◌, [], subst, sym, take}
use Rattle.std.proofs.lemmas.List.{take_all, take_more}
use Rattle.std.proofs.lemmas.List.Elements.{Contains-get_or}
use Rattle.staat_cells.specs.FirstCell.{AreArcEnds}
use Rattle.staat_cells.proofs.TableRules.{axis_in}
use Rattle.staat_cells.proofs.first_cell.ends_on.Goals as goal

pub loop-h-init : goal.loop-h-init
loop-h-init c =
    c.axis_ends-ends.ensures c.args.planes.now (λ m axis. axis_in c.args.planes.now m c.requires.planes axis)

pub returns-in-None : goal.returns-in-None
returns-in-None c =
    let planes = c.args.planes.now in
    let listed = Contains-get_or planes c.loop-h.h-index c.h-item.result c.loop-h-test.true in
    c.in-None.ensures planes (take c.loop-h.h-index planes)
    (subst (Contains planes) (sym (c.vector.ensures.is ∙ c.h-item.is)) listed) c.loop-h.invariant

pub loop-h-preserved : goal.loop-h-preserved
loop-h-preserved c =
    let planes = c.args.planes.now in
    let passed = take c.loop-h.h-index planes in
    let is = c.vector.ensures.is ∙ c.h-item.is in
    let listed = Contains-get_or planes c.loop-h.h-index c.h-item.result c.loop-h-test.true in
    subst (λ l. AreArcEnds planes c.args.g l c.in-Some.new)
    (sym (take_more planes c.loop-h.h-index c.h-item.result c.loop-h-test.true))
    (subst (λ h. AreArcEnds planes c.args.g (passed ++ h ∷ []) c.in-Some.new) is
    (c.in-Some.ensures planes passed (subst (Contains planes) (sym is) listed) c.loop-h.invariant))

pub returns : goal.returns
returns c =
    let planes = c.args.planes.now in
    subst (λ l. AreArcEnds planes c.args.g l c.loop-h.ends) (take_all c.loop-h.h-index planes c.loop-h-test.false)
    c.loop-h.invariant
