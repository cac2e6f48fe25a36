use Rattle.std.proofs.Common.{[], ◌∷◌, true, pos, ◌<ℤ◌, ◌≡◌, ◌≢◌, ◌∙◌, ◌≤◌, ap, arith, length, subst, sym}
use Rattle.std.proofs.lemmas.Int.{ints}
use Rattle.staat_vec.specs.{Primitives.{IsCanon, canon}, Vectors.{negative, origin}}
use Rattle.staat_vec.specs.{declared.vector.TheConstants.DIRECTION, declared.vector.V3.V3}
use Rattle.staat_vec.proofs.{Canons.IsCanon-canon, VectorLaws.negative_some}
use Rattle.staat_model.specs.{Outcomes.IsStep, declared.tree.Kind.TheVariants.Point}
use Rattle.staat_planes.specs.SetPlanes.{ArePlanesIn}
use Rattle.staat_cells.proofs.SomeCells.{some_cells}
use Rattle.staat_plan.specs.LoneLines.{OnlyPlanesThroughServe}
use Rattle.staat_plan.proofs.LoneLineLemmas.{first_vertex, line_step}
use Rattle.staat_plan.proofs.lone_step.lone_step.Goals as goal

canon_some : (v : V3) → IsCanon v → v ≢ origin
canon_some v canonical e =
    let none : pos 0 <ℤ pos 0 = subst IsCanon e canonical in absurd (omega (arith, ints, none))

pub returns : goal.returns
returns c parts made =
    let w = c.args.w in
    let v = c.args.first.d in
    let planes = c.in_ok-planes.planes.items in
    let in_table : ArePlanesIn c.args.table.now w planes = c.in_ok-planes.ensures in
    let are = in_table.are parts made in
    let few : length planes ≤ 256 = (let le = in_table.few in let most = c.requires.few in omega (arith, le, most)) in
    let (cells, all) = some_cells planes in_table.rules few in
    let step = c.requires.step parts made in
    let d_is : c.neg-d.result ≡ negative (canon v) = c.neg-d.ensures.value ∙ ap negative c.canon.ensures.value in
    let moves = rw d_is at (c.in-Some.ensures.moves parts c.neg-d.result (subst (λ d. d ≢ origin) (sym d_is)
    (negative_some (canon v) (canon_some (canon v) (IsCanon-canon v c.requires.nonzero)))) (c.graph_in-graph.ensures.shows parts made)) in
    let lone = subst (λ ps. OnlyPlanesThroughServe parts w ps v) c.as_slice.ensures.value
    (c.is_lone.ensures c.if-not-is_lone.false parts made) in
    subst (λ d. IsStep true parts w (record { d = d; mark = Point ∷ [] }) c.in-Some.moved) (sym d_is)
    (line_step parts made.assembly w planes are v c.requires.nonzero lone
    (first_vertex parts w c.args.first.moved planes v are step) moves.0 cells all c.in-Some.moved moves.1)

pub graph_in-graph-requires-clause-direction : goal.graph_in-graph-requires-clause-direction
graph_in-graph-requires-clause-direction c =
    c.neg-d.ensures.size DIRECTION (c.canon.ensures.size DIRECTION c.requires.size)
