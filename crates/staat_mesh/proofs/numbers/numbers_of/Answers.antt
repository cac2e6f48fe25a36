use Rattle.std.proofs.Common.{◌≡◌, ◌∙◌, ℕ, List, Some, take, ◌+◌, sym, subst}
use Rattle.std.specs.Prelude.{Contains, slice_get}
use Rattle.staat_vec.specs.declared.vector.V3.{V3}
use Rattle.staat_mesh.specs.Counts.{Numbers}
use Rattle.staat_mesh.proofs.NumberLemmas.{numbers_all, numbers_more}
use Rattle.staat_mesh.proofs.numbers.numbers_of.Goals as goal

pub loop-vertex-preserved : goal.loop-vertex-preserved
loop-vertex-preserved c =
    let points = c.args.points.now in
    let positions = c.args.vertices.now in
    let i = c.loop-vertex.vertex-index in
    let item = c.vertex-item.result in
    let n = c.number_of_position.result in
    let at = subst (λ (p : V3). Contains points p → slice_get points n ≡ Some p) (c.point.ensures ∙ c.vertex-item.is) c.number_of_position.ensures.at in
    subst (λ (numbers : List ℕ). Numbers points (take (i + 1) positions) numbers) (sym c.in_ok-push.ensures.items) (numbers_more points positions i item _ _ c.loop-vertex-test.true c.loop-vertex.invariant at c.number_of_position.ensures.below)

pub returns : goal.returns
returns c = numbers_all _ c.args.vertices.now _ _ c.loop-vertex-test.false c.loop-vertex.invariant
