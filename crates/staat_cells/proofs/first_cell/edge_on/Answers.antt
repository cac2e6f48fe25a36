use Rattle.std.proofs.Common.{lit≤, ◌∙◌}
use Rattle.staat_vec.specs.declared.vector.TheConstants.{EDGE, VERTEX}
use Rattle.staat_vec.specs.Vectors.{plus}
use Rattle.staat_vec.proofs.Bounds.{IsWithin-wider}
use Rattle.staat_cells.proofs.LeastCell.{low_edge}
use Rattle.staat_cells.proofs.first_cell.edge_on.Goals as goal

pub add-requires-clause-a : goal.add-requires-clause-a
add-requires-clause-a c =
    IsWithin-wider VERTEX EDGE c.primitive.result (lit≤ tt)
    (c.primitive.ensures.size VERTEX c.in-Some.ensures.first_size)

pub add-requires-clause-b : goal.add-requires-clause-b
add-requires-clause-b c =
    IsWithin-wider VERTEX EDGE c.primitive-in-Some.result (lit≤ tt)
    (c.primitive-in-Some.ensures.size VERTEX c.in-Some.ensures.second_size)

pub returns-in-Some : goal.returns-in-Some
returns-in-Some c =
    low_edge c.args.planes.now c.requires.planes c.args.g c.requires.g c.in-Some.ends c.in-Some.ensures c.add.result
    (c.add.ensures.value ∙ (λ i. plus (c.primitive.ensures.value i) (c.primitive-in-Some.ensures.value i)))
    (c.add.ensures.vertices (c.primitive.ensures.size VERTEX c.in-Some.ensures.first_size)
    (c.primitive-in-Some.ensures.size VERTEX c.in-Some.ensures.second_size))
