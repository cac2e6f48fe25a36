use Rattle.std.proofs.Common.{◌≡◌, ◌≢◌, arith, pos, refl, rules}
use Rattle.std.proofs.lemmas.Int.{ints}
use Rattle.staat_vec.specs.Vectors.{vector}
use Rattle.staat_cells.proofs.LeastCell.{x_leads, y_leads, z_leads}
use Rattle.staat_cells.proofs.first_cell.axis_ends.Goals as goal

pub ends_between-requires-clause-turn : goal.ends_between-requires-clause-turn
ends_between-requires-clause-turn c =
    let some : c.args.g.x ≢ pos 0 = search rules in
    let up = x_leads c.args.g c.requires.canonical some in omega (arith, ints, up)

pub ends_between-requires-then-g-ne0-2-clause-turn : goal.ends_between-requires-then-g-ne0-2-clause-turn
ends_between-requires-then-g-ne0-2-clause-turn c =
    let none : c.args.g.x ≡ pos 0 = search rules in
    let some : c.args.g.y ≢ pos 0 = search rules in
    let up = y_leads c.args.g c.requires.canonical none some in omega (arith, ints, up)

pub ends_between-requires-else-g-ne0-2-clause-turn : goal.ends_between-requires-else-g-ne0-2-clause-turn
ends_between-requires-else-g-ne0-2-clause-turn c =
    let none : c.args.g.x ≡ pos 0 = search rules in
    let also : c.args.g.y ≡ pos 0 = search rules in
    let up = z_leads c.args.g c.requires.canonical none also in omega (arith, ints, up)

pub returns-then-g-ne0 : goal.returns-then-g-ne0
returns-then-g-ne0 c planes listed = c.ends_between.ensures planes
    (listed (vector (pos 0) (pos 0) (pos 1)) (2, omega arith, refl))
    (listed (vector (pos 0) (pos 1) (pos 0)) (1, omega arith, refl))

pub returns-then-g-ne0-2 : goal.returns-then-g-ne0-2
returns-then-g-ne0-2 c planes listed = c.ends_between-then-g-ne0-2.ensures planes
    (listed (vector (pos 1) (pos 0) (pos 0)) (0, omega arith, refl))
    (listed (vector (pos 0) (pos 0) (pos 1)) (2, omega arith, refl))

pub returns-else-g-ne0-2 : goal.returns-else-g-ne0-2
returns-else-g-ne0-2 c planes listed = c.ends_between-else-g-ne0-2.ensures planes
    (listed (vector (pos 0) (pos 1) (pos 0)) (1, omega arith, refl))
    (listed (vector (pos 1) (pos 0) (pos 0)) (0, omega arith, refl))
