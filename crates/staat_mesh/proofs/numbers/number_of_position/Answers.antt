use Rattle.staat_mesh.proofs.numbers.number_of_position.Goals as goal
use Rattle.staat_vec.proofs.VectorLists.{found_at, not_found}

pub returns-in-Ok-clause-at : goal.returns-in-Ok-clause-at
returns-in-Ok-clause-at c = λ _. found_at c.args.points.now c.args.position c.in-Ok.number c.in-Ok.ensures.bound c.in-Ok.ensures.ok

pub returns-in-Err-clause-at : goal.returns-in-Err-clause-at
returns-in-Err-clause-at c = λ h. absurd (not_found c.args.points.now c.args.position c.in-Err.field-0 c.requires.ascending c.in-Err.ensures.position h)
