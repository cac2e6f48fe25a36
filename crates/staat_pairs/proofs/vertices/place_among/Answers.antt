use Rattle.staat_pairs.proofs.vertices.place_among.Goals as goal
use Rattle.staat_vec.proofs.VectorLists.{found_at, not_found}

pub returns-in-Ok : goal.returns-in-Ok
returns-in-Ok c = found_at c.args.listed.now c.args.n c.in-Ok.k c.in-Ok.ensures.bound c.in-Ok.ensures.ok

pub returns-in-Err : goal.returns-in-Err
returns-in-Err c = not_found c.args.listed.now c.args.n c.in-Err.field-0 c.requires c.in-Err.ensures.position
