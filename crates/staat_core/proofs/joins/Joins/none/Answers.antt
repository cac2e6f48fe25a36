use Rattle.staat_core.proofs.joins.Joins.none.Goals as goal
use Rattle.staat_graph.proofs.Arcs.{empty_graph}

pub returns-clause-ahead : goal.returns-clause-ahead
returns-clause-ahead c = empty_graph

pub returns-clause-reversed : goal.returns-clause-reversed
returns-clause-reversed c a b = (λ h. absurd (empty_graph a b h), λ h. absurd (empty_graph b a h))
