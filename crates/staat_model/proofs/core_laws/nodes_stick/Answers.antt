use Rattle.staat_model.proofs.CoreLemmas.{free_at_vertex_lemma}
use Rattle.staat_model.proofs.GroupLemmas.{nodes_stuck_lemma}
use Rattle.staat_model.proofs.core_laws.nodes_stick.Goals as goal

pub returns-clause-holds : goal.returns-clause-holds
returns-clause-holds c parts core nodes planes d each has at_vertices some s side whole free =
    let at = free_at_vertex_lemma parts core planes s _ d each has some free in
    at_vertices at.v at.vertex s side whole at.free

pub returns-clause-stuck : goal.returns-clause-stuck
returns-clause-stuck c = nodes_stuck_lemma
