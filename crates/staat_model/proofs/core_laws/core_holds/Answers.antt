use Rattle.staat_model.proofs.CoreLemmas.{free_at_vertex_lemma}
use Rattle.staat_model.proofs.core_laws.core_holds.Goals as goal

pub returns-clause-holds : goal.returns-clause-holds
returns-clause-holds c parts core w planes d each has at_vertices some s side free =
    let at = free_at_vertex_lemma parts core planes s _ d each has some free in
    at_vertices at.v at.vertex s side at.free

pub returns-clause-stuck : goal.returns-clause-stuck
returns-clause-stuck c parts core w planes each two has at_vertices = record {
  two = two;
  held = λ s d side free. returns-clause-holds c parts core w planes d each has at_vertices free.moves s side (λ arc listed. free.clear arc);
}
