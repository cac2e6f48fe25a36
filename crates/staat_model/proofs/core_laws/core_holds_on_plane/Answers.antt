use Rattle.staat_model.proofs.CoreLemmas.{free_at_crossing_lemma}
use Rattle.staat_model.proofs.core_laws.core_holds_on_plane.Goals as goal

pub returns-clause-holds : goal.returns-clause-holds
returns-clause-holds c parts core w planes g d each has g_some at_crossings some on s side free =
    let at = free_at_crossing_lemma parts core planes g s _ d each has g_some some on free in
    at_crossings at.v at.crossing s side at.free

pub returns-clause-none : goal.returns-clause-none
returns-clause-none c parts core w planes g d each has g_some at_crossings on serves =
    returns-clause-holds c parts core w planes g d each has g_some at_crossings serves.free.moves on serves.side serves.is_side (λ arc listed. serves.free.clear arc)
