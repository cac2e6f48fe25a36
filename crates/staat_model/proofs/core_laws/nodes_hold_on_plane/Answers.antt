use Rattle.staat_model.proofs.CoreLemmas.{free_at_crossing_lemma}
use Rattle.staat_model.proofs.GroupLemmas.{free_keeps_whole}
use Rattle.staat_model.proofs.core_laws.nodes_hold_on_plane.Goals as goal

pub returns-clause-holds : goal.returns-clause-holds
returns-clause-holds c parts core nodes planes g d each has g_some at_crossings some on s side whole free =
    let at = free_at_crossing_lemma parts core planes g s _ d each has g_some some on free in
    at_crossings at.v at.crossing s side whole at.free

pub returns-clause-none : goal.returns-clause-none
returns-clause-none c parts core nodes planes g d each are has g_some at_crossings on serves =
    let free = serves.free in
    returns-clause-holds c parts core nodes planes g d each has g_some at_crossings free.moves on serves.side serves.is_side
    (free_keeps_whole parts nodes serves.side d are.each free) (λ arc listed. free.clear arc)
