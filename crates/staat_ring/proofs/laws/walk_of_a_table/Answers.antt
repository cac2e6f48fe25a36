use Rattle.staat_ring.proofs.ArcLaw.{is_counted, pairs_block}
use Rattle.staat_ring.proofs.laws.walk_of_a_table.Goals as goal

pub returns-clause-counts : goal.returns-clause-counts
returns-clause-counts c parts t walk v w h arc across a_in b_in =
    is_counted parts t walk.signs h.linked v w h.from h.table h.made h.signs h.within h.all arc across a_in b_in

pub returns-clause-blocks : goal.returns-clause-blocks
returns-clause-blocks c parts t walk v w h a b a_in b_in =
    pairs_block parts t walk.signs h.linked v w h.from h.table h.made h.signs h.within h.all a b a_in b_in
