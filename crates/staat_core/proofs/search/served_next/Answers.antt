use Rattle.std.proofs.Common.{subst, sym, All}
use Rattle.staat_planes.specs.PairOrder.{vertices_left}
use Rattle.std.proofs.lemmas.List.Elements.{All-nil}
use Rattle.staat_core.proofs.SearchSteps.{first_of_pair, pair_tried}
use Rattle.staat_core.proofs.search.served_next.Goals as goal

pub returns-in_default-clause-first : goal.returns-in_default-clause-first
returns-in_default-clause-first g c parts made knows =
    subst (All (λ v. g.T.Trial.serves parts c.args.w v → ⊥)) (sym c.in_default.ensures.crossing) (All-nil (λ v. g.T.Trial.serves parts c.args.w v → ⊥))

pub returns-in-Some-served_at-clause-first : goal.returns-in-Some-served_at-clause-first
returns-in-Some-served_at-clause-first g c parts made knows =
    let left = vertices_left c.args.table.now.planes in
    first_of_pair (g.T.Trial.serves parts c.args.w) (g.T.Trial.finds parts c.args.w) (left c.args.pairs.now) (left c.next_crossing.new.self) c.in-Some.d c.in-Some-served_at.served
    c.in-Some.ensures.crossing (c.in-Some-served_at.ensures.served parts made knows)

pub returns-in-None-clause-first : goal.returns-in-None-clause-first
returns-in-None-clause-first g c parts made knows =
    let left = vertices_left c.args.table.now.planes in
    pair_tried (g.T.Trial.serves parts c.args.w) (left c.args.pairs.now) (left c.next_crossing.new.self) c.in-Some.d c.in-Some.ensures.crossing (c.in-None.ensures.served parts made knows)
