use Rattle.std.proofs.Common.{◌<◌, subst, sym}
use Rattle.staat_model.specs.Certificates.{IsAcross}
use Rattle.staat_model.proofs.ArcOrder.{less_by_a}
use Rattle.staat_model.proofs.SomePlanes.{part_there}
use Rattle.staat_check.proofs.MissingLemmas.{all_below, least_here}
use Rattle.staat_check.proofs.split.Parting.first_missing.Goals as goal

pub returns-in-loop-a : goal.returns-in-loop-a
returns-in-loop-a c = least_here (IsAcross c.args.self.now.assembly.now c.args.self.now.side c.args.self.now.rest) c.args.self.now.seps.now (λ arc. arc.a)
    c.loop-a.a c.in-Some.arc c.loop-a.invariant (λ y p q lt. less_by_a c.in-Some.arc y lt) c.in-Some.ensures

pub returns : goal.returns
returns c =
    let parts = c.args.self.now.assembly.now in
    all_below (IsAcross parts c.args.self.now.side c.args.self.now.rest) c.args.self.now.seps.now (λ arc. arc.a) c.loop-a.a c.parts-a-end.result
    c.loop-a.invariant c.loop-a-test.false
    (λ arc p. subst (λ n. arc.a < n) (sym c.parts-a-end.ensures.count) (part_there parts arc.a arc.i p.i_in))
