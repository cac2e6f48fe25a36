use Rattle.std.proofs.Common.{subst, sym}
use Rattle.staat_cone.specs.Few.{IsGrown}
use Rattle.staat_cone.specs.Pairs.{AddsEdges}
use Rattle.staat_cone.proofs.FewLemmas.{grown_with}
use Rattle.staat_cone.proofs.few.Few.insert.Goals as goal

pub returns-clause-grown : goal.returns-clause-grown
returns-clause-grown c p q is =
    let few = c.args.self.now in
    let untested = c.add_edges_through.new.out.items in
    let adds = subst (λ vs. AddsEdges vs c.args.v few.untested.items untested) c.as_slice-members.ensures.value c.in_ok-add_edges_through.ensures in
    subst (λ vs. IsGrown p q vs untested few.found.items) (sym c.in_ok-push.ensures.items) (grown_with p q few.members.items few.untested.items few.found.items untested c.args.v adds is)
