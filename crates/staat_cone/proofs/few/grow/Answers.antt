use Rattle.std.proofs.Common.{◌≡◌, [], ◌∷◌, ap, arith, length, length-append, subst}
use Rattle.staat_cone.specs.Few.{IsGrown}
use Rattle.staat_cone.proofs.FewLemmas.{nothing_taken, spanning_grown}
use Rattle.staat_cone.proofs.Sources.{listed_by_few}
use Rattle.staat_cone.proofs.few.grow.Goals as goal

pub returns-in_default-clause-facets : goal.returns-in_default-clause-facets
returns-in_default-clause-facets c =
    let few = c.loop-round.few in
    let none : few.untested.items ≡ [] = nothing_taken few.untested.items c.pop.new.self.items _ c.in_default.ensures.items c.in_default.ensures.variant c.in_default.ensures.rest in
    listed_by_few c.args.p.now c.args.q.now few.members.items few.found.items c.in_order.result.items
    (subst (λ xs. IsGrown c.args.p.now c.args.q.now few.members.items xs few.found.items) none c.loop-round.invariant.grown) c.loop-round.invariant.spanning c.in_order.ensures

pub loop-round-preserved : goal.loop-round-preserved
loop-round-preserved c = record {
  grown = c.in_ok-settle.ensures.grown;
  spanning = spanning_grown c.loop-round.few.members.items c.settle.new.few.members.items c.in_ok-settle.ensures.kept c.loop-round.invariant.spanning;
  whole = λ h.
      let before = c.loop-round.invariant.whole h in
      let rest = ap length (c.in_ok-settle.ensures.whole before.0) in
      let taken = ap length c.in-Some.ensures.items in
      let one = length-append c.pop.new.self.items (c.in-Some.n ∷ []) in
      let count = before.1 in (λ v d. c.in_ok-settle.ensures.kept v (before.0 v d), omega (arith, rest, taken, one, count));
}
